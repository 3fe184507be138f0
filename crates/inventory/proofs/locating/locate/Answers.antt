-- `locating::locate` meets its contract.
use mathlib.Core.Path.{◌≡◌, ap, ◌∙◌}
use Prim.Native.Nat.{◌+◌}
use native.Mathlib.Omega.{arith}
use lib.ListN.{drop}
use Rattle.records.specs.Records.{size_of}
use Rattle.records.specs.declared.framing.Frame.{Frame}
use Rattle.inventory.proofs.LocatedLaws.{located_read}
use Rattle.inventory.proofs.locating.locate.Goals as goal

pub overflow_sub-length : goal.overflow_sub-length
overflow_sub-length c =
    let size_is : c.record_size-size.result ≡ size_of (drop c.args.at c.args.inventory.now) =
    c.record_size-size.ensures ∙ ap (λ (f : Frame). f.length + 2) c.read_frame.ensures in
    omega (arith, size_is)

pub returns : goal.returns
returns c =
    let size_is : c.record_size-size.result ≡ size_of (drop c.args.at c.args.inventory.now) =
    c.record_size-size.ensures ∙ ap (λ (f : Frame). f.length + 2) c.read_frame.ensures in
    located_read c.requires _ _ (size_is) c.read_le32-index.ensures
