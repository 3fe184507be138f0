-- `walking::visit` meets its contract.
use mathlib.Core.Path.{◌≡◌, ap, ◌∙◌}
use mathlib.Core.Bool.{true}
use Prim.Native.Nat.{◌+◌, ◌≤◌}
use native.Mathlib.Omega.{arith}
use lib.ListN.{length}
use Rattle.records.specs.declared.framing.Frame.{Frame}
use Rattle.journal.specs.Scope.{asking}
use Rattle.journal.specs.Journal.{number}
use Rattle.journal.specs.Holding.{good_here}
use Rattle.journal.proofs.GoodLaws.{node_by, property_by, property_passed}
use Rattle.journal.proofs.Walks.{walked, walked_fits, walked_size}
use Rattle.journal.proofs.walking.visit.Goals as goal

pub read_frame-frame-requires : goal.read_frame-frame-requires
read_frame-frame-requires c =
    let inside : c.args.at + 10 ≤ length c.args.j.now =
    omega (arith, walked_fits c.args.j.now c.args.at c.requires.0 c.requires.1, walked_size c.args.j.now c.args.at c.requires.0 c.requires.1) in
    omega (arith, inside)

pub returns-then-frame-gt4 : goal.returns-then-frame-gt4
returns-then-frame-gt4 c =
    let good : good_here c.args.j.now c.args.at ≡ true =
    walked c.args.j.now c.args.at c.requires.0 c.requires.1 in
    let frame = c.read_frame-frame.ensures in
    let kind = ap (λ (f : Frame). f.kind) frame in
    let p = property_by c.args.j.now c.args.at (omega (arith, c.requires.0)) (good) (omega (arith, kind)) in (
      c.record_size-size.ensures ∙ ap (λ (f : Frame). f.length + 2) frame,
      rw (property_passed c.args.j.now c.args.at (omega (arith, c.requires.0)) p (asking c.args.row.now c.args.units) (number c.args.opcode)),
    )

pub reported_here-reported-requires : goal.reported_here-reported-requires
reported_here-reported-requires c =
    let good : good_here c.args.j.now c.args.at ≡ true =
    walked c.args.j.now c.args.at c.requires.0 c.requires.1 in
    let kind = ap (λ (f : Frame). f.kind) c.read_frame-frame.ensures in
    (node_by c.args.j.now c.args.at (omega (arith, c.requires.0)) (good) (omega (arith, kind)), kind)

pub returns : goal.returns
returns c = (
  c.record_size-size.ensures ∙ ap (λ (f : Frame). f.length + 2) c.read_frame-frame.ensures,
  c.reported_here-reported.ensures,
)
