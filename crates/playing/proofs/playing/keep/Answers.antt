-- `playing::keep` meets its contract.
use mathlib.Core.Path.{refl}
use Rattle.playing.proofs.Leaves.{kept_body}
use Rattle.playing.proofs.playing.keep.Goals as goal

pub returns : goal.returns
returns c =
    let a = c.args in
    record { value = refl; args_after = kept_body a.args.now a.item.now _ c.store.ensures }
