-- `registration::copied` meets its contract.
use mathlib.Core.Path.{◌∙◌}
use Rattle.dump.proofs.Copies.{stored_padded}
use Rattle.dump.proofs.registration.copied.Goals as goal

pub returns : goal.returns
returns c =
    c.store.ensures ∙ stored_padded c.args.s.now c.requires
