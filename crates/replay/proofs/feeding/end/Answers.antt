-- `feeding::end` meets its contract.
use mathlib.Core.Path.{sym, ◌∙◌}
use Rattle.replay.proofs.Leaves.{end_over, end_waits, end_held, end_clean}
use Rattle.replay.proofs.Ending.{replay_claims}
use Rattle.replay.proofs.feeding.end.Goals as goal

pub returns-then-not-is_going : goal.returns-then-not-is_going
returns-then-not-is_going c =
    record { value = end_over _ _ _ _ (sym c.is_going.ensures ∙ c.if-not-is_going.true); claims = replay_claims }

pub returns-then-is_some : goal.returns-then-is_some
returns-then-is_some c =
    record { value = end_waits _ _ _ _ (sym c.is_going.ensures ∙ c.if-not-is_going.false) (sym c.is_some.ensures ∙ c.if-is_some.true); claims = replay_claims }

pub returns-then-from-ne0 : goal.returns-then-from-ne0
returns-then-from-ne0 c =
    record { value = end_held _ _ _ _ (sym c.is_going.ensures ∙ c.if-not-is_going.false) (sym c.is_some.ensures ∙ c.if-is_some.false) c.if-from-ne0.true; claims = replay_claims }

pub returns : goal.returns
returns c =
    record { value = end_clean _ _ _ _ (sym c.is_going.ensures ∙ c.if-not-is_going.false) (sym c.is_some.ensures ∙ c.if-is_some.false) c.if-from-ne0.false; claims = replay_claims }
