-- `coming::judge` meets its contract.
use mathlib.Core.Path.{◌≡◌, refl, sym, ◌∙◌}
use mathlib.Core.Bool.{true}
use lib.Seq.{length-take-le}
use borrow.Author.Tests.{le-leb, lt-leb}
use Rattle.replay_states.specs.States.{is_state}
use Rattle.replay_states.proofs.StateClaims.{states_exactly}
use Rattle.replay_states.proofs.States.{judged_by_lem, held_fits, ripe_not, ripe_is}
use Rattle.replay_states.proofs.coming.judge.Goals as goal

pub returns-then-held-lt4104 : goal.returns-then-held-lt4104
returns-then-held-lt4104 c =
    record { value = judged_by_lem _ _ _ (lt-leb _ _ c.if-held-lt4104.true) refl refl refl; claims = states_exactly }

pub returns-then-room-lt4100 : goal.returns-then-room-lt4100
returns-then-room-lt4100 c =
    record { value = judged_by_lem _ _ _ (le-leb _ _ c.if-held-lt4104.false) (lt-leb _ _ c.if-room-lt4100.true) refl refl; claims = states_exactly }

pub returns-then-not-is_state : goal.returns-then-not-is_state
returns-then-not-is_state c =
    record { value = judged_by_lem _ _ _ (le-leb _ _ c.if-held-lt4104.false) (le-leb _ _ c.if-room-lt4100.false) (sym c.is_state.ensures.value ∙ c.if-not-is_state.true) refl; claims = states_exactly }

pub slice_bounds-ripe_at-end : goal.slice_bounds-ripe_at-end
slice_bounds-ripe_at-end c =
    let passed : is_state c.args.flat ≡ true =
    sym c.is_state.ensures.value ∙ c.if-not-is_state.false in
    sym (length-take-le c.args.flat.held c.args.held.now (held_fits c.args.held.now c.args.flat c.if-held-lt4104.false (passed)))

pub returns-then-ripe_at-ne0 : goal.returns-then-ripe_at-ne0
returns-then-ripe_at-ne0 c =
    let passed : is_state c.args.flat ≡ true =
    sym c.is_state.ensures.value ∙ c.if-not-is_state.false in
    record { value = judged_by_lem _ _ _ (le-leb _ _ c.if-held-lt4104.false) (le-leb _ _ c.if-room-lt4100.false) (passed) (ripe_is _ _ c.ripe_at.ensures c.if-ripe_at-ne0.true); claims = states_exactly }

pub returns : goal.returns
returns c =
    let passed : is_state c.args.flat ≡ true =
    sym c.is_state.ensures.value ∙ c.if-not-is_state.false in
    record { value = judged_by_lem _ _ _ (le-leb _ _ c.if-held-lt4104.false) (le-leb _ _ c.if-room-lt4100.false) (passed) (ripe_not _ _ c.ripe_at.ensures c.if-ripe_at-ne0.false); claims = states_exactly }
