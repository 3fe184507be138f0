-- `feeding::draugsten_replay_end` meets its contract.
use mathlib.Core.Path.{◌≡◌, refl, sym, ◌∙◌}
use mathlib.Core.Bool.{true}
use Rattle.replay_states.specs.States.{is_state}
use Rattle.draugsten_replay.specs.Feeding.{flat_end_of}
use Rattle.replay_states.proofs.States.{few, narrow}
use Rattle.draugsten_replay.proofs.Promises.{replay_promise}
use Rattle.draugsten_replay.proofs.feeding.draugsten_replay_end.Goals as goal

pub returns-then-not-is_state : goal.returns-then-not-is_state
unfolding flat_end_of
returns-then-not-is_state c =
    rw (sym c.is_state.ensures.value ∙ c.if-not-is_state.true) (record { value = refl; promise = replay_promise })

pub replay_alone-requires : goal.replay_alone-requires
replay_alone-requires c =
    let passed : is_state c.args.from ≡ true =
    sym c.is_state.ensures.value ∙ c.if-not-is_state.false in
    narrow _ (passed)

pub end-requires : goal.end-requires
end-requires c =
    let passed : is_state c.args.from ≡ true =
    sym c.is_state.ensures.value ∙ c.if-not-is_state.false in
    rw c.replay_alone.ensures (few _ (passed))

pub returns : goal.returns
unfolding flat_end_of
returns c =
    let passed : is_state c.args.from ≡ true =
    sym c.is_state.ensures.value ∙ c.if-not-is_state.false in
    rw (passed, c.flat_report_of.ensures, c.end.ensures.value, c.replay_alone.ensures) (record { value = refl; promise = replay_promise })
