-- What start, feed and end promise at the C boundary (document 02, M-110).
use Rattle.std.specs.Prelude.{ℕ, ◌≡◌, true, cond, List, drop}
use Rattle.std.proofs.lemmas.List.Edits.{sets}
use Rattle.records.specs.Cutting.{Standing, fed}
use Rattle.trace.specs.Playing.{Platform, State, is_over, reader}
use Rattle.playing.specs.Lent.{lender}
use Rattle.replay.specs.Feeding.{standing_of, lent_standing_of, completed, start_of, end_of}
use Rattle.replay_states.specs.declared.state.FlatReplay.{FlatReplay}
use Rattle.draugsten_replay.specs.declared.feeding.FlatFed.{FlatFed}
use Rattle.draugsten_replay.specs.declared.feeding.FlatEnded.{FlatEnded}
use Rattle.replay_states.specs.States.{flat_report, flat_report_of, report_of, waits, replay_in, flat_replay_of, is_state, judged}

abbrev pub platform : List ℕ → List ℕ → ℕ → Platform
platform journal inventory edition = record { journal = journal; inventory = inventory; edition = record { 0 = edition } }

-- where the replay of the definition stands
abbrev pub standing_in : List ℕ → List ℕ → List ℕ → FlatReplay → Standing State
standing_in held args memory f = standing_of held args memory (replay_in f)

-- A refused burst changes nothing. One that is taken is fed as the definition says, with every byte of the two lent buffers, and leaves a state that
-- is taken again;
-- bytes of `held` past 4,104 are never touched, and after a stop nothing is.
pub record FlatFeeds (journal inventory held args memory : List ℕ) (f : FlatReplay) (bytes heldThen argsThen memoryThen : List ℕ) (r : FlatFed) : Type 0 where
  pub number : r.number ≡ judged held args f
  pub refused : (judged held args f ≡ 0 → ⊥) → (r.replay ≡ f) × ((heldThen ≡ held) × ((argsThen ≡ args) × (memoryThen ≡ memory)))
  pub given : judged held args f ≡ 0 → standing_in heldThen argsThen memoryThen r.replay
      ≡ fed (reader (platform journal inventory f.edition)) (standing_in held args memory f) bytes
  pub lent : judged held args f ≡ 0
      → argsThen ≡ (fed (lender (platform journal inventory f.edition)) (lent_standing_of held args memory (replay_in f)) bytes).state.args
  pub whole : judged held args f ≡ 0
      → heldThen ≡ sets (completed held f.held bytes) 0 (fed (reader (platform journal inventory f.edition)) (standing_in held args memory f) bytes).held
  pub behind : drop 4104 heldThen ≡ drop 4104 held
  pub stopped : judged held args f ≡ 0 → is_over (report_of f.report) ≡ true → (heldThen ≡ held) × (argsThen ≡ args)
  pub again : judged held args f ≡ 0 → judged heldThen argsThen r.replay ≡ 0
  pub edition : r.replay.edition ≡ f.edition

abbrev pub flat_start : ℕ → FlatReplay
flat_start edition = flat_replay_of (start_of (record { 0 = edition }))

-- What an end tells. It changes nothing. 14 for a state that no start or feed gives, with a report that no trace has.
unfoldable pub flat_end_of : FlatReplay → FlatEnded
flat_end_of f =
    cond (is_state f)
    (record { number = 0; report = flat_report_of (end_of (report_of f.report) f.records (waits f) f.held) })
    (record { number = 14; report = flat_report 2 0 0 })
