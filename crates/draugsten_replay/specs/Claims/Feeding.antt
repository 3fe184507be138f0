-- What is claimed of the definitions of `Feeding`.
use Rattle.std.specs.Prelude.{ℕ, suc, ◌-◌, ◌≤◌, ◌≡◌, true, false, List, ◌++◌, length, take, drop}
use Rattle.std.proofs.lemmas.List.Edits.{sets}
use Rattle.records.specs.Cutting.{due, start, fed}
use Rattle.trace.specs.declared.report.Report.TheVariants.{Agreed, Differs, Malformed}
use Rattle.crossing.specs.Registration.{registration_of}
use Rattle.crossing.specs.Record.{reading_of}
use Rattle.trace.specs.Playing.{Platform, none, call, is_over, begin, reader}
use Rattle.playing.specs.Lent.{Lent, lent_step, lender}
use Rattle.replay.specs.Feeding.{lent_standing_of, completed}
use Rattle.replay_states.specs.declared.state.FlatReplay.{FlatReplay}
use Rattle.draugsten_replay.specs.declared.feeding.FlatFed.{FlatFed}
use Rattle.replay_states.specs.States.{report_of, replay_in, is_state, judged_by, judged}
use Rattle.draugsten_replay.specs.Feeding.{platform, standing_in, FlatFeeds, flat_start, flat_end_of}

-- "starting with no registration and no reading in progress": what a start gives is taken, over any two buffers with room, and stands where the
-- definition begins.
abbrev pub StartAccepted : Type 0
StartAccepted =
    (held args memory : List ℕ) (edition : ℕ) → 4104 ≤ length held → 4100 ≤ length args
    → (judged held args (flat_start edition) ≡ 0) × (standing_in held args memory (flat_start edition) ≡ start (begin memory))

-- What a feed keeps: all if it is refused, the bytes of `held` past 4,104, and the two buffers after a stop. And the platform that it is over.
pub record FeedsExactly : Type 0 where
  pub kept : (journal inventory held args memory bytes heldThen argsThen memoryThen : List ℕ) (f : FlatReplay) (r : FlatFed)
      → FlatFeeds journal inventory held args memory f bytes heldThen argsThen memoryThen r
      → ((judged held args f ≡ 0 → ⊥) → (r.number ≡ judged held args f)
      × ((r.replay ≡ f) × ((heldThen ≡ held) × ((argsThen ≡ args) × (memoryThen ≡ memory)))))
      × ((drop 4104 heldThen ≡ drop 4104 held)
      × (judged held args f ≡ 0 → is_over (report_of f.report) ≡ true → (heldThen ≡ held) × (argsThen ≡ args)))
  -- what a feed that is taken gives: the definition's own, with the lent buffer, taken again, over the same edition
  pub taken : (journal inventory held args memory bytes heldThen argsThen memoryThen : List ℕ) (f : FlatReplay) (r : FlatFed)
      → FlatFeeds journal inventory held args memory f bytes heldThen argsThen memoryThen r → judged held args f ≡ 0
      → (standing_in heldThen argsThen memoryThen r.replay ≡ fed (reader (platform journal inventory f.edition)) (standing_in held args memory f) bytes)
      × (argsThen ≡ (fed (lender (platform journal inventory f.edition)) (lent_standing_of held args memory (replay_in f)) bytes).state.args)
      × (judged heldThen argsThen r.replay ≡ 0) × (r.replay.edition ≡ f.edition)
  -- its number, and every byte of the buffer of held bytes
  pub held_too : (journal inventory held args memory bytes heldThen argsThen memoryThen : List ℕ) (f : FlatReplay) (r : FlatFed)
      → FlatFeeds journal inventory held args memory f bytes heldThen argsThen memoryThen r → judged held args f ≡ 0
      → (r.number ≡ 0) × (heldThen ≡ sets (completed held f.held bytes) 0
      (fed (reader (platform journal inventory f.edition)) (standing_in held args memory f) bytes).held)
  -- the buffer of held bytes, before what is held now: with nothing held it stays; else the burst's bytes that are due go after the held ones
  pub completes : (p : Platform) (held bytes : List ℕ) (n : ℕ) → (completed held 0 bytes ≡ held)
      × (1 ≤ n → completed held n bytes ≡ sets held n (take (due (reader p).good (take n held ++ bytes) - n) bytes))
  pub over : (journal inventory : List ℕ) (edition : ℕ) → platform journal inventory edition
      ≡ record { journal = journal; inventory = inventory; edition = record { 0 = edition } }
  -- where a state stands: its held bytes, and the 32 that waits at the front of `args`, by one more than its size
  pub comes : (held args memory : List ℕ) (f : FlatReplay)
      → let w = standing_in held args memory f in
      (w.held ≡ take f.held held) × (w.state.records ≡ f.records) × (w.state.report ≡ report_of f.report) × (w.state.memory ≡ memory)
      × (w.state.registration ≡ registration_of f.registration) × (w.state.reading ≡ reading_of f.reading)
      × (f.waiting ≡ 0 → w.state.waiting ≡ none) × ((n : ℕ) → f.waiting ≡ suc n → w.state.waiting ≡ call (take n args))
  -- and with the lent buffer, which it takes as it is
  pub lent_from : (held args memory : List ℕ) (f : FlatReplay)
      → lent_standing_of held args memory (replay_in f) ≡ record {
        state = record { state = (standing_in held args memory f).state; args = args };
        held = take f.held held;
      }
  -- what is looked at of a state and its buffers; which reports stop a replay; what a record puts into the lent buffer; an end of a state that is not taken
  pub looked_at : (held args : List ℕ) (f : FlatReplay) → judged held args f ≡ judged_by held (length args) f
  pub stops : (n k : ℕ) → (is_over (Agreed n) ≡ false) × ((is_over (Differs n k) ≡ true) × (is_over (Malformed n) ≡ true))
  pub lends : (p : Platform) (x : Lent) (r : List ℕ) → (lender p).step x r ≡ lent_step p x r
  pub not_taken : (f : FlatReplay) → is_state f ≡ false → flat_end_of f ≡ record { number = 14; report = record { verdict = 2; offset = 0; number = 0 } }
