-- What an end tells.
use Rattle.std.specs.Prelude.{Option, Some, None, is_some}
use mathlib.Core.Path.{◌≡◌, refl, ap, ◌∙◌}
use mathlib.Core.Bool.{true, false}
use mathlib.Core.List.{List, [], ◌∷◌}
use Prim.Native.Nat.{ℕ, ◌<◌}
use native.Mathlib.Omega.{arith}
use lib.Dec.{eqb}
use lib.ListN.{length, take}
use lib.Seq.{length-take-le}
use borrow.Author.Tests.{eqb-true, eqb-false, ne_eqb}
use Rattle.words.proofs.Choice.{decide}
use Rattle.records.specs.Cutting.{ripe, run, start, ended, fair}
use Rattle.records.proofs.Due.{short_raw}
use Rattle.records.proofs.Whole.{fair_ripe}
use Rattle.records.proofs.Claims.{fed_exactly}
use Rattle.trace.specs.Trace.{good_frame}
use Rattle.trace.specs.Playing.{Platform, Waiting, State, is_over, stopped, blamed, faulted, unanswered, concluded, step, reader}
use Rattle.playing.specs.Played.{waiting_of, state_of}
use Rattle.replay.specs.Feeding.{at, end_of}
use Rattle.replay.specs.Claims.Feeding.{Ready}
use Rattle.replay.specs.Claims.Replay.{EndTells, EndExactly, ReplayClaims}
use Rattle.trace.proofs.Claims.{trace_claims}
use Rattle.trace.specs.declared.report.Report.{Report}
use Rattle.trace.specs.declared.report.Report.TheVariants.{Malformed}
use Rattle.replay.specs.declared.feeding.Replay.{Replay}
use Rattle.trace.proofs.Reader.{sticky, faulted_stopped, unfair_step, concluded_stopped}
use Rattle.playing.specs.Lent.{lender}
use Rattle.counting.specs.OfTrace.{counter}
use Rattle.counting.proofs.OfTrace.{counter_sticky}
use Rattle.playing.proofs.Lent.{lender_sticky, ours_stands, each_lent}
use Rattle.replay.proofs.Leaves.{end_over, end_waits, end_held, end_clean}
use Rattle.replay.proofs.Standings.{ready_start, standing_start_of, stopped_over, going, still_going}

-- ---- the end

-- a state with this report, and all else as in another
abbrev Told : State → State → Report → Type 0
Told x s r = (x.report ≡ r) × (x.memory ≡ s.memory) × (x.registration ≡ s.registration) × (x.reading ≡ s.reading)

concluded_on : (s : State) → stopped s ≡ false → concluded s ≡ unanswered s s.waiting
unfolding concluded
concluded_on s e = rw e

faulted_told : (s : State) (r : Report) → Malformed (blamed s.records s.waiting) ≡ r → Told (faulted s) s r
unfolding faulted
faulted_told s r e = (e, refl, refl, refl)

-- the end by what waits, of which the number is told
end_blamed : (r : Report) (n : ℕ) (waiting : Option ℕ) (args : List ℕ) (held : ℕ) → is_over r ≡ false → (held ≡ 0 → ⊥) → Malformed (blamed n (waiting_of waiting args)) ≡ end_of r n (is_some waiting) held
end_blamed r n (Some size) args held e z = end_waits r n true held (rw e) refl
end_blamed r n None args held e z = end_held r n false held (rw e) refl z

ne_pos : (n : ℕ) → (n ≡ 0 → ⊥) → 0 < n
ne_pos n z = omega arith

-- nothing is held, and a 32 waits or not
unanswered_told : (s : State) (waiting : Option ℕ) (args : List ℕ) → s.waiting ≡ waiting_of waiting args → is_over s.report ≡ false → Told (unanswered s (waiting_of waiting args)) s (end_of s.report s.records (is_some waiting) 0)
unanswered_told s (Some size) args q e = faulted_told s _ (ap (λ (x : Waiting). Malformed (blamed s.records x)) q ∙ end_waits s.report s.records true 0 (rw e) refl)
unanswered_told s None args q e = (end_clean s.report s.records false 0 (rw e) refl refl, refl, refl, refl)

module _ (p : Platform) (s : State) where
  ended_none : ended (reader p) (start s) ≡ s
  unfolding ended run
  ended_none = refl

  ended_some : (h : List ℕ) → 0 < length h → ended (reader p) (at s h) ≡ step p s h
  unfolding ended run
  ended_some [] l = absurd (omega arith)
  ended_some (b ∷ h) l = refl

  -- held bytes that make no record are a fault
  ended_raw : (h : List ℕ) → 0 < length h → ripe good_frame h ≡ false → stopped s ≡ false → concluded (ended (reader p) (at s h)) ≡ faulted s
  ended_raw h l raw g =
      let unfair : fair (reader p) h ≡ false = decide (fair (reader p) h) (λ f. absurd (omega (arith, fair_ripe good_frame h f, short_raw good_frame h raw))) (λ f. f) in
      ap concluded (ended_some h l ∙ unfair_step p s h g unfair) ∙ concluded_stopped (faulted s) (faulted_stopped s)

  ended_clean : stopped s ≡ false → concluded (ended (reader p) (start s)) ≡ unanswered s s.waiting
  ended_clean g = ap concluded ended_none ∙ concluded_on s g

  ended_over : stopped s ≡ true → concluded (ended (reader p) (start s)) ≡ s
  ended_over g = ap concluded ended_none ∙ concluded_stopped s g

module _ (p : Platform) (held args memory : List ℕ) (w : Replay) (ready : Ready held args w) where
  abbrev Here : State
  Here = state_of args memory w.playing

  abbrev Tells : List ℕ → ℕ → Type 0
  Tells h n = Told (concluded (ended (reader p) (at Here h))) Here (end_of w.playing.report w.playing.records (is_some w.playing.waiting) n)

  tells_over : is_over w.playing.report ≡ true → Tells [] 0
  tells_over e = rw (ended_over p Here (stopped_over args memory w.playing e)) (end_over w.playing.report w.playing.records (is_some w.playing.waiting) 0 (rw e), refl, refl, refl)

  tells_clean : is_over w.playing.report ≡ false → Tells [] 0
  tells_clean e = rw (ended_clean p Here (going args memory w.playing e)) (unanswered_told Here w.playing.waiting args refl e)

  tells_held : (w.held ≡ 0 → ⊥) → Tells (take w.held held) w.held
  tells_held z =
      let e = still_going ready z in
      let l : 0 < length (take w.held held) = omega (arith, length-take-le w.held held ready.inside, ne_pos w.held z) in
      rw (ended_raw p Here (take w.held held) l ready.raw (going args memory w.playing e))
      (faulted_told Here _ (end_blamed w.playing.report w.playing.records w.playing.waiting args w.held e z))

  tells_none : w.held ≡ 0 → Tells (take w.held held) w.held
  tells_none z = rw z (decide (is_over w.playing.report) tells_over tells_clean)

pub tells : EndTells
tells p held args memory w ready = decide (eqb w.held 0) (λ e. tells_none p held args memory w ready (eqb-true w.held 0 e)) (λ e. tells_held p held args memory w ready (eqb-false w.held 0 e))

end_exactly : EndExactly
unfolding end_of
end_exactly calls at records held waits = (refl, refl, (λ some. rw (ne_eqb held 0 (λ z. omega arith))), refl, refl)

pub replay_claims : ReplayClaims
replay_claims = record { of_traces = trace_claims; start_stands = λ held args memory e h a. (standing_start_of held args e memory, (ready_start held args e h a, refl)); end_tells = tells; ours_stands = ours_stands; each_lent = each_lent; each_fed = λ p. (fed_exactly (reader p) (sticky p), (fed_exactly (lender p) (lender_sticky p), fed_exactly (counter p) (counter_sticky p))); end_exactly = end_exactly }
