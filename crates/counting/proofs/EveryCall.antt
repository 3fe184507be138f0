-- Every call of a trace that agrees is among those that are counted.
use Prim.Native.Nat.{ℕ, ◌+◌}
use mathlib.Core.Path.{◌≡◌, refl, sym, ap, ◌∙◌}
use mathlib.Core.Bool.{true, false, ◌&&◌, false≢true}
use mathlib.Core.List.{List, [], ◌∷◌}
use mathlib.Core.Logic.{◌⊎◌, inl, inr, ⊎_elim}
use native.Mathlib.Omega.{arith}
use native.Mathlib.Nat.{add-zero}
use lib.Dec.{leb}
use lib.ListN.{length, length-append}
use Rattle.words.proofs.Choice.{decide, choose}
use Rattle.records.specs.Records.{kind_of, records}
use Rattle.records.specs.Cutting.{run}
use Rattle.records.proofs.Feeding.{run_stopped}
use Rattle.trace.specs.declared.report.Report.{Report}
use Rattle.trace.specs.declared.report.Report.TheVariants.{Agreed, Differs, Malformed}
use Rattle.trace.specs.Trace.{is_before, is_after, is_setting, body_of, is_good, is_settable}
use Rattle.trace.specs.Playing.{Platform, Waiting, none, call, State, begin, is_over, stopped, agreed, faulted, kept, setting, called, calling, played, step, unanswered, concluded, replay_of, reader}
use Rattle.calls.specs.Buffer.{Left}
use Rattle.trace.proofs.Reader.{sticky, concluded_stopped}
use Rattle.trace.proofs.First.{compared_ways}
use Rattle.counting.specs.OfTrace.{is_taken, made_by, made, calls_made}
use Rattle.counting.specs.Claims.OfTrace.{EveryCallMade}

calls_in_lem : Report → ℕ
calls_in_lem (Agreed n) = n
calls_in_lem (Differs n k) = 0
calls_in_lem (Malformed n) = 0

same_calls : (a b : ℕ) → ◌≡◌ {A = Report} (Agreed a) (Agreed b) → a ≡ b
unfolding calls_in_lem
same_calls a b e = ap calls_in_lem e

over_not : (r : Report) (n : ℕ) → is_over r ≡ true → r ≡ Agreed n → ⊥
over_not r n o e = false≢true (sym (ap is_over e) ∙ o)

-- stopped, or so many calls more agreed
abbrev Went : ℕ → State → List Left → Type 0
Went a s xs = (stopped s ≡ true) ⊎ (s.report ≡ Agreed (a + length xs))

fault_stops : (a : ℕ) (s : State) (xs : List Left) → Went a (faulted s) xs
unfolding stopped faulted
fault_stops a s xs = inl refl

module _ (p : Platform) (s : State) (a : ℕ) (e : s.report ≡ Agreed a) where
  stays : (t : State) → t.report ≡ s.report → Went a t []
  stays t h = inr (h ∙ e ∙ rw add-zero)

  sets_went : (body : List ℕ) → Went a (setting s body) []
  unfolding setting
  sets_went body = choose (is_settable s.memory body) (λ (t : State). Went a t []) (λ _. stays _ refl) (λ _. fault_stops a s [])

  keeps_went : (body : List ℕ) → Went a (kept s body) []
  unfolding kept
  keeps_went body = stays _ refl

  calls_went : (args body : List ℕ) → Went a (calling p s args body) (called p s args ∷ [])
  unfolding calling stopped
  calls_went args body =
      compared_ways (agreed s.report) body (called p s args).args (λ (r : Report). (is_over r ≡ true) ⊎ (r ≡ Agreed (a + 1)))
      (λ _. inr (ap (λ (r : Report). Agreed (agreed r + 1)) e)) (λ k d. inl refl)

  went : (w : Waiting) (kind : ℕ) (body : List ℕ) → Went a (played p s w kind body) (made_by p s w kind)
  went none kind body =
      choose (is_before kind) (λ (t : State). Went a t []) (λ _. keeps_went body)
      (λ _. choose (is_setting kind) (λ (t : State). Went a t []) (λ _. sets_went body) (λ _. fault_stops a s []))
  went (call args) kind body = decide (is_after kind) (λ h. rw h (calls_went args body)) (λ h. rw h (fault_stops a s []))

  goes : stopped s ≡ false
  unfolding stopped
  goes = ap is_over e

  step_went : (r : List ℕ) → Went a (step p s r) (made p s r)
  unfolding step made is_taken
  step_went r =
      rw goes (decide (leb (s.records + 1) 4_294_967_295 && is_good r) (λ h. rw h (went s.waiting (kind_of r) (body_of r))) (λ h. rw h (fault_stops a s [])))

last_not : (s : State) (a n : ℕ) (w : Waiting) → s.report ≡ Agreed a → (unanswered s w).report ≡ Agreed n → a ≡ n
unfolding faulted
last_not s a n none e h = same_calls a n (sym e ∙ h)
last_not s a n (call args) e h = absurd (over_not _ n refl h)

module _ (p : Platform) where
  ends_made : (s : State) (a n : ℕ) → s.report ≡ Agreed a → (concluded s).report ≡ Agreed n → a ≡ n
  unfolding concluded stopped
  ends_made s a n e h = last_not s a n s.waiting e (rw (ap is_over e) at h)

  over : (t : State) → stopped t ≡ true → is_over t.report ≡ true
  unfolding stopped
  over t o = o

  stopped_not : (s : State) (rs : List (List ℕ)) (n : ℕ) → stopped s ≡ true → (concluded (run (step p) s rs)).report ≡ Agreed n → ⊥
  stopped_not s rs n o h = over_not s.report n (over s o) (ap (λ (t : State). t.report) (sym (ap concluded (run_stopped (reader p) (sticky p) s rs o) ∙ concluded_stopped s o)) ∙ h)

  all_made : (s : State) (rs : List (List ℕ)) (a n : ℕ) → s.report ≡ Agreed a → (concluded (run (step p) s rs)).report ≡ Agreed n → a + length (calls_made p s rs) ≡ n
  unfolding run calls_made
  all_made s [] a n e h = rw add-zero (ends_made s a n e h)
  all_made s (r ∷ rs) a n e h =
      ⊎_elim
      (λ o. absurd (stopped_not (step p s r) rs n o h))
      (λ g. omega (arith, length-append (made p s r) (calls_made p (step p s r) rs), all_made (step p s r) rs (a + length (made p s r)) n g h))
      (step_went p s a e r)

pub every_call_made : EveryCallMade
unfolding replay_of
every_call_made p m trace n h = omega (arith, all_made p (begin m) (records trace) 0 n refl h)
