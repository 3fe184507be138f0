-- Laws of the reading record: what a get-indices call makes of it by its status word, and its checks.
use mathlib.Core.Path.{◌≡◌, refl}
use mathlib.Core.Bool.{Bool, true, false, cond, ◌||◌}
use mathlib.Core.Logic.{⊎_elim}
use Prim.Native.Nat.{ℕ, ◌≤◌}
use native.Mathlib.Omega.{arith}
use lib.Dec.{eqb}
use Rattle.words.specs.Claims.Exactly.{Exactly}
use Rattle.words.proofs.Choice.{decide}
use borrow.Author.Tests.{eqb-true, eqb-false}
use Rattle.inventory.specs.declared.edition.Edition.{Edition}
use Rattle.calls.specs.declared.request.Request.{Request}
use Rattle.calls.specs.declared.reading_record.ReadingRecord.{ReadingRecord}
use Rattle.calls.specs.declared.status.Status.{Status}
use Rattle.calls.specs.declared.status.Status.TheVariants.{Done, Again, Malformed, Parameter, Changed, AlreadyRegistered, DumpActive}
use Rattle.calls.specs.Status.{status_word}
use Rattle.calls.specs.ReadingRecord.{begins, is_named, is_current, record_after}
use Rattle.calls.specs.Claims.Terms.{minus, naming}
use Rattle.calls.specs.Claims.ExactIndices.{Named, Current, Recorded}
use Rattle.calls.proofs.Exactly.{equal, both}

-- ---- what a call makes of the record

module _ (q : Request) (next : ℕ) (e : Edition) (r : ReadingRecord) where
  -- a status that keeps the record
  stays : (s : Status) → record_after s q next e r ≡ r → 2 ≤ status_word s → (status_word s ≡ minus 4 → ⊥) → Recorded r q.flag q.item_type e.0 (status_word s) next (record_after s q next e r)
  stays s same high other = record { names = λ h. absurd (omega arith); cleared = λ h. absurd (⊎_elim (λ f. omega arith) other h); kept = λ _ _. same }

  pub recorded : (s : Status) → Recorded r q.flag q.item_type e.0 (status_word s) next (record_after s q next e r)
  unfolding record_after
  recorded Done = record { names = λ h. absurd (omega (arith, h)); cleared = λ _. refl; kept = λ h _. absurd (h (omega arith)) }
  recorded Again = record { names = λ _. refl; cleared = λ h. absurd (⊎_elim (λ f. omega (arith, f)) (λ f. omega (arith, f)) h); kept = λ h _. absurd (h (omega arith)) }
  recorded Malformed = stays Malformed refl (omega arith) (λ h. omega (arith, h))
  recorded Parameter = stays Parameter refl (omega arith) (λ h. omega (arith, h))
  recorded Changed = record { names = λ h. absurd (omega (arith, h)); cleared = λ _. refl; kept = λ _ h. absurd (h refl) }
  recorded AlreadyRegistered = stays AlreadyRegistered refl (omega arith) (λ h. omega (arith, h))
  recorded DumpActive = stays DumpActive refl (omega arith) (λ h. omega (arith, h))

  -- an answer with entries behind it, or without
  pub record_either : (t : Bool) → record_after (cond t Again Done) q next e r ≡ cond t (naming q.flag q.item_type next e.0) (naming 0 0 1 0)
  unfolding record_after
  record_either true = refl
  record_either false = refl

-- ---- the checks

module _ (r : ReadingRecord) (q : Request) where
  -- a number that is 1, or what a test asks for
  afresh : {P : Type 0} (a : Bool) → Exactly (a ≡ true) P → Exactly ((begins q || a) ≡ true) ((q.number.0 ≡ 1 → ⊥) → P)
  unfolding begins
  afresh a p = decide (eqb q.number.0 1)
      (λ e. (λ _ h. absurd (h (eqb-true _ _ e)), λ _. rw e))
      (λ e. (λ h _. p.0 (rw e at h), λ h. rw e (p.1 (h (eqb-false _ _ e)))))

  pub named_exact : Exactly (is_named r q ≡ true) (Named r q.flag q.item_type q.number.0)
  unfolding is_named
  named_exact = let numbers = equal q.number.0 r.number.0 in
      afresh _ (both (eqb q.flag r.flag) _ (equal q.flag r.flag) (both (eqb q.item_type r.item_type) _ (equal q.item_type r.item_type) numbers))

  pub current_exact : (e : Edition) → Exactly (is_current r e q ≡ true) (Current r e.0 q.number.0)
  unfolding is_current
  current_exact e = afresh _ (equal e.0 r.edition.0)
