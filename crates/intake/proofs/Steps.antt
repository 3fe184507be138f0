-- Laws of what a record of the stream does, and of what a run of records leaves of the journal and of an intake that fits its buffer.
use mathlib.Core.Path.{◌≡◌, refl, sym, ap, ◌∙◌}
use mathlib.Core.Bool.{true, false, cond, true≢false}
use mathlib.Core.List.{List, [], ◌∷◌}
use mathlib.Core.Logic.{inl, inr, ⊎_elim}
use Prim.Native.Nat.{ℕ, ◌+◌, ◌≤◌, ◌<◌}
use native.Mathlib.Omega.{arith}
use lib.Dec.{leb}
use lib.ListN.{length}
use lib.Seq.{length-sets}
use borrow.Author.Tests.{le-leb}
use Rattle.std.specs.Prelude.{Option, Some, None, is_some, is_none}
use Rattle.words.proofs.Choice.{decide, and_right}
use Rattle.records.specs.Cutting.{Sticky, run, Standing, fed, standing}
use Rattle.journal.specs.declared.counts.Counts.{Counts}
use Rattle.tallies.specs.declared.tallies.Tallies.{Tallies}
use Rattle.tallies.specs.declared.keeping.Tallied.{Tallied}
use Rattle.tallies.specs.declared.keeping.Kept.{Kept}
use Rattle.tallies.specs.declared.keeping.Refusal.{Refusal}
use Rattle.tallies.specs.declared.keeping.Refusal.TheVariants as refusal
use Rattle.tallies.specs.Tallies.{recount_of, count_sum, tally_sum, counts_within, tallies_within}
use Rattle.tallies.specs.Keeping.{Left, leaves, fits, one_record, outcome_of, attached, append_of}
use Rattle.tallies.specs.Sessions as sessions
use Rattle.tallies.specs.Claims.Sessions as sessions-claims
use Rattle.tallies.proofs.Outcomes.{attach_judged, done_room, by_outcome}
use Rattle.tallies.proofs.Recounts.{Few, EachFew, tallies_few, recount_few}
use Rattle.tallies.proofs.KeptLaws.{append_keeps}
use Rattle.tallies.proofs.Claims.{tally_claims}
use Rattle.intake.specs.Taking.{Taking, taking_of, stopped, capped, step, reader}
use Rattle.intake.specs.Inner.Terms.{Sound}
use Rattle.intake.specs.Claims.Intake.{EachStep}

pub sticky : Sticky reader
unfolding step
sticky s r e = rw e

-- what an append leaves, taken over with the number of the next record
abbrev taken_over : ℕ → Left → Taking
taken_over number x = record { buffer = x.buffer; journal = x.next; number = cond (is_none x.outcome) (capped (number + 1)) number; fault = x.outcome }

module _ (s : Taking) (r : List ℕ) where
  step_on : stopped s ≡ false → step s r ≡ taken_over s.number (append_of s.buffer s.journal r)
  unfolding step
  step_on e = rw e

  module _ (going : is_some s.fault ≡ false) (after : List ℕ) (k : Kept) (e : leaves after k ≡ append_of s.buffer s.journal r) where
    step_left : taken_over s.number (leaves after k) ≡ step s r
    step_left = ap (taken_over s.number) e ∙ sym (step_on going)

    pub step_done : k.outcome ≡ None → (n : ℕ) → n ≡ capped (s.number + 1) → taking_of after (record { journal = k.next; number = n; fault = None }) ≡ step s r
    step_done o n m = rw m (rw o at step_left)

    pub step_refused : (f : Refusal) → k.outcome ≡ Some f → taking_of after (record { journal = k.next; number = s.number; fault = Some f }) ≡ step s r
    step_refused f o = rw o at step_left

  -- bytes that are no record stop the intake, and where its use and tallies fit as malformed
  module _ (on : stopped s ≡ false) (bad : one_record r ≡ false) where
    pub bad_stops : stopped (step s r) ≡ true
    unfolding step attached outcome_of
    bad_stops = decide (fits (length s.buffer) s.journal) (λ e. rw (on, e, bad)) (λ e. rw (on, e))

    pub bad_malformed : fits (length s.buffer) s.journal ≡ true → step s r ≡ record { buffer = s.buffer; journal = s.journal; number = s.number; fault = Some refusal.Malformed }
    unfolding step attached outcome_of
    bad_malformed e = rw (on, e, bad)

-- ---- each record exactly when

pub going : (s : Taking) → s.fault ≡ None → stopped s ≡ false
going s e = rw e

pub not_done : (o : Option Refusal) → (o ≡ None → ⊥) → is_some o ≡ true
not_done None n = absurd (n refl)
not_done (Some r) n = refl

pub each_step : EachStep
each_step s r e = rw (step_on s r (going s e)) (record {
  attached = tally_claims.each_append s.buffer s.journal r;
  next = λ d l. rw d (omega arith);
  last = λ d l. rw d (omega arith);
  at_fault = λ n. rw (not_done (append_of s.buffer s.journal r).outcome n);
})

-- ---- the journal after a run of records

abbrev pub journal_of : Taking → sessions.Standing
journal_of s = sessions.standing_as s.buffer s.journal

-- it grows behind the bytes in use, and its tallies stay the recount
pub record Grows (before after : sessions.Standing) : Type 0 where
  pub only_appends : sessions-claims.OnlyAppends before after
  pub further : before.journal.used ≤ after.journal.used
  pub counted : sessions-claims.Counted before → sessions-claims.Counted after

grows_not : (s : sessions.Standing) → Grows s s
grows_not s = record { only_appends = record { size = refl; others = λ i o. refl }; further = omega arith; counted = λ k. k }

grows_on : (a b c : sessions.Standing) → Grows a b → Grows b c → Grows a c
grows_on a b c f g = record {
  only_appends = record {
    size = g.only_appends.size ∙ f.only_appends.size;
    others = λ i o. ⊎_elim
        (λ (h : i < a.journal.used). g.only_appends.others i (inl (omega (arith, f.further))) ∙ f.only_appends.others i (inl h))
        (λ (h : c.journal.used ≤ i). g.only_appends.others i (inr h) ∙ f.only_appends.others i (inr (omega (arith, g.further))))
        o;
  };
  further = omega (arith, f.further, g.further);
  counted = λ k. g.counted (f.counted k);
}

append_grows : (s : sessions.Standing) (r : List ℕ) → Grows s (sessions.appending r s)
append_grows s r = record {
  only_appends = (append_keeps r).only_appends s;
  further = by_outcome s.buffer s.journal r (one_record r) (λ (x : Left). s.journal.used ≤ x.next.used) (λ _. omega arith) (omega arith);
  counted = (append_keeps r).counted s;
}

step_grows : (s : Taking) (r : List ℕ) → Grows (journal_of s) (journal_of (step s r))
step_grows s r = decide (stopped s) (λ e. rw (sticky s r e) (grows_not (journal_of s))) (λ e. rw (step_on s r e) (append_grows (journal_of s) r))

pub run_grows : (s : Taking) (rs : List (List ℕ)) → Grows (journal_of s) (journal_of (run step s rs))
unfolding run
run_grows s [] = grows_not (journal_of s)
run_grows s (r ∷ rs) = grows_on (journal_of s) (journal_of (step s r)) (journal_of (run step (step s r) rs)) (step_grows s r) (run_grows (step s r) rs)

-- ---- an intake that fits its buffer

-- counts within two limits have sums within the limits' sum
module _ (m n : ℕ) where
  counts_sum : (a b : Counts) → Few m a → Few n b → counts_within (m + n) (count_sum a b) ≡ true
  counts_sum a b p q = rw (le-leb (a.deletes + b.deletes) (m + n) (omega arith), le-leb (a.updates + b.updates) (m + n) (omega arith), le-leb (a.additions + b.additions) (m + n) (omega arith))

  tallies_sum : (a b : Tallies) → EachFew m a → EachFew n b → tallies_within (m + n) (tally_sum a b) ≡ true
  unfolding tallies_within
  tallies_sum a b p q =
      rw (counts_sum _ _ p.negative q.negative, counts_sum _ _ p.first q.first, counts_sum _ _ p.second q.second, counts_sum _ _ p.third q.third)

-- a record more fits where there is room: it counts at most as often as it has bytes
pub fits_on : (size : ℕ) (t : Tallied) (r : List ℕ) → fits size t ≡ true → t.used + length r ≤ size
    → fits size (record { used = t.used + length r; tallies = tally_sum t.tallies (recount_of r) }) ≡ true
unfolding fits
fits_on size t r e l = rw (le-leb (t.used + length r) size l)
    (tallies_sum t.used (length r) t.tallies (recount_of r) (tallies_few t.used t.tallies (and_right (leb t.used size) _ e)) (recount_few r))

append_fits : (b : List ℕ) (t : Tallied) (r : List ℕ) → fits (length b) t ≡ true → fits (length (append_of b t r).buffer) (append_of b t r).next ≡ true
append_fits b t r e = by_outcome b t r (one_record r) (λ (x : Left). fits (length x.buffer) x.next ≡ true)
    (λ d. rw (length-sets b t.used r) (fits_on (length b) t r e (done_room b t r (one_record r) d).inside)) e

-- every record and every burst leave it so
pub step_sound : (s : Taking) (r : List ℕ) → Sound s → Sound (step s r)
step_sound s r k = decide (stopped s) (λ e. rw (sticky s r e) k) (λ e. rw (step_on s r e) (record {
  numbered = decide (is_none (append_of s.buffer s.journal r).outcome) (λ d. rw d (omega arith)) (λ d. rw d k.numbered);
  fit = append_fits s.buffer s.journal r k.fit;
  real = λ u. true≢false (sym k.fit ∙ (attach_judged s.buffer s.journal r (one_record r)).unfit.0 u);
}))

pub run_sound : (s : Taking) (rs : List (List ℕ)) → Sound s → Sound (run step s rs)
unfolding run
run_sound s [] k = k
run_sound s (r ∷ rs) k = run_sound (step s r) rs (step_sound s r k)

pub fed_sound : (w : Standing Taking) (bytes : List ℕ) → Sound w.state → Sound (fed reader w bytes).state
unfolding fed standing
fed_sound w bytes k = run_sound w.state _ k
