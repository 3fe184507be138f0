-- What is claimed of tallies holds.
use mathlib.Core.Path.{◌≡◌, refl, sym, ◌∙◌}
use mathlib.Core.Bool.{Bool, true, false, ◌&&◌, true≢false}
use mathlib.Core.List.{List}
use mathlib.Core.Logic.{◌⊎◌, inl, inr, ⊎_elim}
use Prim.Native.Nat.{ℕ, ◌+◌, ◌≤◌, ◌<◌}
use native.Mathlib.Omega.{arith}
use lib.Dec.{leb}
use lib.ListN.{length}
use borrow.Author.Tests.{leb-true, leb-false, lt-leb, le-leb, ne_eqb}
use Rattle.words.specs.Claims.Exactly.{Exactly}
use Rattle.words.proofs.Choice.{decide, and_left, and_right}
use Rattle.records.specs.Records.{whole, size_limit}
use Rattle.records.proofs.Joining.{one_record_lem}
use Rattle.journal.specs.declared.counts.Counts.{Counts}
use Rattle.journal.specs.Journal.{well_formed}
use Rattle.journal.specs.Scope.{rows, row_of, negative, units_of}
use Rattle.journal.proofs.Joins.{one_formed, only_record}
use Rattle.journal.proofs.Claims.{too_large}
use Rattle.tallies.specs.declared.keeping.Tallied.{Tallied}
use Rattle.tallies.specs.Tallies.{recount_of, recount_for, count_sum, counts_within, tallies_within}
use Rattle.tallies.specs.Keeping.{fits, has_room, one_record, attached}
use Rattle.tallies.specs.Claims.Tallies.{OneGood, AttachedExactly, CountsBelow, EachWithin, CountsAdd, EachSum, EachAppend, EachRecount, RowsOfScopes, RecountClaims, TallyClaims}
use Rattle.tallies.proofs.Outcomes.{attach_judged, attach_done, attach_refused}
use Rattle.tallies.proofs.KeptLaws.{tallies_kept, append_keeps, join_keeps, clear_keeps, kept_is_fit}
use Rattle.tallies.proofs.Readings.{tally_readings}
use Rattle.tallies.specs.Claims.Rows.{of_kind}
use Rattle.tallies.proofs.RowClaims.{third_row_claim}

-- ---- statements that hold exactly when others do

via : {P Q R : Type 0} → Exactly P Q → Exactly Q R → Exactly P R
via f g = (λ p. g.0 (f.0 p), λ r. f.1 (g.1 r))

-- one of two tests fails
either : {P Q : Type 0} (a b : Bool) → Exactly (a ≡ false) P → Exactly (b ≡ false) Q → Exactly ((a && b) ≡ false) (P ⊎ Q)
either true b f g = (λ e. inr (g.0 e), λ o. ⊎_elim (λ p. absurd (true≢false (f.1 p))) g.1 o)
either false b f g = (λ e. inl (f.0 refl), λ o. refl)

-- a test fails
fails : {P : Type 0} (t : Bool) → Exactly (t ≡ true) P → Exactly (t ≡ false) (P → ⊥)
fails t f = (λ e p. true≢false (sym (f.1 p) ∙ e), λ n. decide t (λ e. absurd (n (f.0 e))) (λ e. e))

above : (n limit : ℕ) → Exactly (leb n limit ≡ false) (limit < n)
above n limit = (leb-false n limit, lt-leb n limit)

-- both of two tests hold
both : {P Q : Type 0} (a b : Bool) → Exactly (a ≡ true) P → Exactly (b ≡ true) Q → Exactly ((a && b) ≡ true) (P × Q)
both a b f g = (λ e. (f.0 (and_left a b e), g.0 (and_right a b e)), λ p. rw (f.1 p.0) (g.1 p.1))

at_most : (n limit : ℕ) → Exactly (leb n limit ≡ true) (n ≤ limit)
at_most n limit = (leb-true n limit, le-leb n limit)

-- ---- counts, row by row

below : (limit : ℕ) (c : Counts) → Exactly (counts_within limit c ≡ true) (CountsBelow limit c)
below limit c =
    let e = both (leb c.deletes limit) _ (at_most c.deletes limit) (both (leb c.updates limit) (leb c.additions limit) (at_most c.updates limit) (at_most c.additions limit)) in
    (λ h. let p = e.0 h in record { deletes = p.0; updates = p.1.0; additions = p.1.1 }, λ p. e.1 (p.deletes, (p.updates, p.additions)))

each_within : EachWithin
unfolding tallies_within
each_within limit t =
    both (counts_within limit t.negative) _ (below limit t.negative) (both (counts_within limit t.first) _ (below limit t.first)
    (both (counts_within limit t.second) (counts_within limit t.third) (below limit t.second) (below limit t.third)))

counts_add : (a b : Counts) → CountsAdd a b (count_sum a b)
counts_add a b = record { deletes = refl; updates = refl; additions = refl }

each_sum : EachSum
each_sum a b =
    record {
      negative = counts_add a.negative b.negative;
      first = counts_add a.first b.first;
      second = counts_add a.second b.second;
      third = counts_add a.third b.third;
    }

-- ---- an append

unfit : (size : ℕ) (t : Tallied) → Exactly (fits size t ≡ false) ((size < t.used) ⊎ (tallies_within t.used t.tallies ≡ false))
unfolding fits
unfit size t = either (leb t.used size) (tallies_within t.used t.tallies) (above t.used size) (λ e. e, λ e. e)

no_room : (size used more : ℕ) → Exactly (has_room size used more ≡ false) ((size < used + more) ⊎ (size_limit < used + more))
unfolding has_room
no_room size used more = either (leb (used + more) size) (leb (used + more) size_limit) (above (used + more) size) (above (used + more) size_limit)

one_good : (r : List ℕ) → Exactly (one_record r ≡ true) (OneGood r)
unfolding one_record
one_good r = (λ e. (one_record_lem r (and_left (whole r) _ e), one_formed r e), λ p. only_record r p.0 p.1)

-- of any part, judged by a test that says when it is good
pub attached_exactly : (Good : Type 0) (part : List ℕ) (good : Bool) → Exactly (good ≡ true) Good → (b : List ℕ) (t : Tallied) → AttachedExactly Good b t part (attached b t part good)
attached_exactly Good part good exact b t =
    let j = attach_judged b t part good in
    record {
      unfit = via j.unfit (unfit (length b) t);
      malformed = λ u. via (j.malformed u) (fails good exact);
      no_room = λ u g. via (j.no_room u (exact.1 g)) (no_room (length b) t.used (length part));
      otherwise = j.otherwise;
      done = λ e. rw (attach_done b t part good e) (refl, (refl, refl));
      refused = λ n. rw (attach_refused b t part good n) (refl, refl);
    }

each_append : EachAppend
each_append b t r = attached_exactly (OneGood r) r (one_record r) (one_good r) b t

-- ---- a recount

each_recount : EachRecount
unfolding recount_for
each_recount j = decide (well_formed j)
    (λ w. record {
      good = rw w (λ e. e, λ e. e);
      counted = λ e. rw w;
      malformed = λ e. absurd (true≢false (sym w ∙ e));
      oversized = λ h. absurd (true≢false (sym w ∙ too_large j h));
    })
    (λ w. record { good = rw w (λ e. e, λ e. e); counted = λ e. absurd (true≢false (sym e ∙ w)); malformed = λ e. rw w; oversized = λ h. rw w })

rows_of_scopes : RowsOfScopes
unfolding recount_of rows row_of negative units_of
rows_of_scopes = record {
  negative = λ j scope unit h. rw (le-leb 0x8000_0000 scope h, ne_eqb scope 3 (λ e. omega arith));
  first = λ j unit. refl;
  second = λ j unit. refl;
  third = λ j. refl;
}

pub recount_claims : RecountClaims
unfolding of_kind
recount_claims = record { each_recount = each_recount; rows_of_scopes = rows_of_scopes; third_row_claim = third_row_claim; kinds = λ kind. (refl, λ r rs. refl); readings = tally_readings }

pub tally_claims : TallyClaims
tally_claims = record { tallies_kept = tallies_kept; append_keeps = append_keeps; join_keeps = join_keeps; clear_keeps = clear_keeps; each_append = each_append; each_within = each_within; each_sum = each_sum; kept_is_fit = kept_is_fit; recounts = recount_claims }
