-- Good records of a part that finds room, one after the other: what they leave together.
use mathlib.Core.Path.{◌≡◌, refl, sym, ap, ◌∙◌}
use mathlib.Core.Bool.{true, false, ◌&&◌}
use mathlib.Core.List.{List, [], ◌∷◌, ◌++◌, append_assoc}
use Prim.Native.Nat.{ℕ, zero, suc, ◌+◌, ◌<◌, ◌≤◌}
use native.Mathlib.Nat.{add-zero, add_assoc}
use native.Mathlib.Omega.{arith}
use lib.ListN.{length, take, drop, length-append, length-drop, take-append-drop}
use lib.Seq.{sets, length-sets}
use borrow.Author.Tests.{le-leb}
use Rattle.std.specs.Prelude.{None}
use Rattle.words.proofs.Choice.{and_left}
use Rattle.words.proofs.Stores.{sets_append}
use Rattle.records.specs.Records.{size_of, first_record, records, whole, all_good}
use Rattle.records.specs.Cutting.{ripe, run, start, fed}
use Rattle.records.proofs.Due.{short_raw}
use Rattle.records.proofs.Feeding.{fed_append, fed_held}
use Rattle.records.proofs.Joining.{records_join, one_record_lem, one_good}
use Rattle.records.proofs.Whole.{records_front, records_none, first_good, later_good, whole_size}
use Rattle.journal.specs.Journal.{good_record}
use Rattle.journal.proofs.Joins.{one_formed}
use Rattle.tallies.specs.declared.tallies.Tallies.{Tallies}
use Rattle.tallies.specs.Tallies.{no_tallies, recount_of, tally_sum}
use Rattle.tallies.specs.Keeping.{fits, has_room, one_record, outcome_of, attached}
use Rattle.tallies.proofs.Joins.{recount_none, recount_join}
use Rattle.intake.specs.Taking.{good_front, Taking, stopped, capped, step, reader}
use Rattle.intake.specs.Bursts.{stands_at}
use Rattle.intake.proofs.Steps.{sticky, fits_on}
use Rattle.intake.proofs.Claims.{good_ones}

-- ---- what a part leaves, and when it can be taken

abbrev pub behind : Taking → List ℕ → Taking
behind s p =
    record {
      buffer = sets s.buffer s.journal.used p;
      journal = record { used = s.journal.used + length p; tallies = tally_sum s.journal.tallies (recount_of p) };
      number = capped (s.number + length (records p));
      fault = s.fault;
    }

-- a use above a journal's limit has room for no byte
pub record Roomy (s : Taking) (p : List ℕ) : Type 0 where
  pub going : s.fault ≡ None
  pub narrow : s.number ≤ 0xffff_ffff_ffff_ffff
  pub fit : fits (length s.buffer) s.journal ≡ true
  pub lent : s.journal.used + length p ≤ length s.buffer
  pub limited : 0 < length p → s.journal.used + length p ≤ 1_048_576

-- no part
sum-zero : (t : Tallies) → tally_sum t no_tallies ≡ t
sum-zero t = simp add-zero

behind_none : (s : Taking) → s.number ≤ 0xffff_ffff_ffff_ffff → s ≡ behind s []
behind_none s l =
    let n : s.number ≡ capped (s.number + 0) = omega arith in
    rw (records_none, recount_none, sum-zero s.journal.tallies, add-zero s.journal.used, ← n)

-- one record
behind_one : (s : Taking) (r : List ℕ) → one_record r ≡ true → Roomy s r → step s r ≡ behind s r
unfolding step attached outcome_of has_room one_record
behind_one s r one k =
    let all = and_left (whole r) _ one in
    let single : records r ≡ r ∷ [] = one_record_lem r all in
    let limited = le-leb (s.journal.used + length r) 1_048_576 (k.limited (omega (arith, whole_size r all))) in
    rw (k.going, k.fit, one, le-leb (s.journal.used + length r) (length s.buffer) k.lent, limited, single) refl

-- one part behind the other
sum_assoc : (a b c : Tallies) → tally_sum (tally_sum a b) c ≡ tally_sum a (tally_sum b c)
sum_assoc a b c = simp add_assoc

capped_sum : (n a b : ℕ) → capped (capped (n + a) + b) ≡ capped (n + (a + b))
capped_sum n a b = omega arith

module _ (s : Taking) (r q : List ℕ) (one : one_record r ≡ true) where
  good_alone : all_good good_record (records r) ≡ true
  unfolding one_record
  good_alone = one_good r good_record one

  counted : recount_of (r ++ q) ≡ tally_sum (recount_of r) (recount_of q)
  unfolding one_record
  counted = recount_join r q (one_formed r one)

  together : behind (behind s r) q ≡ behind s (r ++ q)
  together =
      let cut : length (records (r ++ q)) ≡ length (records r) + length (records q) = ap length (records_join good_record r q good_alone) ∙ length-append (records r) (records q) in
      rw (
        cut,
        counted,
        length-append r q,
        ← sets_append s.buffer s.journal.used r q,
        add_assoc s.journal.used (length r) (length q),
        sum_assoc s.journal.tallies (recount_of r) (recount_of q),
        capped_sum s.number (length (records r)) (length (records q)),
      ) refl

  roomy_first : Roomy s (r ++ q) → Roomy s r
  roomy_first k = record {
    going = k.going;
    narrow = k.narrow;
    fit = k.fit;
    lent = omega (arith, k.lent, length-append r q);
    limited = λ h. omega (arith, k.limited (omega (arith, length-append r q)), length-append r q);
  }

  roomy_later : Roomy s (r ++ q) → Roomy (behind s r) q
  roomy_later k = record {
    going = k.going;
    narrow = omega arith;
    fit = rw (length-sets s.buffer s.journal.used r) (fits_on (length s.buffer) s.journal r k.fit (roomy_first k).lent);
    lent = rw (length-sets s.buffer s.journal.used r) (omega (arith, k.lent, length-append r q));
    limited = λ h. omega (arith, k.limited (omega (arith, length-append r q)), length-append r q);
  }

-- ---- record by record

single : (r : List ℕ) → (whole r && good_record r) ≡ true → one_record r ≡ true
unfolding one_record
single r e = e

abbrev RunsAlike : List ℕ → Type 0
RunsAlike p = (s : Taking) → all_good good_record (records p) ≡ true → Roomy s p → run step s (records p) ≡ behind s p

-- where it holds of the bytes behind the first record
run_next : (b : List ℕ) → ((c : List ℕ) → length c < length b → RunsAlike c) → RunsAlike b
unfolding run
run_next [] later s good k = ap (run step s) records_none ∙ behind_none s k.narrow
run_next (x ∷ p) later s good k =
    let b = x ∷ p in
    let front = records_front b (omega arith) in
    let r = first_record b in
    let q = drop (size_of b) b in
    let all : r ++ q ≡ b = take-append-drop (size_of b) b in
    let g : all_good good_record (r ∷ records q) ≡ true = rw front at good in
    let one = single r (first_good good_record r (records q) g) in
    let k₂ : Roomy s (r ++ q) = rw all k in
    ap (run step s) front ∙ ap (λ (t : Taking). run step t (records q)) (behind_one s r one (roomy_first s r q one k₂))
    ∙ later q (omega (arith, length-drop (size_of b) b)) (behind s r) (later_good good_record r (records q) g) (roomy_later s r q one k₂)
    ∙ together s r q one ∙ ap (behind s) all

run_upto : (n : ℕ) (b : List ℕ) → length b < n → RunsAlike b
run_upto zero b l = absurd (omega arith)
run_upto (suc n) b l = run_next b (λ c h. run_upto n c (omega arith))

pub run_good : (s : Taking) (p : List ℕ) → all_good good_record (records p) ≡ true → Roomy s p → run step s (records p) ≡ behind s p
run_good s p = run_upto (suc (length p)) p (omega arith) s

-- ---- held bytes, and a burst whose first bytes end whole records with them

pub fed_run : (s : Taking) (h bytes : List ℕ) (n : ℕ) → stopped s ≡ false → ripe good_front h ≡ false → all_good good_record (records (h ++ take n bytes)) ≡ true
    → fed reader (stands_at s h) bytes ≡ fed reader (start (run step s (records (h ++ take n bytes)))) (drop n bytes)
fed_run s h bytes n on raw good =
    let held : fed reader (start s) h ≡ stands_at s h = fed_held reader sticky s [] h on (short_raw good_front h raw) in
    let split : h ++ bytes ≡ (h ++ take n bytes) ++ drop n bytes = ap (λ (l : List ℕ). h ++ l) (sym (take-append-drop n bytes)) ∙ sym (append_assoc h (take n bytes) (drop n bytes)) in
    ap (λ w. fed reader w bytes) (sym held)
    ∙ fed_append reader sticky (start s) h bytes
    ∙ ap (fed reader (start s)) split
    ∙ sym (fed_append reader sticky (start s) (h ++ take n bytes) (drop n bytes))
    ∙ ap (λ w. fed reader w (drop n bytes)) (good_ones s (h ++ take n bytes) good)
