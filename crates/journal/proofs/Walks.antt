-- A walk over good records, and how it resumes the list of an opcode.
use mathlib.Core.Path.{◌≡◌, refl, sym, ap, ◌∙◌}
use mathlib.Core.Bool.{true, or-false, true≢false}
use mathlib.Core.List.{List, ◌∷◌}
use Prim.Native.Nat.{ℕ, ◌+◌, ◌-◌, ◌<◌, ◌≤◌}
use native.Mathlib.Omega.{arith}
use lib.Dec.{leb}
use lib.ListN.{length, drop}
use borrow.Author.Tests.{leb-true}
use Rattle.words.specs.Numbers.{le}
use Rattle.records.specs.Records.{kind_of, size_of, first_record, records, all_good, size_limit}
use Rattle.records.proofs.Choosing.{one_if_lem, one_if_le, chosen_length, chosen_skip}
use Rattle.records.proofs.Steps.{judge_step, formed_good, formed_within, record_kind, field_at}
use Rattle.journal.specs.Scope.{Selection}
use Rattle.journal.specs.Journal.{good_record, well_formed, operands, operation_of, Entry, entry_of, entries}
use Rattle.journal.specs.Reportable.{operation, reports, chosen}
use Rattle.journal.specs.Marks.{Resumes}
use Rattle.journal.specs.Inner.Terms.{operands_before}
use Rattle.journal.specs.Terms.{opcode_for, node_here}
use Rattle.journal.specs.Inner.Terms.{length_for}
use Rattle.journal.specs.Holding.{good_here, property_here}
use Rattle.words.proofs.Choice.{decide, and_left, and_right}
use Rattle.journal.proofs.Opcodes.{each_kind}
use Rattle.journal.proofs.Entries.{each_entry}
use Rattle.journal.proofs.RecordLaws.{good_kind, good_length, reported_kind}
use Rattle.journal.proofs.GoodLaws.{good_either, property_passed}
use Rattle.journal.proofs.Sizes.{sized_here}

-- the records of a well-formed journal are good
pub all_good_lem : (j : List ℕ) → well_formed j ≡ true → all_good good_record (records j) ≡ true
unfolding well_formed
all_good_lem j w = formed_good size_limit good_record j w

-- and it is within the limit, so that counts of its operations are small
pub within_limit : (j : List ℕ) → well_formed j ≡ true → length j ≤ size_limit
unfolding well_formed
within_limit j w = formed_within size_limit good_record j w

-- ---- a record of a walk

module _ (j : List ℕ) (at : ℕ) (inside : at < length j) (good : all_good good_record (records (drop at j)) ≡ true) where
  -- it is good
  pub walked : good_here j at ≡ true
  walked = and_left _ (all_good good_record (records (drop (at + size_of (drop at j)) j))) (sym (judge_step good_record j at inside) ∙ good)

  -- and so are those behind it
  pub walked_on : all_good good_record (records (drop (at + size_of (drop at j)) j)) ≡ true
  walked_on = and_right (good_here j at) _ (sym (judge_step good_record j at inside) ∙ good)

  pub walked_fits : at + size_of (drop at j) ≤ length j
  walked_fits = (sized_here j at walked).1

  -- any record has room for two operand words behind its length
  pub walked_size : 10 ≤ size_of (drop at j)
  walked_size = omega (arith, sized_here j at walked)

  -- one that is reported is of a node
  pub walked_node : (sel : Selection) (code : ℕ) → reports sel code (entry_of (first_record (drop at j))) ≡ true → node_here j at ≡ true
  walked_node sel code e = decide (property_here j at)
      (λ p. absurd (true≢false (sym e ∙ property_passed j at (omega arith) p sel code)))
      (λ p. sym (or-false (node_here j at)) ∙ (rw p at (sym (good_either j at) ∙ walked)))

  -- the operands of a reported record are the numbers that it ends in
  pub walked_operands : (sel : Selection) (code : ℕ) → reports sel code (entry_of (first_record (drop at j))) ≡ true → operands (operation_of (first_record (drop at j))) ≡ operands_before j code (at + size_of (drop at j))
  unfolding operation_of
  walked_operands sel code e =
      let node = walked_node sel code e in
      let at_field : (i : ℕ) → i + 4 ≤ size_of (drop at j) → le 4 (first_record (drop at j)) i ≡ le 4 j (at + i) = field_at j at 4 in
      each_kind (λ (k : ℕ). kind_of (first_record (drop at j)) ≡ k → size_of (drop at j) ≡ length_for k + 2 → operands (operation_of (first_record (drop at j))) ≡ operands_before j (opcode_for k) (at + (length_for k + 2)))
      (λ q s. rw (q, at_field 6 (omega arith), back at 10 4 6 refl refl))
      (λ q s. rw (q, at_field 6 (omega arith), back at 10 4 6 refl refl))
      (λ q s. rw (q, at_field 6 (omega arith), at_field 10 (omega arith), back at 14 8 6 refl refl, back at 14 4 10 refl refl))
      (λ q s. rw (q, at_field 14 (omega arith), back at 18 4 14 refl refl))
      (kind_of (drop at j)) (good_kind j at node) (record_kind j at (omega (arith, walked_size))) (good_length j at node)
      ∙ ap (λ (n : ℕ). operands_before j (opcode_for (kind_of (drop at j))) (at + n)) (sym (good_length j at node))
      ∙ ap (λ (k : ℕ). operands_before j k (at + size_of (drop at j))) (reported_kind j at node sel code e)
    where
      back : (at n k i : ℕ) → ◌≡◌ {A = ℕ} (n - k) i → leb k n ≡ true → at + n - k ≡ at + i
      back at n k i e h = let l = leb-true k n h in omega arith

-- a walk that has operations to pass over goes on past a record
pub resumes_step : (sel : Selection) (j : List ℕ) (code k at skip : ℕ) → all_good good_record (records j) ≡ true → at < length j → 0 < skip → Resumes sel j code k at skip
    → Resumes sel j code k (at + size_of (drop at j)) (skip - one_if_lem (reports sel code (entry_of (first_record (drop at j)))))
resumes_step sel j code k at skip w h s r =
    let e = entry_of (first_record (drop at j)) in
    let es = entries (drop (at + size_of (drop at j)) j) in
    let step : entries (drop at j) ≡ e ∷ es = each_entry.step j at h in
    record {
      inside = walked_fits j at h (r.sound w);
      sound = λ v. walked_on j at h (r.sound v);
      number = omega (arith, r.number, ap (λ (l : List Entry). length (chosen sel code l)) step, chosen_length (reports sel code) operation e es, one_if_le (reports sel code e));
      same = r.same ∙ ap (λ (l : List Entry). drop skip (chosen sel code l)) step ∙ chosen_skip (reports sel code) operation e es skip s;
    }
