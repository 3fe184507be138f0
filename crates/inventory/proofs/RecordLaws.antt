-- What is known of the record at a place by its size, kind, flag and code.
use mathlib.Core.Path.{◌≡◌, sym, ap, ◌∙◌}
use mathlib.Core.Bool.{Bool, true, false, ◌&&◌, and-false, and_assoc}
use mathlib.Core.List.{List}
use Prim.Native.Nat.{ℕ, ◌+◌, ◌-◌, ◌<◌, ◌≤◌}
use native.Mathlib.Omega.{arith}
use lib.Dec.{leb, eqb}
use lib.ListN.{length, take, drop, length-drop}
use lib.Seq.{slice, length-take-le}
use Rattle.std.specs.Prelude.{None, Some}
use Rattle.std.proofs.lemmas.List.{drop-take}
use borrow.Author.Tests.{le-leb, leb-true}
use Rattle.words.specs.Numbers.{le}
use Rattle.words.proofs.Choice.{decide, and_left, and_right}
use Rattle.records.specs.Records.{length_of, kind_of, size_of, first_record, whole}
use Rattle.records.proofs.Steps.{drop_part, field_at, record_length, record_kind, whole_at}
use Rattle.inventory.specs.Inventory.{code_limit, head_size, flag_of, type_of, code_of, all_non_zero, good_head, good_code, good_record}
use Rattle.inventory.specs.Inner.Judging.{framed_at, good_size, Readable}
use Rattle.inventory.specs.Listing.{matches}

-- what the code's test of the numbers tells
pub framed_bounds : (left n kind flag : ℕ) → framed_at left n kind flag ≡ true → (head_size + 1 ≤ n) × (n ≤ head_size + code_limit) × (n ≤ left)
framed_bounds left n kind flag e =
    let numbers = and_right (leb n left) _ e in
    (leb-true (head_size + 1) n (and_left _ _ numbers), leb-true n (head_size + code_limit) (and_left _ _ (and_right (leb (head_size + 1) n) _ numbers)), leb-true n left (and_left _ _ e))

module _ (s : List ℕ) (at : ℕ) where
  abbrev here : List ℕ
  here = first_record (drop at s)

  abbrev size : ℕ
  size = size_of (drop at s)

  -- the record fits the inventory and is good
  abbrev pub good_here : Bool
  good_here = whole here && good_record here

  -- the code's tests of it
  abbrev framed_here : Bool
  framed_here = framed_at (length s - at) size (kind_of (drop at s)) (le 2 s (at + 4))

  abbrev code_here : Bool
  code_here = all_non_zero (take (at + size - (at + head_size)) (drop (at + head_size) s))

  -- the head
  pub head_here : (whole here && good_head here) ≡ framed_here
  unfolding good_head flag_of
  head_here = rw record_length (decide (leb (head_size + 1) size)
      (λ e. let large = leb-true (head_size + 1) size e in rw (whole_at s at, le-leb 2 (length_of (drop at s)) (omega arith), record_kind s at (omega arith), field_at s at 2 4 (omega arith)))
      (λ e. rw e (simp and-false)))

  -- a record with a head that passes can be read
  framed_readable : framed_here ≡ true → Readable s at
  framed_readable e =
      let b = framed_bounds (length s - at) size (kind_of (drop at s)) (le 2 s (at + 4)) e in
      record { large = b.0; small = b.1; inside = omega arith }

  pub head_readable : (b : Bool) → (whole here && (good_head here && b)) ≡ true → Readable s at
  head_readable b e = framed_readable (sym head_here ∙ and_left _ b (and_assoc (whole here) (good_head here) b ∙ e))

  -- its length and its code
  module _ (r : Readable s at) where
    pub record_size_lem : length here ≡ size
    record_size_lem = length-take-le size (drop at s) (rw length-drop (omega arith))

    pub code_length_lem : length (code_of here) ≡ size - head_size
    unfolding code_of
    code_length_lem = length-drop head_size here ∙ ap (λ (n : ℕ). n - head_size) record_size_lem

    code_is : code_of here ≡ take (at + size - (at + head_size)) (drop (at + head_size) s)
    unfolding code_of
    code_is =
        let n = at + size - (at + head_size) in
        let end : at + head_size + n ≡ at + size = omega arith in
        drop_part s at head_size size (omega arith) ∙ ap (λ (k : ℕ). slice (at + head_size) k s) (sym end) ∙ drop-take (at + head_size) n s

    code_good : good_code (code_of here) ≡ code_here
    unfolding good_code
    code_good = rw (code_length_lem, le-leb 1 (size - head_size) (omega arith), le-leb (size - head_size) code_limit (omega arith), code_is)

  good_here_lem : good_here ≡ (framed_here && code_here)
  unfolding good_record
  good_here_lem = sym (and_assoc (whole here) (good_head here) (good_code (code_of here))) ∙ rw head_here (decide framed_here (λ e. rw (code_good (framed_readable e))) (λ e. rw e))

  -- too few bytes for any record
  pub short_bad : length s - at < head_size + 1 → good_here ≡ false
  short_bad h = good_here_lem ∙ decide framed_here (λ e. absurd (omega (arith, framed_readable e))) (λ e. rw e)

  -- by the numbers that the code read, its test of them, and its test of the code
  pub good_read : (n kind flag : ℕ) (t u : Bool) → n ≡ size → kind ≡ kind_of (drop at s) → flag ≡ le 2 s (at + 4)
      → t ≡ framed_at (length s - at) n kind flag → u ≡ all_non_zero (take (at + n - (at + head_size)) (drop (at + head_size) s)) → good_here ≡ (t && u)
  good_read n kind flag t u p q r e z = rw (e, z, p, q, r) good_here_lem

  -- where the code gives no size
  pub none_stands : good_size (drop at s) ≡ None → good_here ≡ false
  none_stands e = decide good_here (λ t. absurd (let p = rw t at e in cc)) (λ t. t)

  -- the flag and type of a record that holds them
  pub matches_at : (flag type : ℕ) → 10 ≤ size → matches flag type here ≡ (eqb (le 2 s (at + 4)) flag && eqb (le 4 s (at + 6)) type)
  unfolding matches flag_of type_of
  matches_at flag type h = rw (field_at s at 2 4 (omega arith), field_at s at 4 6 (omega arith))

-- a good record of this size stands at a place
pub record Stands (s : List ℕ) (at n : ℕ) : Type 0 where
  pub good : good_here s at ≡ true
  pub size_is : n ≡ size_of (drop at s)
  pub large : head_size + 1 ≤ n
  pub small : n ≤ head_size + code_limit
  pub fits : at + n ≤ length s

pub good_stands : {s : List ℕ} {at n : ℕ} → good_here s at ≡ true → n ≡ size_of (drop at s) → Stands s at n
good_stands {s} {at} g p =
    let r = framed_readable s at (and_left (framed_here s at) _ (sym (good_here_lem s at) ∙ g)) in
    record { good = g; size_is = p; large = omega arith; small = omega arith; fits = omega arith }

pub readable : {s : List ℕ} {at n : ℕ} → Stands s at n → Readable s at
readable g = record { large = omega arith; small = omega arith; inside = omega arith }

pub stands : {s : List ℕ} {at n : ℕ} → good_size (drop at s) ≡ Some n → Stands s at n
stands {s} {at} {n} e = decide (good_here s at) (λ g. good_stands g (let p = rw g at e in cc)) (λ g. absurd (let p = rw g at e in cc))
