-- What reading an index area gives, exactly when.
use mathlib.Core.Path.{◌≡◌, refl, sym, ap, ◌∙◌}
use mathlib.Core.Bool.{true, false}
use mathlib.Core.List.{List, [], ◌∷◌, ◌++◌}
use Prim.Native.Nat.{ℕ, suc, ◌+◌, ◌-◌, ◌%◌, ◌≤◌}
use native.Mathlib.Nat.{add_assoc}
use native.Mathlib.Omega.{arith}
use lib.Dec.{leb, ltb, eqb}
use lib.ListN.{length, take, drop, replicate, length-append, length-replicate, length-drop, take-append-drop}
use lib.Seq.{drop_at}
use borrow.Author.Tests.{eq-eqb, eqb-true, le-leb, leb-true, lt-ltb, le-ltb}
use Rattle.words.specs.Numbers.{be32, zeros}
use Rattle.words.specs.Nul.{until_nul}
use Rattle.words.specs.Reading.{Reading, read, refused, joined}
use Rattle.words.proofs.Claims.{joined_exactly}
use Rattle.words.proofs.Choice.{decide, and_left, and_right}
use Rattle.words.proofs.Named.{until_non_zero, until_stops}
use Rattle.words.proofs.Zeros.{zeros_zero}
use Rattle.inventory.specs.Inventory.{code_limit}
use Rattle.inventory.specs.Listing.{Entry}
use Rattle.indices.specs.declared.reading.Refusal.{Refusal}
use Rattle.indices.specs.declared.reading.Refusal.TheVariants.{Short, Past, Length, Code}
use Rattle.indices.specs.Area.{field_limit}
use Rattle.indices.specs.Reading.{length_at, field_at, good_length, good_field, fault_at, with_entry, read_from, reading}
use Rattle.indices.specs.Claims.Reader.{CodeField, GoodLength, SetExactly, IndexReaderExactly}
use Rattle.indices.proofs.IndexLaws.{code_front}
use Rattle.indices.proofs.Fine.{good}

-- ---- lengths

length_told : (n : ℕ) → good_length n ≡ true → GoodLength n
unfolding good_length code_limit
length_told n e =
    let e₁ = and_right (leb 1 n) _ e in
    let fours = eqb-true (n % 4) 0 (and_right (leb n field_limit) _ e₁) in
    record { some = leb-true 1 n (and_left _ _ e); few = leb-true n field_limit (and_left _ _ e₁); fours = fours }

length_bad : (n : ℕ) → (GoodLength n → ⊥) → good_length n ≡ false
length_bad n b = decide (good_length n) (λ t. absurd (b (length_told n t))) (λ t. t)

length_good : (n : ℕ) → GoodLength n → good_length n ≡ true
unfolding good_length code_limit
length_good n g = rw (le-leb 1 n g.some, le-leb n field_limit g.few, eq-eqb (n % 4) 0 g.fours)

-- ---- a code and its NULs

zeros_are : (l : List ℕ) → zeros l ≡ true → l ≡ replicate (length l) 0
unfolding zeros
zeros_are [] h = refl
zeros_are (b ∷ bs) h = rw (eqb-true b 0 (and_left (eqb b 0) (zeros bs) h)) (ap (λ (l : List ℕ). 0 ∷ l) (zeros_are bs (and_right (eqb b 0) (zeros bs) h)))

module _ (f : List ℕ) where
  field_told : good_field f ≡ true → CodeField f (until_nul f) (length f - length (until_nul f))
  field_told e =
      let g = good f e in
      let n = length (until_nul f) in
      record {
        some = g.some;
        non_zero = until_non_zero f;
        one = omega arith;
        four = omega arith;
        filled = sym (take-append-drop n f) ∙ rw (← code_front f, zeros_are (drop n f) g.nuls, length-drop n f);
      }

  field_bad : ((code : List ℕ) (nuls : ℕ) → CodeField f code nuls → ⊥) → good_field f ≡ false
  field_bad b = decide (good_field f) (λ t. absurd (b _ _ (field_told t))) (λ t. t)

  module _ (code : List ℕ) (nuls : ℕ) (c : CodeField f code nuls) where
    field_code : until_nul f ≡ code
    field_code =
        let more : nuls ≡ suc (nuls - 1) = omega arith in
        ap until_nul (c.filled ∙ ap (λ (k : ℕ). code ++ replicate k 0) more) ∙ until_stops code (replicate (nuls - 1) 0) c.non_zero

    field_good : good_field f ≡ true
    unfolding good_field
    field_good =
        let m = length code in
        let size : length f ≡ m + nuls = ap length c.filled ∙ length-append code (replicate nuls 0) ∙ rw (length-replicate {A = ℕ} nuls 0) in
        let rest : drop m f ≡ replicate nuls 0 = ap (λ (l : List ℕ). drop m l) c.filled ∙ drop_at code (replicate nuls 0) m refl in
        rw (field_code, size, rest, zeros_zero nuls, le-leb 1 m c.some, le-leb (m + 1) (m + nuls) (omega arith), le-leb (m + nuls) (m + 4) (omega arith))

-- ---- a set

entry_first : (e : Entry) (r : Reading Entry Refusal) → with_entry e r ≡ joined (read (e ∷ [])) r
unfolding joined
entry_first e (read es) = refl
entry_first e (refused r at) = refl

module _ (area : List ℕ) (at left : ℕ) where
  abbrev n : ℕ
  n = length_at area at

  length_there : n ≡ be32 area (at + 4)
  unfolding length_at
  length_there = refl

  abbrev field : List ℕ
  field = take n (drop (at + 8) area)

  head : at + 8 ≤ length area → ltb (length area - at) 8 ≡ false
  head h = le-ltb (length area - at) 8 (omega arith)

  whole : at + 8 + n ≤ length area → ltb (length area - at) (8 + n) ≡ false
  whole h = le-ltb (length area - at) (8 + n) (omega arith)

  set : SetExactly area at left n (read_from (suc left) area at)
  unfolding read_from fault_at field_at
  set = record {
    short = λ h. (Past, (refl, rw (lt-ltb (length area - at) 8 (omega arith))));
    uneven = λ h b. (Length, (refl, rw (head h, length_bad n b)));
    past = λ h g k. (Past, (refl, rw (head h, length_good n g, lt-ltb (length area - at) (8 + n) (omega arith))));
    no_code = λ g h b. (Code, (refl, rw (head (omega arith), length_good n g, whole h, field_bad field b)));
    entry = λ g h code nuls c.
        rw (head (omega arith), length_good n g, whole h, field_good field code nuls c, field_code field code nuls c, ← add_assoc at 8 n) (entry_first _ _);
  }

pub index_reader_exactly : IndexReaderExactly
unfolding reading read_from
index_reader_exactly = record {
  in_turn = joined_exactly;
  short = λ area h. (Short, (refl, rw (lt-ltb (length area) 4 h)));
  sets = λ area h. rw (le-ltb (length area) 4 h);
  none = λ area at. refl;
  set = λ area at left. rw (← length_there area at left) (set area at left);
}
