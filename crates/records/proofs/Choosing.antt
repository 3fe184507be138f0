-- Laws of choosing, over any test and any reading: of one element and of a join, and along the records of a buffer.
use mathlib.Core.Path.{◌≡◌, refl, sym, ap, ◌∙◌}
use mathlib.Core.Bool.{Bool, true, false, cond}
use mathlib.Core.List.{List, [], ◌∷◌, ◌++◌}
use Prim.Native.Nat.{ℕ, ◌+◌, ◌-◌, ◌<◌, ◌≤◌}
use native.Mathlib.Nat.{add-sub_of_le}
use native.Mathlib.Omega.{arith}
use lib.Dec.{leb}
use lib.ListN.{length, drop}
use lib.Seq.{drop-drop}
use borrow.Author.Tests.{leb-true, leb-false}
use Rattle.records.specs.Records.{size_of, first_record, records}
use Rattle.records.specs.Choosing.{chosen_by}
use Rattle.records.specs.Inner.Terms.{Before}
use Rattle.records.proofs.Steps.{records-step, records_end}

-- a test as a number
abbrev pub one_if_lem : Bool → ℕ
one_if_lem b = cond b 1 0

pub one_if_le : (b : Bool) → one_if_lem b ≤ 1
one_if_le true = omega arith
one_if_le false = omega arith

module _ {A B : Type 0} (test : A → Bool) (reading : A → B) where
  pub chosen_none : chosen_by test reading [] ≡ []
  unfolding chosen_by
  chosen_none = refl

  -- ---- one element

  module _ (x : A) (xs : List A) where
    pub chosen_yes : test x ≡ true → chosen_by test reading (x ∷ xs) ≡ reading x ∷ chosen_by test reading xs
    unfolding chosen_by
    chosen_yes h = rw h

    pub chosen_no : test x ≡ false → chosen_by test reading (x ∷ xs) ≡ chosen_by test reading xs
    unfolding chosen_by
    chosen_no h = rw h

    pub chosen_length : length (chosen_by test reading (x ∷ xs)) ≡ one_if_lem (test x) + length (chosen_by test reading xs)
    unfolding chosen_by
    chosen_length = go (test x) (chosen_by test reading xs)
      where
        go : (t : Bool) (ys : List B) → length (cond t (reading x ∷ ys) ys) ≡ one_if_lem t + length ys
        go true ys = omega arith
        go false ys = omega arith

    -- what is left behind it
    pub chosen_drop : drop (one_if_lem (test x)) (chosen_by test reading (x ∷ xs)) ≡ chosen_by test reading xs
    unfolding chosen_by
    chosen_drop = go (test x) (chosen_by test reading xs)
      where
        go : (t : Bool) (ys : List B) → drop (one_if_lem t) (cond t (reading x ∷ ys) ys) ≡ ys
        go true ys = refl
        go false ys = refl

    -- and after n, of which it is one where it is chosen
    pub chosen_skip : (n : ℕ) → 0 < n → drop n (chosen_by test reading (x ∷ xs)) ≡ drop (n - one_if_lem (test x)) (chosen_by test reading xs)
    chosen_skip n h =
        let e : one_if_lem (test x) + (n - one_if_lem (test x)) ≡ n = omega (arith, one_if_le (test x)) in
        ap (λ (k : ℕ). drop k (chosen_by test reading (x ∷ xs))) (sym e) ∙ sym (drop-drop (n - one_if_lem (test x)) (one_if_lem (test x)) (chosen_by test reading (x ∷ xs))) ∙ ap (drop (n - one_if_lem (test x))) chosen_drop

  -- ---- a join, and how many there are at most

  pub chosen_join : (xs ys : List A) → chosen_by test reading (xs ++ ys) ≡ chosen_by test reading xs ++ chosen_by test reading ys
  unfolding chosen_by
  chosen_join [] ys = refl
  chosen_join (x ∷ xs) ys = rw (chosen_join xs ys) (go (test x))
    where
      go : (t : Bool) → cond t (reading x ∷ (chosen_by test reading xs ++ chosen_by test reading ys)) (chosen_by test reading xs ++ chosen_by test reading ys) ≡ cond t (reading x ∷ chosen_by test reading xs) (chosen_by test reading xs) ++ chosen_by test reading ys
      go true = refl
      go false = refl

  pub chosen_few : (xs : List A) → length (chosen_by test reading xs) ≤ length xs
  chosen_few [] = simp chosen_none (omega arith)
  chosen_few (x ∷ xs) = omega (arith, chosen_length x xs, one_if_le (test x), chosen_few xs)

-- ---- along a buffer

-- the items of a buffer go along its records: from a place on that of the record there, then those behind it, and none at the end
pub record Items {A : Type 0} (items : List ℕ → List A) (first : List ℕ → A) : Type 0 where
  pub step : (b : List ℕ) (at : ℕ) → at < length b → items (drop at b) ≡ first (drop at b) ∷ items (drop (at + size_of (drop at b)) b)
  pub end : (b : List ℕ) (at : ℕ) → length b ≤ at → items (drop at b) ≡ []

pub each_record : Items records first_record
each_record = record { step = records-step; end = records_end }

module _ {A B : Type 0} (test : A → Bool) (reading : A → B) {items : List ℕ → List A} {first : List ℕ → A} (along : Items items first) (b : List ℕ) where
  -- from a place on: past a record that is chosen, and past another
  pub chosen_here : (at : ℕ) → at < length b → test (first (drop at b)) ≡ true → chosen_by test reading (items (drop at b)) ≡ reading (first (drop at b)) ∷ chosen_by test reading (items (drop (at + size_of (drop at b)) b))
  chosen_here at h e = ap (chosen_by test reading) (along.step b at h) ∙ chosen_yes test reading _ _ e

  pub chosen_later : (at : ℕ) → at < length b → test (first (drop at b)) ≡ false → chosen_by test reading (items (drop at b)) ≡ chosen_by test reading (items (drop (at + size_of (drop at b)) b))
  chosen_later at h e = ap (chosen_by test reading) (along.step b at h) ∙ chosen_no test reading _ _ e

  -- what is still to come stands in the buffer
  pub still_inside : (at : ℕ) → 0 < length (chosen_by test reading (items (drop at b))) → at < length b
  still_inside at h = go (leb (length b) at) refl
    where
      go : (t : Bool) → leb (length b) at ≡ t → at < length b
      go true e = absurd (omega (arith, h, ap (λ (l : List A). length (chosen_by test reading l)) (along.end b at (leb-true (length b) at e)), ap length (chosen_none test reading)))
      go false e = leb-false (length b) at e

  -- none stand before the start
  pub before_none : Before test reading items b 0 0
  before_none = record { number = omega arith; rest = refl }

  module _ (at n : ℕ) (p : Before test reading items b at n) where
    -- past a record
    pub before_step : at < length b → Before test reading items b (at + size_of (drop at b)) (n + one_if_lem (test (first (drop at b))))
    before_step h =
        let x = first (drop at b) in
        let xs = items (drop (at + size_of (drop at b)) b) in
        let e = along.step b at h in
        record {
          number = omega (arith, p.number, ap (λ (l : List A). length (chosen_by test reading l)) e, chosen_length test reading x xs);
          rest = sym (drop-drop (one_if_lem (test x)) n (chosen_by test reading (items b)))
              ∙ ap (drop (one_if_lem (test x))) (p.rest ∙ ap (chosen_by test reading) e) ∙ chosen_drop test reading x xs;
        }

    -- all of them stand before the end
    pub before_all : length b ≤ at → n ≡ length (chosen_by test reading (items b))
    before_all h = omega (arith, p.number, ap (λ (l : List A). length (chosen_by test reading l)) (along.end b at h), ap length (chosen_none test reading))

    -- from a later one on
    pub before_later : (k : ℕ) → n ≤ k → drop k (chosen_by test reading (items b)) ≡ drop (k - n) (chosen_by test reading (items (drop at b)))
    before_later k h = ap (λ (i : ℕ). drop i (chosen_by test reading (items b))) (sym (add-sub_of_le h)) ∙ sym (drop-drop (k - n) n (chosen_by test reading (items b))) ∙ ap (drop (k - n)) p.rest
