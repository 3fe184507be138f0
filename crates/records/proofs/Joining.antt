-- Buffers joined end to end, over any rule for a good record: the records of the one, then those of the other.
use mathlib.Core.Path.{◌≡◌, refl, sym, ap, ◌∙◌}
use mathlib.Core.Bool.{Bool, true, ◌&&◌, and_assoc, and-true}
use mathlib.Core.List.{List, [], ◌∷◌, ◌++◌}
use Prim.Native.Nat.{ℕ, zero, suc, ◌+◌, ◌-◌, ◌≤◌}
use native.Mathlib.Omega.{arith}
use lib.ListN.{length, take, length-append, drop_of_length-le}
use lib.Seq.{take_all, take-append-le}
use Rattle.words.proofs.Choice.{and_left}
use Rattle.records.specs.Records.{size_of, first_record, records_from, records, whole, all_good, well_formed_by}
use Rattle.records.proofs.Steps.{formed, formed_good}
use Rattle.records.proofs.Due.{length_append_of}
use Rattle.records.proofs.Whole.{records_front, records_none, first_fits, whole_size, first_good, later_good}

-- a whole first record stays what it is, whatever follows
first_join : (a b : List ℕ) → whole (first_record a) ≡ true → (size_of (a ++ b) ≡ size_of a) × (first_record (a ++ b) ≡ first_record a)
first_join a b w =
    let f = first_fits a w in
    let s : size_of (a ++ b) ≡ size_of a = ap (λ (n : ℕ). n + 2) (length_append_of a b (omega arith)) in
    (s, ap (λ (n : ℕ). take n (a ++ b)) s ∙ take-append-le (size_of a) a b f.1)

module _ (good : List ℕ → Bool) where
  -- behind the k bytes of a record that was cut before
  from_join : (k : ℕ) (a b : List ℕ) → k ≤ length a → all_good good (records_from k a) ≡ true → records_from k (a ++ b) ≡ records_from k a ++ records b
  unfolding records_from records
  from_join zero [] b h g = refl
  from_join zero (x ∷ a) b h g =
      let w = and_left (whole (first_record (x ∷ a))) _ (first_good good _ _ g) in
      let j = first_join (x ∷ a) b w in
      rw (j.1, j.0) (ap (λ (rs : List (List ℕ)). first_record (x ∷ a) ∷ rs)
      (from_join (size_of (x ∷ a) - 1) a b (omega (arith, first_fits (x ∷ a) w)) (later_good good _ _ g)))
  from_join (suc k) [] b h g = absurd (omega arith)
  from_join (suc k) (x ∷ a) b h g = from_join k a b (omega arith) g

  pub records_join : (a b : List ℕ) → all_good good (records a) ≡ true → records (a ++ b) ≡ records a ++ records b
  unfolding records
  records_join a b g = from_join 0 a b (omega arith) g

  pub good_join : (xs ys : List (List ℕ)) → all_good good (xs ++ ys) ≡ (all_good good xs && all_good good ys)
  unfolding all_good
  good_join [] ys = refl
  good_join (x ∷ xs) ys = rw (good_join xs ys) (sym (and_assoc (whole x && good x) (all_good good xs) (all_good good ys)))

  pub formed_join : (limit : ℕ) (a b : List ℕ) → well_formed_by limit good a ≡ true → well_formed_by limit good b ≡ true → length a + length b ≤ limit → well_formed_by limit good (a ++ b) ≡ true
  formed_join limit a b u v h =
      let g = formed_good limit good a u in
      formed limit good (a ++ b) (rw length-append h) (ap (all_good good) (records_join a b g) ∙ good_join (records a) (records b) ∙ rw (g, formed_good limit good b v))

-- ---- a buffer of one record

module _ (r : List ℕ) where
  pub one_record_lem : whole r ≡ true → records r ≡ r ∷ []
  one_record_lem w =
      let s = whole_size r w in
      records_front r (omega arith) ∙ rw (take_all (size_of r) r (omega arith), drop_of_length-le r {i = size_of r} (omega arith), records_none)

  module _ (good : List ℕ → Bool) where
    -- all of it is good exactly where it is whole and good
    only_good : all_good good (r ∷ []) ≡ (whole r && good r)
    unfolding all_good
    only_good = and-true (whole r && good r)

    pub one_good : (whole r && good r) ≡ true → all_good good (records r) ≡ true
    one_good g = ap (all_good good) (one_record_lem (and_left (whole r) _ g)) ∙ only_good ∙ g

    pub one_whole : records r ≡ r ∷ [] → all_good good (records r) ≡ true → (whole r && good r) ≡ true
    one_whole e g = sym only_good ∙ sym (ap (all_good good) e) ∙ g
