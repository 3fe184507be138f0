-- The changes of a journal from a place on, record by record, and where the change of a record stands in the journal's bytes.
use mathlib.Core.Path.{◌≡◌, refl, sym, ap, subst, ◌∙◌}
use mathlib.Core.Bool.{true, cond, ◌&&◌}
use mathlib.Core.List.{List, [], ◌∷◌}
use Prim.Native.Nat.{ℕ, zero, suc, ◌+◌, ◌-◌, ◌≤◌, ◌<◌}
use native.Mathlib.Omega.{arith}
use lib.Dec.{leb, ltb, eqb}
use lib.ListN.{length, drop, length-drop}
use lib.Seq.{slice, length-take-le}
use borrow.Author.Tests.{leb-true, ltb-true, ltb-false, eqb-true}
use Rattle.words.specs.Nul.{until_nul, is_ended}
use Rattle.words.proofs.Choice.{decide, choose, and_left, and_right}
use Rattle.words.proofs.Ends.{ended_bounds}
use Rattle.records.specs.Records.{length_of, kind_of, size_of, first_record, whole, records, all_good}
use Rattle.records.proofs.Steps.{drop_part, records_end, records-step, judge_step}
use Rattle.journal.specs.Property.{name_limit, name_place, name_of, value_start, value_of, value_most, property_frame, good_property}
use Rattle.journal.specs.Journal.{good_record}
use Rattle.journal.specs.Holding.{good_here, property_here, property_in}
use Rattle.journal.proofs.Sizes.{sized_here, kind_read}
use Rattle.journal.proofs.GoodLaws.{property_good, property_by}
use Rattle.properties.specs.declared.walk.Extent.{Extent}
use Rattle.properties.specs.Changes.{Change, change_of, is_of, changes_from, changes, stop}
use Rattle.properties.specs.Filling.{header}
use Rattle.properties.specs.Inner.Following.{extent_of}
use Rattle.properties.proofs.Placing.{Good, Placed, placed_lower}

until_twice : (l : List ℕ) → until_nul (until_nul l) ≡ until_nul l
unfolding until_nul
until_twice [] = refl
until_twice (b ∷ bs) = decide (eqb b 0) (λ t. rw t) (λ t. rw t (rw t (ap (λ (l : List ℕ). b ∷ l) (until_twice bs))))

-- ---- where the change of a record at a place stands

abbrev pub extent_in : Change → Extent
extent_in c = record { at = c.at; header = header c; start = c.start; length = length c.value }

pub record ChangeStands (j : List ℕ) (at : ℕ) (c : Change) : Type 0 where
  pub good : Good c
  pub ends : stop c ≡ at + size_of (drop at j)
  pub within : 9 + length c.name ≤ size_of (drop at j)
  pub starts : c.start ≡ at + (9 + length c.name)
  pub counts : length c.value ≡ size_of (drop at j) - (9 + length c.name)
  pub extent : extent_of at (property_in j at) ≡ extent_in c
  pub bytes : c.value ≡ slice c.start (at + size_of (drop at j)) j

module _ (j : List ℕ) (at : ℕ) where
  abbrev here : List ℕ
  here = first_record (drop at j)

  abbrev size : ℕ
  size = size_of (drop at j)

  pub record_size_lem : good_here j at ≡ true → length here ≡ size
  record_size_lem g = length-take-le size (drop at j) (rw length-drop (omega (arith, sized_here j at g)))

  module _ (inside : at ≤ length j) (p : property_here j at ≡ true) where
    body : (is_ended name_limit (drop name_place here) && leb (length (value_of here)) (value_most (kind_of here))) ≡ true
    unfolding good_property
    body = and_right (property_frame (length_of here) (kind_of here)) _ (and_right (whole here) _ p)

    named : (1 ≤ length (name_of here)) × (length (name_of here) ≤ name_limit) × (length (name_of here) < length (drop name_place here))
    unfolding name_of
    named = ended_bounds name_limit (drop name_place here) (and_left _ _ body)

    value_short : length (value_of here) ≤ value_most (kind_of here)
    value_short = leb-true _ _ (and_right (is_ended name_limit (drop name_place here)) _ body)

    value_length_lem : length (value_of here) ≡ size - (9 + length (name_of here))
    unfolding value_of
    value_length_lem = length-drop (value_start here) here ∙ rw (record_size_lem (property_good j at p)) (omega arith)

    name_within : 9 + length (name_of here) ≤ size
    name_within = omega (arith, named, record_size_lem (property_good j at p), length-drop name_place here)

    extent_here : extent_of at (property_in j at) ≡ extent_in (change_of at here)
    extent_here = let e : value_start here ≡ 9 + length (name_of here) = omega arith in rw (value_length_lem, e)

    pub change_good : ChangeStands j at (change_of at here)
    unfolding name_of value_of
    change_good = record {
      good = record {
        inside = omega arith;
        long = omega arith;
        named = named.0;
        short = named.1;
        non_zero = until_twice (drop name_place here);
        bare = λ e. nil (value_of here) (rw (eqb-true (kind_of here) 6 e) at value_short);
      };
      ends = omega (arith, value_length_lem, name_within);
      within = name_within;
      starts = omega arith;
      counts = value_length_lem;
      extent = extent_here;
      bytes = drop_part j at (value_start here) size inside;
    }
      where
        nil : (l : List ℕ) → length l ≤ 0 → l ≡ []
        nil [] h = refl
        nil (b ∷ bs) h = absurd (omega arith)

-- ---- the changes from a place on

module _ (phandle : ℕ) (j : List ℕ) where
  abbrev pub changes_at : ℕ → List Change
  changes_at at = changes_from phandle at (records (drop at j))

  pub changes_end : (at : ℕ) → length j ≤ at → changes_at at ≡ []
  unfolding changes_from
  changes_end at h = rw (records_end j at h)

  pub changes_step : (at : ℕ) → at < length j → good_here j at ≡ true
      → let r = first_record (drop at j) in let later = changes_at (at + size_of (drop at j)) in changes_at at ≡ cond (is_of phandle r) (change_of at r ∷ later) later
  unfolding changes_from
  changes_step at h g = rw (records-step j at h, record_size_lem j at g)

  -- a record of the node's changes is one of a property
  pub of_property : (at : ℕ) → at ≤ length j → good_here j at ≡ true → is_of phandle (first_record (drop at j)) ≡ true → property_here j at ≡ true
  unfolding is_of
  of_property at h g o = property_by j at h g (omega (arith, kind_read j at g, leb-true 5 (kind_of (first_record (drop at j))) (and_left _ _ o)))

  placed_in : (n at : ℕ) → length j - at ≤ n → at ≤ length j → all_good good_record (records (drop at j)) ≡ true → Placed at (length j) (changes_at at)
  placed_in zero at b h a = rw (changes_end at (omega arith)) h
  placed_in (suc n) at b h a =
      decide (ltb at (length j))
      (λ t.
      let r = first_record (drop at j) in
      let next = at + size_of (drop at j) in
      let more = ltb-true _ _ t in
      let both = sym (judge_step good_record j at more) ∙ a in
      let g = and_left (good_here j at) _ both in
      let sized = sized_here j at g in
      let later = placed_in n next (omega arith) sized.1 (and_right (good_here j at) _ both) in
      rw (changes_step at more g)
      (choose (is_of phandle r) (Placed at (length j))
      (λ o. let c = change_good j at h (of_property at h g o) in
      (omega arith, c.good, subst (λ (lo : ℕ). Placed lo (length j) (changes_at next)) (sym c.ends) later))
      (λ o. placed_lower next at (length j) (changes_at next) (omega arith) later)))
      (λ t. rw (changes_end at (ltb-false _ _ t)) h)

  pub changes_placed : (at : ℕ) → at ≤ length j → all_good good_record (records (drop at j)) ≡ true → Placed at (length j) (changes_at at)
  changes_placed at h a = placed_in (length j - at) at (omega arith) h a

  -- all of them
  pub placed_all : all_good good_record (records j) ≡ true → Placed 0 (length j) (changes phandle j)
  placed_all a = changes_placed 0 (omega arith) a
