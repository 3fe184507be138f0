-- Two inventories that differ only in the codes of other flags and types: the search goes the same way in both.
use mathlib.Core.Path.{◌≡◌, refl}
use mathlib.Core.Bool.{true, false, and-true}
use mathlib.Core.List.{List, [], ◌∷◌}
use Prim.Native.Nat.{ℕ, zero, suc, ◌+◌}
use native.Mathlib.Nat.{zero-add, add-zero, add_assoc}
use native.Mathlib.Omega.{arith}
use lib.Dec.{ltb, eqb}
use lib.ListN.{length, drop}
use borrow.Author.Tests.{ltb-true, ltb-false, eqb-true, ne_eqb}
use Rattle.words.specs.Numbers.{le}
use Rattle.words.proofs.Choice.{decide}
use Rattle.words.proofs.Exactly.{equal, at_most, both}
use Rattle.words.proofs.Numbers.{le_take}
use Rattle.records.specs.Records.{length_of, kind_of, size_of, records_from, records, whole, all_good, well_formed_by}
use Rattle.records.specs.Choosing.{chosen_by}
use Rattle.records.proofs.Steps.{records-step, records_end}
use Rattle.inventory.specs.Inventory.{code_limit, head_size, flag_of, type_of, code_of, all_non_zero, good_head, good_code, good_record, well_formed}
use Rattle.inventory.specs.Listing.{matches, chosen, listed}
use Rattle.inventory.specs.Claims.Scanning.{ahead, GoodFrom}
use Rattle.inventory.specs.Claims.Search.{next_place, good_for, place_of, Alike, AllAlike, OtherCodes, SearchAgrees, SearchWitness, OthersUnjudged}
use Rattle.inventory.proofs.RecordLaws.{record_size_lem}
use Rattle.inventory.proofs.Search.{readable_here, behind}

-- ---- the place of a record

module _ (flag type : ℕ) (inventory : List ℕ) where
  -- at the place of record number n stand that one and those behind it
  abbrev Placed : ℕ → ℕ → ℕ → Type 0
  Placed from n at = GoodFrom flag type inventory at × (records (drop at inventory) ≡ drop n (records (drop from inventory)))

  placed_from : (n from : ℕ) → GoodFrom flag type inventory from → Placed from n (from + place_of n (records (drop from inventory)))
  unfolding place_of
  placed_from zero from g = rw add-zero (g, refl)
  placed_from (suc n) from g =
      let size = size_of (drop from inventory) in
      decide (ltb from (length inventory))
      (λ t.
      let inside = ltb-true from (length inventory) t in
      let rest = records (drop (from + size) inventory) in
      rw (records-step inventory from inside, record_size_lem inventory from (readable_here g inside), ← add_assoc from size (place_of n rest)) (placed_from n (from + size) (behind g inside)))
      (λ t. let end = records_end inventory from (ltb-false from (length inventory) t) in rw (end, add-zero) (g, end))

  pub placed : all_good (good_for flag type) (records inventory) ≡ true → (n : ℕ) → Placed 0 n (place_of n (records inventory))
  placed g n = rw zero-add at (placed_from n 0 (record { inside = omega arith; good = g }))

-- ---- records that are alike

module _ (flag type : ℕ) where
  same_type : {r s : List ℕ} → Alike flag type r s → matches flag type r ≡ matches flag type s
  unfolding matches flag_of type_of
  same_type {r} {s} a = rw (← le_take 2 head_size r 4 (omega arith), ← le_take 4 head_size r 6 (omega arith), a.head, le_take 2 head_size s 4 (omega arith), le_take 4 head_size s 6 (omega arith))

  -- one by one: where each begins, which is next, and what is chosen
  same_start : (n : ℕ) (rs ss : List (List ℕ)) → AllAlike flag type rs ss → (place_of n rs ≡ place_of n ss) × AllAlike flag type (drop n rs) (drop n ss)
  unfolding place_of
  same_start zero rs ss a = (refl, a)
  same_start (suc n) [] [] a = (refl, a)
  same_start (suc n) [] (s ∷ ss) a = absurd a
  same_start (suc n) (r ∷ rs) [] a = absurd a
  same_start (suc n) (r ∷ rs) (s ∷ ss) a = let more = same_start n rs ss a.1 in (rw (a.0.size, more.0), more.1)

  same_next : (at : ℕ) (rs ss : List (List ℕ)) → AllAlike flag type rs ss → next_place flag type at rs ≡ next_place flag type at ss
  unfolding next_place
  same_next at [] [] a = refl
  same_next at [] (s ∷ ss) a = absurd a
  same_next at (r ∷ rs) [] a = absurd a
  same_next at (r ∷ rs) (s ∷ ss) a = rw (same_type a.0, a.0.size, same_next (at + length s) rs ss a.1)

  same_chosen : (rs ss : List (List ℕ)) → AllAlike flag type rs ss → chosen flag type rs ≡ chosen flag type ss
  unfolding chosen_by
  same_chosen [] [] a = refl
  same_chosen [] (s ∷ ss) a = absurd a
  same_chosen (r ∷ rs) [] a = absurd a
  same_chosen (r ∷ rs) (s ∷ ss) a = decide (matches flag type r)
      (λ t. rw (← a.0.same t, same_chosen rs ss a.1))
      (λ t. rw (← same_type a.0, t, same_chosen rs ss a.1))

-- ---- the two inventories

module _ {flag type : ℕ} {i k : List ℕ} (o : OtherCodes flag type i k) where
  pub same_list : listed flag type i ≡ listed flag type k
  unfolding listed
  same_list = same_chosen flag type (records i) (records k) o.alike

  module _ (n : ℕ) where
    abbrev place : ℕ
    place = place_of n (records i)

    same_place : place ≡ place_of n (records k)
    same_place = (same_start flag type n (records i) (records k) o.alike).0

    -- the second is good from there on too, and the records from there on are alike
    pub second_good : GoodFrom flag type k place
    second_good = rw same_place (placed flag type k o.second n).0

    rest_alike : AllAlike flag type (records (drop place i)) (records (drop place k))
    rest_alike = rw ((placed flag type i o.first n).1, same_place, (placed flag type k o.second n).1) (same_start flag type n (records i) (records k) o.alike).1

    pub same_ahead : ahead flag type i place ≡ ahead flag type k place
    same_ahead = same_chosen flag type _ _ rest_alike

    search_same : next_place flag type place (records (drop place i)) ≡ next_place flag type place (records (drop place k))
    search_same = same_next flag type place _ _ rest_alike

pub search_agrees : SearchAgrees
search_agrees flag type n i k o = (same_place o n, search_same o n)

pub search_witness : SearchWitness
unfolding next_place good_for matches type_of well_formed well_formed_by good_record good_head code_limit flag_of code_of good_code all_non_zero records records_from whole all_good length_of kind_of le
search_witness =
    record {
      differ = record {
        size = refl;
        few = omega arith;
        first = refl;
        second = refl;
        alike = (
          record { size = refl; head = refl; same = λ e. cc },
          (record { size = refl; head = refl; same = λ e. cc }, (record { size = refl; head = refl; same = λ e. refl }, tt)),
        );
      };
      taken = refl;
      refused = refl;
      first = refl;
      second = refl;
    }

-- of another flag or type
other_type : (flag type : ℕ) (r : List ℕ) → (le 2 r 4 ≡ flag → le 4 r 6 ≡ type → ⊥) → matches flag type r ≡ false
unfolding matches flag_of type_of
other_type flag type r n =
    decide (eqb (le 2 r 4) flag)
    (λ e. rw e (ne_eqb (le 4 r 6) type (n (eqb-true (le 2 r 4) flag e))))
    (λ e. rw e)

pub others_unjudged : OthersUnjudged
unfolding good_for good_head flag_of kind_of code_limit
others_unjudged flag type r w n =
    rw (other_type flag type r n) (simp and-true (both (at_most 15 (size_of r)) (both (at_most (size_of r) 1037) (both (equal (le 2 r 2) 16) (at_most (le 2 r 4) 1)))))
