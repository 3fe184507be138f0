-- A good record exactly when, and the list of a flag and type record by record.
use mathlib.Core.Path.{◌≡◌, refl}
use mathlib.Core.Bool.{Bool, true, not}
use mathlib.Core.List.{List, [], ◌∷◌, ◌++◌}
use Prim.Native.Nat.{ℕ, zero, suc}
use native.Mathlib.Omega.{arith}
use lib.Dec.{eqb}
use lib.ListN.{length, drop, length-drop}
use borrow.Author.Tests.{ne_eqb, eqb-false, not-true}
use Rattle.words.specs.Numbers.{le}
use Rattle.words.specs.Claims.Exactly.{Exactly, NonZero}
use Rattle.words.proofs.Choice.{and_left, and_right}
use Rattle.words.proofs.Exactly.{equal, at_most, both}
use Rattle.records.specs.Records.{kind_of, size_of, records, whole, size_limit}
use Rattle.records.specs.Choosing.{chosen_by}
use Rattle.records.proofs.Steps.{formed_good}
use Rattle.records.proofs.Whole.{records_none, whole_size}
use Rattle.records.proofs.Joining.{records_join, one_record_lem, one_good}
use Rattle.records.proofs.Choosing.{chosen_none, chosen_join}
use Rattle.inventory.specs.Inventory.{code_limit, flag_of, type_of, index_of, code_of, all_non_zero, good_head, good_code, good_record, well_formed}
use Rattle.inventory.specs.Listing.{entry_of, matches, listed}
use Rattle.inventory.specs.Claims.Records.{adds, InventoryRecordExactly, ListedExactly}

-- ---- a good record

-- no byte is zero, by the test and by each byte
tested : (s : List ℕ) → all_non_zero s ≡ true → NonZero s
unfolding all_non_zero
tested [] e i h z = omega arith
tested (b ∷ bs) e zero h z = eqb-false b 0 (not-true (eqb b 0) (and_left (not (eqb b 0)) _ e)) z
tested (b ∷ bs) e (suc i) h z = tested bs (and_right (not (eqb b 0)) _ e) i (omega arith) z

each_tested : (s : List ℕ) → NonZero s → all_non_zero s ≡ true
unfolding all_non_zero
each_tested [] h = refl
each_tested (b ∷ bs) h = rw (ne_eqb b 0 (h 0 (omega arith))) (each_tested bs (λ i l. h (suc i) (omega arith)))

no_zero : (s : List ℕ) → Exactly (all_non_zero s ≡ true) (NonZero s)
no_zero s = (tested s, each_tested s)

pub inventory_record_exactly : InventoryRecordExactly
unfolding good_record good_head good_code flag_of kind_of code_of code_limit
inventory_record_exactly r w =
    let size = (whole_size r w).1 in
    let code = length-drop 14 r in
    let head = both (at_most 15 (size_of r)) (both (at_most (size_of r) 1037) (both (equal (le 2 r 2) 16) (at_most (le 2 r 4) 1))) in
    let tests = both head (both (at_most 1 (length (drop 14 r))) (both (at_most (length (drop 14 r)) 1023) (no_zero (drop 14 r)))) in (
      λ e. let t = tests.0 e in record { kind = t.0.1.1.0; flag = t.0.1.1.1; some = t.1.0; few = t.1.1.0; non_zero = t.1.1.1 },
      λ g. tests.1 ((omega (arith, g.some), (omega (arith, g.some, g.few), (g.kind, g.flag))), (g.some, (g.few, g.non_zero))),
    )

-- ---- the list of a flag and type

-- a whole record in front of others
front : (flag type : ℕ) (r rest : List ℕ) → whole r ≡ true → listed flag type (r ++ rest) ≡ adds flag type r ++ listed flag type rest
unfolding listed chosen_by matches flag_of type_of index_of code_of
front flag type r rest w =
    let any : List ℕ → Bool = λ _. true in
    rw (records_join any r rest (one_good r any (rw w)), one_record_lem r w) (chosen_join (matches flag type) entry_of (r ∷ []) (records rest))

pub listed_exactly : ListedExactly
unfolding listed well_formed
listed_exactly =
    record {
      empty = λ flag type. rw records_none (chosen_none (matches flag type) entry_of);
      each = front;
      end_to_end = λ flag type a b w. rw (records_join good_record a b (formed_good size_limit good_record a w)) (chosen_join (matches flag type) entry_of _ _);
    }
