-- The entries of a flag and type, one record after the other.
use mathlib.Core.Path.{◌≡◌, refl, sym, ap, ◌∙◌}
use mathlib.Core.Bool.{Bool, true, false}
use mathlib.Core.List.{List}
use Prim.Native.Nat.{ℕ, ◌+◌, ◌-◌, ◌<◌, ◌≤◌}
use Rattle.std.specs.Prelude.{Some}
use Rattle.std.specs.Int.{from_bool}
use native.Mathlib.Omega.{arith}
use lib.ListN.{length, drop}
use Rattle.records.specs.Records.{first_record, records, all_good, size_limit}
use Rattle.records.specs.Inner.Terms.{Before}
use Rattle.records.proofs.Choosing.{one_if_lem, one_if_le, each_record, before_step, before_all}
use Rattle.records.proofs.Steps.{good_step, bad_step, none_good, formed, not_formed, oversized}
use Rattle.inventory.specs.Inventory.{good_record, well_formed}
use Rattle.inventory.specs.Listing.{entry_of, matches, listed}
use Rattle.inventory.specs.Inner.Scanning.{ResumesAt, ScanFinds}
use Rattle.inventory.proofs.RecordLaws.{good_here, Stands}

-- a test as a number, as the code has it
pub test_number : (b : Bool) → from_bool b ≡ one_if_lem b
test_number true = refl
test_number false = refl

pub too_large : (inventory : List ℕ) → size_limit < length inventory → well_formed inventory ≡ false
unfolding well_formed
too_large inventory h = oversized size_limit good_record inventory h

-- a place that the entries were counted to
module _ {flag type passed at : ℕ} {inventory : List ℕ} (f : ResumesAt flag type inventory passed at) where
  before : Before (matches flag type) entry_of records inventory at passed
  unfolding listed
  before = record { number = f.number; rest = f.rest }

  -- past a good record
  from_step : (size : ℕ) → at < length inventory → Stands inventory at size → ResumesAt flag type inventory (passed + one_if_lem (matches flag type (first_record (drop at inventory)))) (at + size)
  unfolding listed
  from_step size h g =
      let p : Before (matches flag type) entry_of records inventory (at + size) (passed + one_if_lem (matches flag type (first_record (drop at inventory)))) =
      rw g.size_is (before_step (matches flag type) entry_of each_record inventory at passed before h) in
      record {
        inside = g.fits;
        sound = f.sound ∙ good_step good_record inventory at h g.good ∙ ap (λ (k : ℕ). all_good good_record (records (drop (at + k) inventory))) (sym g.size_is);
        number = p.number;
        rest = p.rest;
      }

  -- at a bad one
  pub from_bad : at < length inventory → good_here inventory at ≡ false → well_formed inventory ≡ false
  unfolding well_formed
  from_bad h e = not_formed size_limit good_record inventory (f.sound ∙ bad_step good_record inventory at h e)

  -- at the end
  end_good : length inventory ≤ size_limit → length inventory ≤ at → well_formed inventory ≡ true
  unfolding well_formed
  end_good l h = formed size_limit good_record inventory l (f.sound ∙ none_good good_record inventory at h)

  end_count : length inventory ≤ at → passed ≡ length (listed flag type inventory)
  unfolding listed
  end_count h = before_all (matches flag type) entry_of each_record inventory at passed before h

-- A scan has come to a place: the entries before it are counted, and if the entry due is among them, a place is noted from which on the list holds the entries from that one on.
pub record Scanned (flag type number : ℕ) (inventory : List ℕ) (at count due : ℕ) : Type 0 where
  pub passed : ResumesAt flag type inventory count at
  pub few : count ≤ at
  pub found : 1 ≤ number → number ≤ count → ResumesAt flag type inventory (number - 1) due

pub scanned_start : (flag type number : ℕ) (inventory : List ℕ) → Scanned flag type number inventory 0 0 0
unfolding listed
scanned_start flag type number inventory =
    record { passed = record { inside = omega arith; sound = refl; number = omega arith; rest = refl }; few = omega arith; found = λ l h. absurd (omega arith) }

module _ {flag type number at count due : ℕ} {inventory : List ℕ} (t : Scanned flag type number inventory at count due) where
  -- the next entry is the one due
  pub found_here : count + 1 ≡ number → ResumesAt flag type inventory (number - 1) at
  found_here e = let q : number - 1 ≡ count = omega arith in rw q t.passed

  -- it is another
  pub found_before : (one : ℕ) → one ≤ 1 → (count + 1 ≡ number → ⊥) → 1 ≤ number → number ≤ count + one → ResumesAt flag type inventory (number - 1) due
  found_before one h n a b = t.found a (omega arith)

  -- past a good record
  pub scanned_step : (size one next : ℕ) → at < length inventory → Stands inventory at size → one ≡ one_if_lem (matches flag type (first_record (drop at inventory)))
      → (1 ≤ number → number ≤ count + one → ResumesAt flag type inventory (number - 1) next) → Scanned flag type number inventory (at + size) (count + one) next
  scanned_step size one next h g e next-is =
      record {
        passed = rw e (from_step t.passed size h g);
        few = omega (arith, t.few, g.large, e, one_if_le (matches flag type (first_record (drop at inventory))));
        found = next-is;
      }

  -- at the end
  pub scanned_end : length inventory ≤ size_limit → length inventory ≤ at → ScanFinds flag type number inventory (Some (record { count = count; due = due }))
  scanned_end l h = (end_good t.passed l h, end_count t.passed h, t.found)
