-- What is claimed of the definitions of `Flat`.
use Rattle.std.specs.Prelude.{ℕ, ◌≡◌, true, false, List, Some, None}
use Rattle.journal.specs.declared.counts.Counts.{Counts}
use Rattle.tallies.specs.declared.keeping.Tallied.{Tallied}
use Rattle.tallies.specs.declared.keeping.Refusal.TheVariants.{Malformed, NoRoom, Unfit}
use Rattle.tallies.specs.Keeping.{Left}
use Rattle.draugsten_tallies.specs.declared.flat.FlatCounts.{FlatCounts}
use Rattle.draugsten_tallies.specs.declared.flat.FlatTallied.{FlatTallied}
use Rattle.draugsten_tallies.specs.Flat.{flat_tallies, tallies_from, flat_tallied, tallied_from, good_number, FlatLeft, flat_leaves, flat_left}

-- each count crosses under its own name, each row as itself
pub record CountsCross (c : Counts) (f : FlatCounts) : Type 0 where
  pub deletes : f.deletes ≡ c.deletes
  pub updates : f.updates ≡ c.updates
  pub additions : f.additions ≡ c.additions

pub record TalliedCross (t : Tallied) (f : FlatTallied) : Type 0 where
  pub used : f.used ≡ t.used
  pub negative : CountsCross t.tallies.negative f.tallies.negative
  pub first : CountsCross t.tallies.first f.tallies.first
  pub second : CountsCross t.tallies.second f.tallies.second
  pub third : CountsCross t.tallies.third f.tallies.third

abbrev pub EachCrosses : Type 0
EachCrosses = (t : Tallied) → TalliedCross t (flat_tallied t)

-- what an operation leaves, in the header's numbers
pub record LeftCrosses (x : Left) (f : FlatLeft) : Type 0 where
  pub done : x.outcome ≡ None → f.number ≡ 0
  pub malformed : x.outcome ≡ Some Malformed → f.number ≡ 50
  pub no_room : x.outcome ≡ Some NoRoom → f.number ≡ 51
  pub unfit : x.outcome ≡ Some Unfit → f.number ≡ 52
  pub buffer : f.buffer ≡ x.buffer
  pub journal : TalliedCross x.next f.journal

abbrev pub EachLeftCrosses : Type 0
EachLeftCrosses = (x : Left) → LeftCrosses x (flat_left x)

-- a recount: 0 where the journal is well formed, and 50
abbrev pub RecountNumbers : Type 0
RecountNumbers = (good_number true ≡ 0) × (good_number false ≡ 50)

-- Use and tallies cross as they are, and back: every value is taken as it stands, and those of no journal are refused by the operation.
abbrev pub Crosses : Type 0
Crosses = (f : FlatTallied) → flat_tallied (tallied_from f) ≡ f

-- by themselves as beside a use; and what an answer's numbers stand for
pub record PartsCross : Type 0 where
  pub out : (t : Tallied) → flat_tallies t.tallies ≡ (flat_tallied t).tallies
  pub back : (f : FlatTallied) → tallies_from f.tallies ≡ (tallied_from f).tallies
  pub answer : (number : ℕ) (buffer : List ℕ) (journal : FlatTallied)
      → flat_leaves number buffer journal ≡ record { number = number; buffer = buffer; journal = journal }

pub record CrossingClaims : Type 0 where
  pub parts_cross : PartsCross
  pub crosses : Crosses
  pub each_crosses : EachCrosses
  pub each_left_crosses : EachLeftCrosses
  pub recount_numbers : RecountNumbers
