-- Terms of contracts inside the crate.
use Rattle.std.specs.Prelude.{ℕ, Option, Some, None, Result, Ok, Err, ⊤}
use Rattle.tallies.specs.declared.keeping.Refusal.{Refusal}
use Rattle.intake.specs.declared.taking.Place.{Place}
use Rattle.draugsten_tallies.specs.declared.intakes.Unready.{Unready}
use Rattle.draugsten_tallies.specs.declared.intakes.Unready.TheVariants.{Small, Unfit}

-- ---- a burst

-- the number of the record at fault: a term of a private function, which no promise cites
abbrev pub record_by : Option Refusal → ℕ → ℕ
record_by None number = 0
record_by (Some r) number = number

abbrev pub record_for : Place → ℕ
record_for p = record_by p.fault p.number

-- ---- a state that is refused

abbrev pub unready_number : Unready → ℕ
unready_number Small = 55
unready_number Unfit = 54

-- 0 for one that is taken
abbrev pub ready_number : Result ⊤ Unready → ℕ
ready_number (Ok _) = 0
ready_number (Err unready) = unready_number unready
