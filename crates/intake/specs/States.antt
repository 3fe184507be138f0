-- Which states of an intake are taken at the C boundary (document 02, M-109): those that a start and bursts can leave.
use Rattle.std.specs.Prelude.{ℕ, Bool, false, not, ◌&&◌, List, leb, eqb, length, take, Option, Some, None}
use Rattle.records.specs.Cutting.{ripe}
use Rattle.tallies.specs.declared.keeping.Refusal.{Refusal}
use Rattle.tallies.specs.declared.keeping.Refusal.TheVariants.{Malformed, NoRoom, Unfit}
use Rattle.tallies.specs.Keeping.{fits}
use Rattle.intake.specs.declared.bursts.Intake.{Intake}
use Rattle.intake.specs.Taking.{good_front}

-- without a fault the held bytes are an unfinished record, or none: not too many, no whole one, and no front that is refused; with one none is held.
-- Unfit is no fault of a stream.
abbrev pub rests_at : Option Refusal → ℕ → List ℕ → Bool
rests_at None held store = leb held (length store) && not (ripe good_front (take held store))
rests_at (Some Malformed) held store = eqb held 0
rests_at (Some NoRoom) held store = eqb held 0
rests_at (Some Unfit) held store = false

-- numbers count from 1, and the use and the tallies fit a journal's buffer of this size
unfoldable pub ready_for : List ℕ → ℕ → Intake → Bool
ready_for store size i = leb 1 i.place.number && (fits size i.place.journal && rests_at i.place.fault i.held store)
