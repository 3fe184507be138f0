-- What a call of update-properties makes of its work area (document 02, M-103).
use Rattle.std.specs.Prelude.{ℕ, Bool, Result, Ok, Err, cond, ◌&&◌, List}
use Rattle.journal.specs.Journal.{well_formed}
use Rattle.property_area.specs.Head.{phandle_in, state_in, is_reserved}
use Rattle.property_area.specs.Area.{written}
use Rattle.properties.specs.declared.following.Refusal.{Refusal}
use Rattle.properties.specs.declared.following.Refusal.TheVariants.{Malformed, Carried}
use Rattle.properties.specs.Changes.{Change, changes, due_at, is_due, offset_or}
use Rattle.properties.specs.Filling.{area_room, Filled, fill}
use Rattle.properties.specs.Session.{states, member}

-- the changes of the node that an area names
abbrev pub changes_for : List ℕ → List ℕ → List Change
changes_for area j = changes (phandle_in area) j

-- 02: "-3 for a phandle that no kind 5 or 6 record carries, non-zero reserved bytes or a state that this node's session never carries"
unfoldable pub carries : List ℕ → List ℕ → Bool
carries area j = is_reserved area && (is_due (changes_for area j) && member (state_in area) (states (changes_for area j)))

-- what the call hands out from the state on, and what is due behind it
unfoldable pub handed : List ℕ → List ℕ → Filled
handed area j = fill area_room (due_at (state_in area) (changes_for area j))

-- the journal is looked at first (-1), then what the area carries (-3); where neither is refused, whether more is due after the call
unfoldable pub outcome_of : List ℕ → List ℕ → Result Bool Refusal
outcome_of area j =
    cond (well_formed j)
    (cond (carries area j)
    (Ok (is_due (handed area j).due))
    (Err Carried))
    (Err Malformed)

-- 02: "The state is the journal offset of the record due or of the value byte due, and 0 with status 0.", "later bytes stay"
unfoldable pub area_after : List ℕ → List ℕ → List ℕ
area_after area j = cond (well_formed j && carries area j) (written area (phandle_in area) (offset_or 0 (handed area j).due) (handed area j).pieces) area
