-- update-nodes on partition memory (document 01, "Lent memory", "update-nodes").
use Rattle.std.specs.Prelude.{ℕ, ◌+◌, ◌%◌, Bool, cond, ◌&&◌, List, leb, eqb, length}
use Rattle.journal.specs.Journal.{well_formed}
use Rattle.journal.specs.Scope.{valid, selection_of, Selection}
use Rattle.journal.specs.Reportable.{reportable}
use Rattle.node_area.specs.Head.{area_size, state_in, unit_in, is_reserved}
use Rattle.nodes.specs.Run.{remains}
use Rattle.node_area.specs.State.{is_within}
use Rattle.nodes.specs.Area.{written}
use Rattle.calls.specs.declared.status.Status.{Status}
use Rattle.calls.specs.declared.status.Status.TheVariants.{Done, Again, Malformed, Parameter}
use Rattle.calls.specs.Status.{is_answer}
use Rattle.calls.specs.Lent.{part_at, with_part}

-- the work area at an address, and memory with another there
abbrev pub area_at : List ℕ → ℕ → List ℕ
area_at m address = part_at m address area_size

abbrev pub with_area : List ℕ → ℕ → List ℕ → List ℕ
with_area m address area = with_part m address area_size area

-- 01: "address a multiple of 4,096 and the area inside memory"
unfoldable pub placed : List ℕ → ℕ → Bool
placed m address = eqb (address % area_size) 0 && leb (address + area_size) (length m)

-- 01: "The state is 0, or above 0 and below the length of the reportable list."
unfoldable pub good_state : Selection → List ℕ → List ℕ → Bool
good_state selection j area = is_within (state_in area) (length (reportable selection j))

-- The checks of the area, after those of address and scope: journal (-1), reserved bytes (-3), state (-3).
unfoldable pub area_status : ℕ → Selection → List ℕ → List ℕ → Status
area_status scope selection j area =
    cond (well_formed j)
    (cond (is_reserved scope area)
    (cond (good_state selection j area)
    (cond (remains (reportable selection j) (state_in area)) Again Done)
    Parameter)
    Parameter)
    Malformed

unfoldable pub area_after : ℕ → Selection → List ℕ → List ℕ → List ℕ
area_after scope selection j area =
    cond (is_answer (area_status scope selection j area)) (written selection.units area (reportable selection j) (state_in area)) area

-- 02, M-100: what a call asks for, by its scope and, in scope 3, the unit that its area names
abbrev pub asks_for : ℕ → List ℕ → Selection
asks_for scope area = selection_of scope (unit_in area)

-- 01: "Checks in order: address .. (-3); scope (-3); journal (-1); bytes 4 to 15 of the area zero (-3); state (-3)."
-- 02, M-100: "in scope 3 only bytes 12 to 15 are tested for zero"
unfoldable pub nodes_status : List ℕ → ℕ → ℕ → List ℕ → Status
nodes_status m address scope j =
    cond (placed m address)
    (cond (valid scope)
    (area_status scope (asks_for scope (area_at m address)) j (area_at m address))
    Parameter)
    Parameter

unfoldable pub nodes_memory : List ℕ → ℕ → ℕ → List ℕ → List ℕ
nodes_memory m address scope j =
    cond (placed m address && valid scope) (with_area m address (area_after scope (asks_for scope (area_at m address)) j (area_at m address))) m
