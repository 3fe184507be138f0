-- update-properties on partition memory (document 02, M-103).
use Rattle.std.specs.Prelude.{ℕ, Bool, true, false, Result, Ok, Err, cond, ◌&&◌, List}
use Rattle.journal.specs.Scope.{valid}
use Rattle.properties.specs.declared.following.Refusal.{Refusal}
use Rattle.properties.specs.declared.following.Refusal.TheVariants as refusal
use Rattle.properties.specs.Answer.{outcome_of, area_after}
use Rattle.calls.specs.declared.status.Status.{Status}
use Rattle.calls.specs.declared.status.Status.TheVariants.{Done, Again, Malformed, Parameter}
use Rattle.calls.specs.UpdateNodes.{area_at, with_area, placed}

-- the journal (-1), then what the area carries (-3); status 1 while something is due
abbrev pub status_for : Result Bool Refusal → Status
status_for (Err refusal.Malformed) = Malformed
status_for (Err refusal.Carried) = Parameter
status_for (Ok false) = Done
status_for (Ok true) = Again

-- 02: "after update-nodes' checks of address, scope (if 001 has one) and journal, -3 for a phandle that no kind 5 or 6 record carries, non-zero reserved bytes
-- or a state that this node's session never carries"
unfoldable pub properties_status : List ℕ → ℕ → ℕ → List ℕ → Status
properties_status m address scope j =
    cond (placed m address)
    (cond (valid scope)
    (status_for (outcome_of (area_at m address) j))
    Parameter)
    Parameter

unfoldable pub properties_memory : List ℕ → ℕ → ℕ → List ℕ → List ℕ
properties_memory m address scope j = cond (placed m address && valid scope) (with_area m address (area_after (area_at m address) j)) m
