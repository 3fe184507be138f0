-- No other cutting of the reportable list comes to its end in fewer areas than a session (document 02, M-113), cited by the contract of `call`.
use Rattle.std.specs.Prelude.{ℕ, ◌+◌, ◌*◌, ◌≤◌, ◌<◌, ◌≡◌, true, List, [], ◌∷◌, ◌++◌, length, replicate}
use Rattle.words.specs.Numbers.{Bytes}
use Rattle.journal.specs.declared.operation.Operation.{Operation}
use Rattle.journal.specs.declared.operation.Operation.TheVariants.{Delete}
use Rattle.journal.specs.Journal.{well_formed}
use Rattle.journal.specs.Scope.{valid, selection_of}
use Rattle.journal.specs.Reportable.{reportable}
use Rattle.nodes.specs.Run.{cost}
use Rattle.calls.specs.Buffer.{Found}
use Rattle.calls.specs.Claims.NodeSession.{standing, Session}

-- 02: "cutting of the reportable list, in the same order and with a terminator in each area"
-- An area of 4,096 bytes holds a run behind its head of sixteen bytes and before a terminator of four.
abbrev pub Holds : List Operation → Type 0
Holds run = 16 + 4 * cost run + 4 ≤ 4096

abbrev pub AllHeld : List (List Operation) → Type 0
AllHeld [] = Unit {0}
AllHeld (run ∷ runs) = Holds run × AllHeld runs

unfoldable pub joined_runs : List (List Operation) → List Operation
joined_runs [] = []
joined_runs (run ∷ runs) = run ++ joined_runs runs

-- Runs that are the list when they are joined, each of which an area holds.
pub record Cutting (os : List Operation) (runs : List (List Operation)) : Type 0 where
  pub joined : joined_runs runs ≡ os
  pub held : AllHeld runs

-- the number of its areas; 02: "An empty list counts as one area."
unfoldable pub areas_of : List (List Operation) → ℕ
areas_of [] = 1
areas_of (run ∷ runs) = length (run ∷ runs)

-- 02: "no other cutting of the reportable list .. reaches the end in fewer areas than our sessions do", "Scope 3 is included, for one unit."
abbrev pub FewestAreas : Type 0
FewestAreas =
    (j : List ℕ) (scope unit : ℕ) → Bytes j → unit < 0x1_0000_0000_0000_0000 → well_formed j ≡ true → valid scope ≡ true → (cs : List Found)
    → Session j scope unit cs
    → (standing scope unit cs).done ≡ true → (runs : List (List Operation)) → Cutting (reportable (selection_of scope unit) j) runs
    → length (standing scope unit cs).areas ≤ areas_of runs

-- ---- a cutting whose first run is not the longest may take more areas

abbrev pub deletes : ℕ → List Operation
deletes n = replicate n (Delete 42)

-- 2,036 deletes fill two areas. With a first run of 1,017 or fewer no two areas hold them, and three do.
pub record FewestWitness : Type 0 where
  pub none : areas_of [] ≡ 1
  pub two : areas_of (deletes 1018 ∷ deletes 1018 ∷ []) ≡ 2
  pub two_areas : Cutting (deletes 2036) (deletes 1018 ∷ deletes 1018 ∷ [])
  pub three_areas : Cutting (deletes 2036) (deletes 1017 ∷ deletes 1018 ∷ deletes 1 ∷ [])
  pub no_two : (first second : List Operation) → length first ≤ 1017 → Cutting (deletes 2036) (first ∷ second ∷ []) → ⊥
