-- What the checks of a work area come to, way by way through the code.
use mathlib.Core.Path.{◌≡◌, refl, ap}
use mathlib.Core.Bool.{Bool, true, false, cond, ◌||◌}
use mathlib.Core.List.{List, ◌++◌}
use Prim.Native.Nat.{ℕ, ◌+◌, ◌-◌, ◌%◌, ◌≤◌}
use native.Mathlib.Omega.{arith}
use lib.Dec.{ltb, eqb}
use lib.ListN.{length, take, drop}
use borrow.Author.Tests.{leb-true, le-leb, ltb-true, eqb-true, eq-eqb}
use Rattle.words.specs.Numbers.{be32}
use Rattle.journal.specs.declared.counts.Counts.{Counts}
use Rattle.std.specs.Prelude.{Option, Some, None}
use Rattle.journal.specs.Journal.{well_formed}
use Rattle.journal.specs.Scope.{valid, Selection}
use Rattle.journal.specs.Reportable.{reportable, counts_of, judgement_of}
use Rattle.node_area.specs.Head.{is_reserved}
use Rattle.nodes.specs.Run.{remains}
use Rattle.node_area.specs.State.{total}
use Rattle.nodes.specs.Area.{written}
use Rattle.nodes.proofs.Listed.{total-is}
use Rattle.calls.specs.declared.status.Status.{Status}
use Rattle.calls.specs.declared.status.Status.TheVariants as status
use Rattle.calls.specs.UpdateNodes.{area_at, with_area, placed, good_state, area_status, area_after, asks_for, nodes_status, nodes_memory}
use Rattle.words.proofs.Choice.{decide, and_left, and_right}
use Rattle.calls.proofs.Memory.{part_lent, part_back}

-- what a status and an area afterwards are to be
abbrev pub Left : ℕ → Selection → List ℕ → List ℕ → Status → List ℕ → Type 0
Left scope selection j area s after = (s ≡ area_status scope selection j area) × (after ≡ area_after scope selection j area)

module _ (scope : ℕ) (selection : Selection) (j area : List ℕ) where
  -- an answer, by whether anything remains behind it
  pub left_answered : well_formed j ≡ true → is_reserved scope area ≡ true → good_state selection j area ≡ true → (more : Bool) → remains (reportable selection j) (be32 area 0) ≡ more
      → Left scope selection j area (cond more status.Again status.Done) (written selection.units area (reportable selection j) (be32 area 0))
  unfolding area_status area_after
  left_answered w z e true f = rw (w, z, e, f) (refl, refl)
  left_answered w z e false f = rw (w, z, e, f) (refl, refl)

-- the code's test of the state
pub state-is : (selection : Selection) (j area : List ℕ) (state : ℕ) (c : Counts) → state ≡ be32 area 0 → c ≡ counts_of selection j → (eqb state 0 || ltb state (total c)) ≡ good_state selection j area
unfolding good_state
state-is selection j area state c e f = rw (e, f, total-is selection j)

-- a good state is no further than the end of the list
pub state_within : (selection : Selection) (j area : List ℕ) → good_state selection j area ≡ true → be32 area 0 ≤ length (reportable selection j)
unfolding good_state
state_within selection j area e = decide (eqb (be32 area 0) 0)
    (λ t. omega (arith, eqb-true (be32 area 0) 0 t)) (λ t. omega (arith, ltb-true (be32 area 0) (length (reportable selection j)) (rw t at e)))

pub scanned_malformed : (selection : Selection) (j : List ℕ) (g : Option Counts) → g ≡ None → g ≡ judgement_of selection j → well_formed j ≡ false
unfolding judgement_of
scanned_malformed selection j g e f = decide (well_formed j) (λ t. let q = rw t at f in cc) (λ t. t)

pub scanned_counted : (selection : Selection) (j : List ℕ) (g : Option Counts) (c : Counts) → g ≡ Some c → g ≡ judgement_of selection j → (well_formed j ≡ true) × (c ≡ counts_of selection j)
unfolding judgement_of
scanned_counted selection j g c e f = decide (well_formed j) (λ t. let q = rw t at f in (t, cc)) (λ t. let q = rw t at f in (cc, cc))

-- ---- the whole call

-- what a status and memory afterwards are to be
abbrev LeftAll : List ℕ → ℕ → ℕ → List ℕ → Status → List ℕ → Type 0
LeftAll m address scope j s after = (s ≡ nodes_status m address scope j) × (after ≡ nodes_memory m address scope j)

pub placed_inside : (m : List ℕ) (address : ℕ) → placed m address ≡ true → address + 4096 ≤ length m
unfolding placed
placed_inside m address e = leb-true (address + 4096) (length m) (and_right (eqb (address % 4096) 0) _ e)

pub placed_aligned : (m : List ℕ) (address : ℕ) → placed m address ≡ true → address % 4096 ≡ 0
unfolding placed
placed_aligned m address e = eqb-true _ _ (and_left _ _ e)

pub well_placed : (m : List ℕ) (address : ℕ) → address % 4096 ≡ 0 → address + 4096 ≤ length m → placed m address ≡ true
unfolding placed
well_placed m address e h = rw (eq-eqb _ _ e, le-leb _ _ h)

module _ (m : List ℕ) (address scope : ℕ) (j : List ℕ) where
  module _ (p : placed m address ≡ true) where
    -- past the checks of address and scope the area decides
    pub nodes_checked : valid scope ≡ true → nodes_status m address scope j ≡ area_status scope (asks_for scope (area_at m address)) j (area_at m address)
    unfolding nodes_status
    nodes_checked v = rw (p, v)

    -- the area is answered, and comes back as v into memory
    pub left_area : valid scope ≡ true → (s : Status) (v : List ℕ) → length v ≡ 4096 → Left scope (asks_for scope (take (address + 4096 - address) (drop address m))) j (take (address + 4096 - address) (drop address m)) s v
        → LeftAll m address scope j s (take address m ++ (v ++ drop (address + 4096 - address) (drop address m)))
    unfolding nodes_status nodes_memory
    left_area e s v n l =
        let inside = placed_inside m address p in
        let back = part_back m address 4096 inside v n in
        rw (p, e, back, ← part_lent m address 4096 inside) (l.0, ap (with_area m address) l.1)
