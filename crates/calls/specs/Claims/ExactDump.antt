-- Demand 2 of configure-kernel-dump: each status exactly when, and the registration afterwards (document 01, "Kernel dump registration").
use Rattle.std.specs.Prelude.{ℕ, ◌+◌, ◌-◌, ◌≤◌, ◌≡◌, true, List, [], ◌++◌, ◌⊎◌, length, replicate}
use Rattle.words.specs.Claims.Exactly.{Exactly}
use Rattle.dump.specs.declared.registration.Phase.{Phase}
use Rattle.dump.specs.declared.registration.Phase.TheVariants.{Unregistered, Registered, Active}
use Rattle.dump.specs.declared.registration.Registration.{Registration}
use Rattle.dump.specs.Structure.{good_structure}
use Rattle.calls.specs.Lent.{part_at}
use Rattle.calls.specs.Claims.Terms.{minus}

-- 01: "Command 1: length 40 to 512, inside memory, and a good structure, else -3."
pub record Acceptable (m : List ℕ) (address len : ℕ) : Type 0 where
  pub long : 40 ≤ len
  pub short : len ≤ 512
  pub inside : address + len ≤ length m
  pub good : good_structure (part_at m address len) ≡ true

-- A registration in a phase with a copy of these bytes; 01: "none holds an empty one, and space past a copy is zero".
pub record Holds (r : Registration) (phase : Phase) (copied : List ℕ) : Type 0 where
  pub in_phase : r.phase ≡ phase
  pub size : r.len ≡ length copied
  pub copy : r.copy ≡ copied ++ replicate (512 - length copied) 0

-- The call at its inputs: its status, and the registration before and after it.
pub record ExactDump (m : List ℕ) (command address len status : ℕ) (r after : Registration) : Type 0 where
  -- "active and command 1 or 2 (-10)"
  pub dump_active : Exactly (status ≡ minus 10) (((command ≡ 1) ⊎ (command ≡ 2)) × (r.phase ≡ Active))
  -- "registered and command 1 (-9)"
  pub already_registered : Exactly (status ≡ minus 9) ((command ≡ 1) × (r.phase ≡ Registered))
  -- command 1 with no registration and an acceptable structure, command 2 when registered, command 3 when active
  pub done : Exactly (status ≡ 0)
      (((command ≡ 1) × ((r.phase ≡ Unregistered) × Acceptable m address len))
      ⊎ (((command ≡ 2) × (r.phase ≡ Registered)) ⊎ ((command ≡ 3) × (r.phase ≡ Active))))
  pub otherwise : (status ≡ minus 10 → ⊥) → (status ≡ minus 9 → ⊥) → (status ≡ 0 → ⊥) → status ≡ minus 3
  -- "registered (with a copy of the structure)"
  pub registers : status ≡ 0 → command ≡ 1 → Holds after Registered (part_at m address len)
  -- "Commands 2 and 3 .. give none."
  pub ends : status ≡ 0 → (command ≡ 1 → ⊥) → Holds after Unregistered []
  -- "Active keeps the copy": without 0 the registration stays
  pub keeps : (status ≡ 0 → ⊥) → after ≡ r
