-- The kernel dump registration, and what each command makes of it (document 01, "Kernel dump registration").
use Rattle.std.specs.Prelude.{ℕ, ◌+◌, ◌-◌, Bool, true, false, cond, ◌&&◌, ◌||◌, not, List, ◌++◌, leb, ltb, eqb, length, take, drop, replicate, Result, Ok, Err, is_ok}
use Rattle.dump.specs.declared.registration.Phase.{Phase}
use Rattle.dump.specs.declared.registration.Phase.TheVariants.{Unregistered, Registered, Active}
use Rattle.dump.specs.declared.registration.Registration.{Registration}
use Rattle.dump.specs.declared.registration.Configured.{Configured}
use Rattle.dump.specs.declared.registration.Refusal.{Refusal}
use Rattle.dump.specs.declared.registration.Refusal.TheVariants.{Parameter, AlreadyRegistered, DumpActive}
use Rattle.dump.specs.Structure.{header_size, good_structure}

abbrev pub is_none : Phase → Bool
is_none Unregistered = true
is_none Registered = false
is_none Active = false

abbrev pub is_registered : Phase → Bool
is_registered Unregistered = false
is_registered Registered = true
is_registered Active = false

abbrev pub is_active : Phase → Bool
is_active Unregistered = false
is_active Registered = false
is_active Active = true

-- what comes of a command or a run: it is done, or it is refused
abbrev pub Verdict : Type 0
Verdict = Result (Unit {0}) Refusal

-- the bytes of a copy
abbrev pub copy_size : ℕ
copy_size = 512

-- 01: "space past a copy is zero"
unfoldable pub padded : List ℕ → List ℕ
padded s = s ++ replicate (copy_size - length s) 0

-- 01: "none holds an empty one"
abbrev pub no_registration : Registration
no_registration = record { phase = Unregistered; len = 0; copy = replicate copy_size 0 }

-- 01: "registered (with a copy of the structure)"
abbrev pub registered : List ℕ → Registration
registered s = record { phase = Registered; len = length s; copy = padded s }

-- 01: "Command 1: length 40 to 512, inside memory, and a good structure, else -3."
abbrev pub structure_at : List ℕ → ℕ → ℕ → List ℕ
structure_at m address len = take len (drop address m)

unfoldable pub acceptable : List ℕ → ℕ → ℕ → Bool
acceptable m address len = leb header_size len && (leb len copy_size && (leb (address + len) (length m) && good_structure (structure_at m address len)))

-- 01: "Order: command 1 to 3 (-3); active and command 1 or 2 (-10); registered and command 1 (-9); command 2 when not registered, or 3 when
-- not active (-3)."
unfoldable pub verdict_of : List ℕ → ℕ → ℕ → ℕ → Phase → Verdict
verdict_of m command address len phase =
    cond (ltb command 1 || ltb 3 command) (Err Parameter)
    (cond (is_active phase && leb command 2) (Err DumpActive)
    (cond (is_registered phase && eqb command 1) (Err AlreadyRegistered)
    (cond (eqb command 2 && not (is_registered phase)) (Err Parameter)
    (cond (eqb command 3 && not (is_active phase)) (Err Parameter)
    (cond (eqb command 1 && not (acceptable m address len)) (Err Parameter)
    (Ok tt))))))

-- 01: "each command takes the registration and hands the new one back", "Commands 2 and 3 ignore address and length and give none."
unfoldable pub registration_after : List ℕ → ℕ → ℕ → ℕ → Registration → Registration
registration_after m command address len r =
    cond (is_ok (verdict_of m command address len r.phase))
    (cond (eqb command 1) (registered (structure_at m address len)) no_registration)
    r

abbrev pub configured : List ℕ → ℕ → ℕ → ℕ → Registration → Configured
configured m command address len r = record { next = registration_after m command address len r; verdict = verdict_of m command address len r.phase }
