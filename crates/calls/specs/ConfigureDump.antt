-- configure-kernel-dump (document 01, "Kernel dump registration").
use Rattle.std.specs.Prelude.{ℕ, List, Ok, Err}
use Rattle.dump.specs.declared.registration.Registration.{Registration}
use Rattle.dump.specs.declared.registration.Refusal.{Refusal}
use Rattle.dump.specs.declared.registration.Refusal.TheVariants as refusal
use Rattle.dump.specs.Registration.{Verdict, verdict_of}
use Rattle.calls.specs.declared.status.Status.{Status}
use Rattle.calls.specs.declared.status.Status.TheVariants as status

-- 01: "0 done, .., -3 parameter, -9 already registered, -10 dump active"
abbrev pub refusal_status : Refusal → Status
refusal_status refusal.Parameter = status.Parameter
refusal_status refusal.AlreadyRegistered = status.AlreadyRegistered
refusal_status refusal.DumpActive = status.DumpActive

abbrev pub verdict_status : Verdict → Status
verdict_status (Ok _) = status.Done
verdict_status (Err e) = refusal_status e

-- the status of a command, with an address and a length, over memory and a registration
unfoldable pub dump_status : List ℕ → ℕ → ℕ → ℕ → Registration → Status
dump_status m command address len r = verdict_status (verdict_of m command address len r.phase)
