-- What is claimed of a run at the C boundary, and of runs and calls together, cited by the contract of `draugsten_run_dump` (document 02, M-104).
use Rattle.std.specs.Prelude.{ℕ, ◌≤◌, ◌<◌, ◌≡◌, true, List, [], ◌⊎◌, take, Ok, Err}
use Rattle.words.specs.Claims.Exactly.{Exactly}
use Rattle.words.specs.Numbers.{Bytes, be32}
use Rattle.dump.specs.declared.registration.Phase.TheVariants.{Unregistered}
use Rattle.dump.specs.declared.registration.Registration.{Registration}
use Rattle.dump.specs.declared.registration.Refusal.TheVariants.{DumpActive}
use Rattle.dump.specs.Structure.{good_structure}
use Rattle.calls.specs.Buffer.{Found, Left, call_of}
use Rattle.calls.specs.Claims.Terms.{minus, Asks, HasStatus, status_of}
use Rattle.calls.specs.Claims.ExactDump.{Holds}
use Rattle.crossing.specs.declared.registration.FlatRegistration.{FlatRegistration}
use Rattle.dumping.specs.Running.{run_of}
use Rattle.dumping.specs.Claims.Run.{Ran}
use Rattle.draugsten_dump.specs.Running.{FlatLeft, flat_leaves, flat_run_of}

-- ---- a run over the C boundary, in the header's numbers

pub record FlatExactly (platform memory : List ℕ) (f : FlatRegistration) (x : FlatLeft) : Type 0 where
  pub no_registration_claim : Exactly (x.number ≡ 13) ((2 < f.phase) ⊎ (512 < f.length))
  pub otherwise : (x.number ≡ 13 → ⊥) → x.number ≡ 0
  -- "Refusals: -10 when active, -3 when nothing is registered or the copy isn't a good structure."
  pub active : x.number ≡ 0 → Exactly (x.status ≡ minus 10) (f.phase ≡ 2)
  pub done : x.number ≡ 0 → Exactly (x.status ≡ 0) ((f.phase ≡ 1) × (good_structure (take f.length f.copy) ≡ true))
  pub parameter : (x.status ≡ minus 10 → ⊥) → (x.status ≡ 0 → ⊥) → x.status ≡ minus 3
  -- 13 says it alone: beside it stands -3
  pub status_of_13 : x.number ≡ 13 → x.status ≡ minus 3
  -- refused, also with 13: nothing changes
  pub refused : (x.status ≡ 0 → ⊥) → (x.memory ≡ memory) × (x.registration ≡ f)
  -- "and the registration becomes active"
  pub becomes_active : x.status ≡ 0 → (x.registration.phase ≡ 2) × (x.registration.length ≡ f.length)
  -- the sections, memory and the copy: as of a run below the boundary
  pub ran : x.status ≡ 0 → Bytes f.copy → Ran platform memory x.memory f.copy x.registration.copy

abbrev pub EachFlatRun : Type 0
EachFlatRun = (platform memory : List ℕ) (f : FlatRegistration) → FlatExactly platform memory f (flat_run_of platform memory f)

-- What a run hands back is taken again, by a run and by a call.
abbrev pub RunHandedOn : Type 0
RunHandedOn =
    (platform memory : List ℕ) (f : FlatRegistration) → ((flat_run_of platform memory f).number ≡ 13 → ⊥)
    → ((flat_run_of platform memory f).registration.phase ≤ 2) × ((flat_run_of platform memory f).registration.length ≤ 512)

-- ---- runs and calls together

-- configure-kernel-dump over the registration that a run left
pub record CallAfterRun (f : Found) (x : Left) : Type 0 where
  -- command 3 completes the dump
  pub completes : be32 f.args 12 ≡ 3 → (status_of f.args x ≡ 0) × Holds x.registration Unregistered []
  -- commands 1 and 2 give -10
  pub still_active : (be32 f.args 12 ≡ 1) ⊎ (be32 f.args 12 ≡ 2) → (status_of f.args x ≡ minus 10) × (x.registration ≡ f.registration)

abbrev pub RunThenCall : Type 0
RunThenCall =
    (platform memory : List ℕ) (r : Registration) → (run_of platform memory r).verdict ≡ Ok tt
    → (f : Found) → f.registration ≡ (run_of platform memory r).next → Asks 3 3 1 f.args → HasStatus (call_of f) → CallAfterRun f (call_of f)

-- What command 1 registered can be run.
abbrev pub CallThenRun : Type 0
CallThenRun =
    (f : Found) → Asks 3 3 1 f.args → HasStatus (call_of f) → be32 f.args 12 ≡ 1 → status_of f.args (call_of f) ≡ 0
    → (platform memory : List ℕ) → (run_of platform memory (call_of f).registration).verdict ≡ Ok tt

-- A dump is run once: until it is completed a second run gives -10.
abbrev pub RunOnce : Type 0
RunOnce =
    (platform memory : List ℕ) (r : Registration) → (run_of platform memory r).verdict ≡ Ok tt
    → (p m : List ℕ) → (run_of p m (run_of platform memory r).next).verdict ≡ Err DumpActive

-- what an answer's numbers stand for
abbrev pub AnswerCrosses : Type 0
AnswerCrosses = (number status : ℕ) (memory : List ℕ) (registration : FlatRegistration)
    → flat_leaves number status memory registration ≡ record { number = number; status = status; memory = memory; registration = registration }

pub record BoundaryClaims : Type 0 where
  pub answer_crosses : AnswerCrosses
  pub each_flat_run : EachFlatRun
  pub run_handed_on : RunHandedOn
  pub run_then_call : RunThenCall
  pub call_then_run : CallThenRun
  pub run_once : RunOnce
