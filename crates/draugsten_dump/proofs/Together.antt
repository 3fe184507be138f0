-- Runs and calls together.
use mathlib.Core.Path.{◌≡◌, sym, ap, ◌∙◌}
use mathlib.Core.List.{List}
use mathlib.Core.Logic.{◌⊎◌, inr, ⊎_elim}
use Prim.Native.Nat.{ℕ, ◌≤◌, ◌-◌}
use native.Mathlib.Omega.{arith}
use lib.ListN.{length, take, drop, replicate, length-take}
use lib.Seq.{take_at}
use Rattle.words.specs.Numbers.{be32}
use Rattle.dump.specs.declared.registration.Phase.TheVariants.{Unregistered, Registered, Active}
use Rattle.dump.specs.declared.registration.Registration.{Registration}
use Rattle.std.specs.Prelude.{Ok}
use Rattle.dump.specs.Structure.{good_structure}
use Rattle.calls.specs.Buffer.{Found, call_of}
use Rattle.calls.specs.Claims.Terms.{Asks, HasStatus, status_of}
use Rattle.calls.specs.Lent.{part_at}
use Rattle.calls.specs.Claims.ExactDump.{Acceptable, Holds, ExactDump}
use Rattle.calls.proofs.Exact.{demand2}
use Rattle.dumping.specs.Running.{run_of}
use Rattle.dumping.proofs.RunClaims.{run_claims}
use Rattle.draugsten_dump.specs.Claims.Dump.{RunThenCall, CallThenRun, RunOnce}

-- what demand 2 says of configure-kernel-dump
exact_dump : (f : Found) → Asks 3 3 1 f.args → HasStatus (call_of f)
    → ExactDump f.memory (be32 f.args 12) (be32 f.args 16) (be32 f.args 20) (status_of f.args (call_of f)) f.registration (call_of f).registration
exact_dump f asks status = ((demand2.statuses f status).dump asks).0

pub run_then_call : RunThenCall
run_then_call platform memory r d f e asks status =
    let exact = exact_dump f asks status in
    let active : f.registration.phase ≡ Active = ap (λ (x : Registration). x.phase) e ∙ ((run_claims.each_verdict platform memory r).becomes_active d).0 in
    record {
      completes = λ c.
          let done = exact.done.1 (inr (inr (c, active))) in
          (done, exact.ends done (λ one. omega (arith, c, one)));
      still_active = λ c.
          let refused = exact.dump_active.1 (c, active) in
          (refused, exact.keeps (λ z. omega (arith, refused, z)));
    }

pub run_once : RunOnce
run_once platform memory r d p m = (run_claims.each_verdict p m (run_of platform memory r).next).active.1 ((run_claims.each_verdict platform memory r).becomes_active d).0

-- the copy of a structure begins with it
copied : (r : Registration) (s : List ℕ) → Holds r Registered s → take r.len r.copy ≡ s
copied r s h = ap (take r.len) h.copy ∙ take_at s (replicate (512 - length s) 0) r.len (sym h.size)

part_short : (m : List ℕ) (address len : ℕ) → length (part_at m address len) ≤ len
unfolding part_at
part_short m address len = omega (arith, length-take len (drop address m))

-- what command 1 copied is a good structure of at most 512 bytes
runs : (m : List ℕ) (address len : ℕ) (r : Registration) → Acceptable m address len → Holds r Registered (part_at m address len) → (platform memory : List ℕ) → (run_of platform memory r).verdict ≡ Ok tt
runs m address len r good holds platform memory =
    (run_claims.each_verdict platform memory r).done.1 (
      holds.in_phase,
      (omega (arith, holds.size, part_short m address len, good.short), ap good_structure (copied r (part_at m address len) holds) ∙ good.good),
    )

pub call_then_run : CallThenRun
call_then_run f asks status one done platform memory =
    let b = f.args in
    let exact = exact_dump f asks status in
    let registers = exact.registers done one in
    ⊎_elim
    (λ (h : (be32 b 12 ≡ 1) × ((f.registration.phase ≡ Unregistered) × Acceptable f.memory (be32 b 16) (be32 b 20))).
    runs f.memory (be32 b 16) (be32 b 20) (call_of f).registration h.1.1 registers platform memory)
    (λ (o : ((be32 b 12 ≡ 2) × (f.registration.phase ≡ Registered)) ⊎ ((be32 b 12 ≡ 3) × (f.registration.phase ≡ Active))).
    absurd (⊎_elim (λ (h : (be32 b 12 ≡ 2) × (f.registration.phase ≡ Registered)). omega (arith, one, h.0)) (λ (h : (be32 b 12 ≡ 3) × (f.registration.phase ≡ Active)). omega (arith, one, h.0)) o))
    (exact.done.0 done)
