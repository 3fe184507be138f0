-- `counts::place_of` meets its contract.
use mathlib.Core.Path.{refl}
use native.Mathlib.Omega.{arith}
use Prim.Native.Nat.{◌<◌}
use borrow.Author.Tests.{lt-leb, ne_eqb}
use Rattle.counting.specs.Counts.{place_of}
use Rattle.counting.proofs.counts.place_of.Goals as goal

pub returns-in-0 : goal.returns-in-0
unfolding place_of
returns-in-0 c =
    rw c.in-0.is (omega arith, refl)

pub returns-in-1 : goal.returns-in-1
unfolding place_of
returns-in-1 c =
    rw c.in-1.is (omega arith, refl)

pub returns-in-4294967295 : goal.returns-in-4294967295
unfolding place_of
returns-in-4294967295 c =
    rw c.in-4294967295.is (omega arith, refl)

pub returns-in-4294967293 : goal.returns-in-4294967293
unfolding place_of
returns-in-4294967293 c =
    rw c.in-4294967293.is (omega arith, refl)

pub returns-in-4294967292 : goal.returns-in-4294967292
unfolding place_of
returns-in-4294967292 c =
    rw c.in-4294967292.is (omega arith, refl)

pub returns-in-4294967287 : goal.returns-in-4294967287
unfolding place_of
returns-in-4294967287 c =
    rw c.in-4294967287.is (omega arith, refl)

pub returns-in-4294967286 : goal.returns-in-4294967286
unfolding place_of
returns-in-4294967286 c =
    rw c.in-4294967286.is (omega arith, refl)

pub returns-in_default : goal.returns-in_default
unfolding place_of
returns-in_default c =
    let above : 1 < c.args.status = omega arith in
    rw (lt-leb c.args.status 1 above, ne_eqb c.args.status 0xffff_ffff (λ e. omega (arith, e)), ne_eqb c.args.status 0xffff_fffd (λ e. omega (arith, e)))
    (rw (ne_eqb c.args.status 0xffff_fffc (λ e. omega (arith, e)), ne_eqb c.args.status 0xffff_fff7 (λ e. omega (arith, e)), ne_eqb c.args.status 0xffff_fff6 (λ e. omega (arith, e))) (λ h. omega (arith, h)))
