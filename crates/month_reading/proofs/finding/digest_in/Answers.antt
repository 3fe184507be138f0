use mathlib.Core.Path.{refl}
use Prim.Native.Nat.{◌*◌, ◌+◌}
use native.Mathlib.Omega.{arith}
use lib.ListN.{get_or}
use Rattle.month_reading.proofs.Digests.{digit_small, made_byte, made_all}
use Rattle.month_reading.proofs.finding.digest_in.Goals as goal

pub loop-i-init : goal.loop-i-init
loop-i-init c =
    record { inside = omega arith; long = refl; front = refl }

pub join-requires : goal.join-requires
join-requires c =
    let i = c.loop-i.i in
    let t = c.args.text.now in (
      rw c.hex_value.ensures (digit_small (get_or t (8 + 2 * i) 0) (omega arith)),
      rw c.hex_value-in-loop-i.ensures (digit_small (get_or t (8 + 2 * i + 1) 0) (omega arith)),
    )

pub loop-i-preserved : goal.loop-i-preserved
loop-i-preserved c =
    made_byte c.loop-i.invariant _ _ refl c.loop-i-test.true (rw (c.hex_value.ensures, c.hex_value-in-loop-i.ensures) at c.join.ensures)

pub returns : goal.returns
returns c =
    made_all c.loop-i.invariant (omega arith)
