use Prim.Native.Nat.{◌≤◌}
use native.Mathlib.Omega.{arith}
use lib.ListN.{length}
use Rattle.printing.proofs.Puts.{ahead_first}
use Rattle.printing.specs.Text.{hex_byte}
use Rattle.printing.proofs.Bytes.{next_fits, next_put, all_put}
use Rattle.printing.proofs.put.Text.push_value.Goals as goal

pub loop-b-init : goal.loop-b-init
loop-b-init c =
    ahead_first _ _ c.requires

pub push_hex_byte-requires : goal.push_hex_byte-requires
push_hex_byte-requires c =
    next_fits hex_byte _ c.loop-b.invariant c.loop-b-test.true

pub loop-b-preserved : goal.loop-b-preserved
loop-b-preserved c =
    next_put hex_byte _ c.loop-b.invariant c.loop-b-test.true c.push_hex_byte.ensures

pub returns : goal.returns
returns c =
    let all : length c.args.value.now ≤ c.loop-b.b-index = omega arith in
    all_put hex_byte _ c.loop-b.invariant (all)
