-- `share::share_of` meets its contract.
use Prim.Native.Nat.{◌<◌}
use native.Mathlib.Omega.{arith}
use borrow.Author.Tests.{ne_eqb}
use Rattle.shares.specs.Share.{share_of}
use Rattle.shares.proofs.Euclid.{divisor_some, share_claims}
use Rattle.shares.proofs.share.share_of.Goals as goal

pub returns-then-available-eq0 : goal.returns-then-available-eq0
unfolding share_of
returns-then-available-eq0 c =
    record { value = rw c.if-available-eq0.true; claims = share_claims }

pub nonzero_div-result : goal.nonzero_div-result
nonzero_div-result c =
    let some : 0 < c.divisor_of-by.result =
    rw c.divisor_of-by.ensures (divisor_some _ _ (omega arith)) in
    some

pub nonzero_div-result-2 : goal.nonzero_div-result-2
nonzero_div-result-2 c =
    let some : 0 < c.divisor_of-by.result =
    rw c.divisor_of-by.ensures (divisor_some _ _ (omega arith)) in
    some

pub returns : goal.returns
unfolding share_of
returns c =
    record { value = rw (c.divisor_of-by.ensures, ne_eqb _ 0 c.if-available-eq0.false); claims = share_claims }
