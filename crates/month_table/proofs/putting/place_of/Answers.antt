-- `putting::place_of` meets its contract.
use borrow.Author.Tests.{lt-ltb, le-ltb, eq-eqb, ne_eqb}
use Rattle.month_table.specs.Table.{place}
use Prim.Native.Nat.{◌%◌}
use Rattle.month_table.proofs.putting.place_of.Goals as goal

pub returns-then-p-ge32 : goal.returns-then-p-ge32
unfolding place
returns-then-p-ge32 c =
    rw (le-ltb c.args.p 32 c.if-p-ge32.true)

pub returns-then-p-eq7 : goal.returns-then-p-eq7
unfolding place
returns-then-p-eq7 c =
    rw (lt-ltb c.args.p 32 c.if-p-ge32.false, eq-eqb (c.args.p % 8) 7 c.if-p-eq7.true)

pub returns : goal.returns
unfolding place
returns c =
    rw (lt-ltb c.args.p 32 c.if-p-ge32.false, ne_eqb (c.args.p % 8) 7 c.if-p-eq7.false)
