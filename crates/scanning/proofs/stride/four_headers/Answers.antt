-- `stride::four_headers` meets its contract.
use Rattle.std.proofs.Common.{eq-eqb, ne_eqb}
use Rattle.scanning.proofs.stride.four_headers.Goals as goal

pub returns-then-c-header : goal.returns-then-c-header
returns-then-c-header c =
    rw (← c.header_at-a.ensures, ← c.header_at-b.ensures, ← c.header_at-c.ensures, ← c.header_at-d.ensures, eq-eqb _ _ c.if-a-header.true, eq-eqb _ _ c.if-b-header.true, eq-eqb _ _ c.if-c-header.true)

pub returns-else-c-header : goal.returns-else-c-header
returns-else-c-header c =
    rw (← c.header_at-a.ensures, ← c.header_at-b.ensures, ← c.header_at-c.ensures, ← c.header_at-d.ensures, eq-eqb _ _ c.if-a-header.true, eq-eqb _ _ c.if-b-header.true, ne_eqb _ _ c.if-c-header.false)

pub returns-else-b-header : goal.returns-else-b-header
returns-else-b-header c =
    rw (← c.header_at-a.ensures, ← c.header_at-b.ensures, ← c.header_at-c.ensures, ← c.header_at-d.ensures, eq-eqb _ _ c.if-a-header.true, ne_eqb _ _ c.if-b-header.false)

pub returns-else-a-header : goal.returns-else-a-header
returns-else-a-header c =
    rw (← c.header_at-a.ensures, ← c.header_at-b.ensures, ← c.header_at-c.ensures, ← c.header_at-d.ensures, ne_eqb _ _ c.if-a-header.false)
