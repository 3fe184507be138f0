-- `reading::Cursor::next` meets its contract.
use Rattle.std.proofs.Common.{◌≤◌, ◌-◌, length, arith}
use borrow.Author.Tests.{eq-eqb}
use Rattle.indices.specs.Cursor.{next_of}
use Rattle.indices.proofs.IndexLaws.{next_short, next_found, steps_give}
use Rattle.indices.proofs.reading.Cursor.next.Goals as goal

pub returns-then-self-eq0 : goal.returns-then-self-eq0
unfolding next_of
returns-then-self-eq0 c =
    record { value = rw (eq-eqb _ 0 c.if-self-eq0.true); steps = steps_give }

pub returns-then-rest-lt8 : goal.returns-then-rest-lt8
returns-then-rest-lt8 c =
    record { value = next_short _ _ (omega arith); steps = steps_give }

pub returns : goal.returns
returns c =
    let room : 8 ≤ length c.args.area.now - c.args.self.at = omega arith in
    record { value = rw c.read_be32.ensures (next_found c.args.area.now c.args.self _ _ _ c.if-self-eq0.false room c.read_be32-n.ensures (rw c.saturating_sub-rest.ensures at c.min.ensures) c.until_nul.ensures); steps = steps_give }
