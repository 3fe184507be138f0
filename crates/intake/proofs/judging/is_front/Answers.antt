-- `judging::is_front` meets its contract.
use mathlib.Core.Path.{◌∙◌}
use native.Mathlib.Omega.{arith}
use borrow.Author.Tests.{ne_eqb}
use Rattle.intake.proofs.Fronts.{front_zero, front_node, front_short, front_changed, front_gone, front_above}
use Rattle.intake.proofs.judging.is_front.Goals as goal

pub returns-then-kind-lt1 : goal.returns-then-kind-lt1
returns-then-kind-lt1 c =
    front_zero _ _ c.if-kind-lt1.true

pub returns-then-kind-lt5 : goal.returns-then-kind-lt5
returns-then-kind-lt5 c =
    front_node _ _ c.if-kind-lt1.false c.if-kind-lt5.true _ c.node_length.ensures

pub returns-then-length-lt8 : goal.returns-then-length-lt8
returns-then-length-lt8 c =
    front_short _ _ c.if-kind-lt5.false c.if-length-lt8.true

pub returns-then-kind-eq5 : goal.returns-then-kind-eq5
returns-then-kind-eq5 c =
    front_changed _ _ c.if-kind-lt5.false c.if-kind-eq5.true c.if-length-lt8.false

pub returns-then-kind-eq6 : goal.returns-then-kind-eq6
returns-then-kind-eq6 c =
    front_gone _ _ c.if-kind-lt5.false c.if-kind-eq6.true c.if-length-lt8.false

pub returns-else-kind-eq6 : goal.returns-else-kind-eq6
returns-else-kind-eq6 c =
    ne_eqb _ 6 c.if-kind-eq6.false ∙ front_above _ _ c.if-kind-lt5.false (omega (arith, c.if-kind-eq5.false, c.if-kind-eq6.false))
