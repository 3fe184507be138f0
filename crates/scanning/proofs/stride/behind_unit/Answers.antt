-- `stride::behind_unit` meets its contract.
use Rattle.std.proofs.Common.{arith}
use Rattle.scanning.proofs.stride.behind_unit.Goals as goal

pub overflow_add-from : goal.overflow_add-from
overflow_add-from c =
    omega (arith, c.requires.0.inside, c.requires.2)

pub past_units-past-requires : goal.past_units-past-requires
past_units-past-requires c =
    (c.requires.0, c.requires.1, omega (arith, c.min-limit.ensures), c.requires.2)

pub overflow_add-from-2 : goal.overflow_add-from-2
overflow_add-from-2 c =
    omega (arith, c.requires.0.inside, c.requires.2)

pub past_each-requires : goal.past_each-requires
past_each-requires c =
    (c.past_units-past.ensures.0, c.requires.1, omega (arith, c.min-end.ensures), c.requires.2, omega arith)

pub returns : goal.returns
returns c =
    (c.past_each.ensures.0, omega (arith, c.past_each.ensures.1, c.past_units-past.ensures.1))
