-- `steps::behind_node` meets its contract.
use native.Mathlib.Omega.{arith}
use Rattle.stretch.proofs.Going.{goes_on}
use Rattle.stretch.proofs.steps.behind_node.Goals as goal

pub overflow_add-from : goal.overflow_add-from
overflow_add-from c =
    omega (arith, c.requires.0.inside, c.requires.0.small)

pub overflow_add-from-2 : goal.overflow_add-from-2
overflow_add-from-2 c =
    omega (arith, c.requires.0.inside, c.requires.0.small)

pub past_same-past-requires : goal.past_same-past-requires
past_same-past-requires c =
    (c.requires.0, c.requires.1, omega (arith, c.min-limit.ensures))

pub past_each-requires : goal.past_each-requires
past_each-requires c =
    (c.past_same-past.ensures.1, omega (arith, c.min-end.ensures))

pub returns : goal.returns
returns c =
    (goes_on _ _ _ _ c.past_same-past.ensures.0 c.past_each.ensures.0 c.past_each.ensures.1.small, c.past_each.ensures.1)
