-- `fronts::gather` meets its contract.
use mathlib.Core.List.{[]}
use native.Mathlib.Omega.{arith}
use lib.ListN.{drop}
use Rattle.records.proofs.Due.{due_least}
use Rattle.records.proofs.Behind.{gather_short, gather_all}
use Rattle.records.proofs.fronts.gather.Goals as goal

pub fill-front-requires : goal.fill-front-requires
fill-front-requires g c =
    (c.requires.0, omega (arith, due_least g.R.Front.good [], c.requires.1 []), omega arith)

pub fill-more-requires : goal.fill-more-requires
fill-more-requires g c =
    let kept = c.fill-front.auto.buffer in
    (omega (arith, c.fill-front.ensures.amount, kept, c.requires.0, due_least g.R.Front.good [], c.requires.1 []), omega (arith, kept, c.due_at-n.ensures, c.requires.1 (drop 0 c.fill-front.new.buffer)), omega (arith, c.fill-front.ensures.amount))

pub returns-then-four-lt4 : goal.returns-then-four-lt4
returns-then-four-lt4 g c =
    let a = c.args in gather_short g.R.Front.good a.buffer.now a.held a.bytes.now _ _ c.fill-front.ensures c.if-four-lt4.true

pub returns : goal.returns
returns g c =
    let a = c.args in
    gather_all g.R.Front.good a.buffer.now a.held a.bytes.now _ _ c.fill-front.ensures c.requires.0 c.if-four-lt4.false _ _ _ c.due_at-n.ensures c.fill-more.ensures
