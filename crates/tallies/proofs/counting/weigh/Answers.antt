-- `counting::weigh` meets its contract.
use Rattle.journal.proofs.Claims.{too_large}
use Rattle.tallies.proofs.Recounts.{weighed_bad, weighed_all, ends_bad}
use Rattle.tallies.proofs.counting.weigh.Goals as goal

pub returns-then-j-gt-SIZE_LIMIT : goal.returns-then-j-gt-SIZE_LIMIT
returns-then-j-gt-SIZE_LIMIT c =
    let j = c.args.j.now in weighed_bad j (too_large j c.if-j-gt-SIZE_LIMIT.true)

pub stretch_of-all-requires : goal.stretch_of-all-requires
stretch_of-all-requires c =
    c.if-j-gt-SIZE_LIMIT.false

pub returns-then-all-j : goal.returns-then-all-j
returns-then-all-j c =
    let j = c.args.j.now in
    weighed_bad j (ends_bad j c.if-j-gt-SIZE_LIMIT.false _ c.stretch_of-all.ensures.0 c.if-all-j.true (c.stretch_of-all.ensures.1 c.if-all-j.true))

pub returns : goal.returns
returns c =
    let j = c.args.j.now in
    rw c.tallies_of.ensures (weighed_all j c.if-j-gt-SIZE_LIMIT.false _ c.stretch_of-all.ensures.0 c.if-all-j.false)
