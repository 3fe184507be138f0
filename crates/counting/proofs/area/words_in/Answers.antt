use native.Mathlib.Omega.{arith}
use Rattle.counting.proofs.UsedWords.{passed_none, passed_out, passed_end, passed_more}
use Rattle.counting.proofs.area.words_in.Goals as goal

pub loop-at-init : goal.loop-at-init
loop-at-init c =
    passed_none c.args.area.now

pub read_be32-word-requires : goal.read_be32-word-requires
read_be32-word-requires c =
    omega (arith, c.loop-at.invariant.place)

pub returns-then-word-eq0 : goal.returns-then-word-eq0
returns-then-word-eq0 c =
    passed_end c.args.area.now c.loop-at.at c.loop-at.invariant c.requires _ c.loop-at-test.true c.read_be32-word.ensures c.if-word-eq0.true

pub loop-at-preserved : goal.loop-at-preserved
loop-at-preserved c =
    passed_more c.args.area.now c.loop-at.at c.loop-at.invariant c.requires _ c.loop-at-test.true c.read_be32-word.ensures c.if-word-eq0.false

pub returns : goal.returns
returns c =
    passed_out c.args.area.now c.loop-at.at c.loop-at.invariant c.requires (omega arith)
