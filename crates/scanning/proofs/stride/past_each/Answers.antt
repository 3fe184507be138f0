use Rattle.std.proofs.Common.{◌≡◌, ◌+◌, ◌≤◌, true, length, arith}
use Rattle.journal.specs.Terms.{node_here, shape_at}
use Rattle.scanning.specs.Inner.Terms.{Reached}
use Rattle.journal.proofs.RecordLaws.{given_good, good_size_lem, good_fits}
use Rattle.scanning.proofs.Reaching.{position, reached_judged}
use Rattle.scanning.proofs.stride.past_each.Goals as goal

pub loop-at-init : goal.loop-at-init
loop-at-init c =
    (c.requires.0, omega arith)

pub judge-requires : goal.judge-requires
judge-requires c =
    (c.loop-at.invariant.0.inside, c.requires.4)

pub returns-in_default : goal.returns-in_default
returns-in_default c =
    c.loop-at.invariant

pub overflow_add-at : goal.overflow_add-at
overflow_add-at c =
    let good : let j = c.args.j.now in let at = c.loop-at.at in (node_here j at ≡ true) × (c.in-Some.shape ≡ shape_at j at) =
    given_good c.args.j.now c.loop-at.at
    c.args.most _ _ c.in-Some.is c.judge.ensures in
    let sized : let size = c.in-Some.shape.size in (10 ≤ size) × (c.loop-at.at + size ≤ length c.args.j.now) =
    let j = c.args.j.now in
    let at = c.loop-at.at in
    rw good.1 ((good_size_lem j at good.0).0, omega (arith, good_fits j at good.0, c.loop-at.invariant.0.inside)) in
    omega (arith, sized)

pub weigh-counts-requires : goal.weigh-counts-requires
weigh-counts-requires c =
    let good : let j = c.args.j.now in let at = c.loop-at.at in (node_here j at ≡ true) × (c.in-Some.shape ≡ shape_at j at) =
    given_good c.args.j.now c.loop-at.at
    c.args.most _ _ c.in-Some.is c.judge.ensures in
    good

pub overflow_add-counts : goal.overflow_add-counts
overflow_add-counts c =
    let good : let j = c.args.j.now in let at = c.loop-at.at in (node_here j at ≡ true) × (c.in-Some.shape ≡ shape_at j at) =
    given_good c.args.j.now c.loop-at.at
    c.args.most _ _ c.in-Some.is c.judge.ensures in
    let turn : Reached c.args.selection.now c.args.j.now (position (c.loop-at.at + c.in-Some.shape.size) (c.loop-at.counts + c.weigh-counts.result)) =
    reached_judged _ c.args.j.now c.args.weights.now c.loop-at.at c.loop-at.counts c.requires.3 c.requires.1 c.loop-at.invariant.0 _ _ (omega (arith, c.requires.2)) (good) c.weigh-counts.ensures in
    omega (arith, turn)

pub loop-at-smaller : goal.loop-at-smaller
loop-at-smaller c =
    let good : let j = c.args.j.now in let at = c.loop-at.at in (node_here j at ≡ true) × (c.in-Some.shape ≡ shape_at j at) =
    given_good c.args.j.now c.loop-at.at
    c.args.most _ _ c.in-Some.is c.judge.ensures in
    let sized : let size = c.in-Some.shape.size in (10 ≤ size) × (c.loop-at.at + size ≤ length c.args.j.now) =
    let j = c.args.j.now in
    let at = c.loop-at.at in
    rw good.1 ((good_size_lem j at good.0).0, omega (arith, good_fits j at good.0, c.loop-at.invariant.0.inside)) in
    omega (arith, sized)

pub loop-at-preserved : goal.loop-at-preserved
loop-at-preserved c =
    let good : let j = c.args.j.now in let at = c.loop-at.at in (node_here j at ≡ true) × (c.in-Some.shape ≡ shape_at j at) =
    given_good c.args.j.now c.loop-at.at
    c.args.most _ _ c.in-Some.is c.judge.ensures in
    let turn : Reached c.args.selection.now c.args.j.now (position (c.loop-at.at + c.in-Some.shape.size) (c.loop-at.counts + c.weigh-counts.result)) =
    reached_judged _ c.args.j.now c.args.weights.now c.loop-at.at c.loop-at.counts c.requires.3 c.requires.1 c.loop-at.invariant.0 _ _ (omega (arith, c.requires.2)) (good) c.weigh-counts.ensures in
    (turn, omega (arith, c.loop-at.invariant.1))

pub returns-after-loop-at : goal.returns-after-loop-at
returns-after-loop-at c =
    c.loop-at.invariant
