use mathlib.Core.Path.{◌≡◌}
use mathlib.Core.Bool.{true}
use native.Mathlib.Omega.{arith}
use Rattle.journal.specs.Terms.{node_here, shape_at}
use Rattle.journal.proofs.RecordLaws.{given_good}
use Rattle.stretch.specs.Inner.Terms.{Adds}
use Rattle.stretch.proofs.Adding.{node_adds}
use Rattle.stretch.proofs.Going.{goes_nowhere, adds_size, grows_one, onward_one, shape_known}
use Rattle.stretch.proofs.steps.past_each.Goals as goal

pub loop-s-init : goal.loop-s-init
loop-s-init c =
    (goes_nowhere _ _ c.requires.0, c.requires.0)

pub judge-requires : goal.judge-requires
judge-requires c =
    (c.loop-s.invariant.1.inside, omega arith)

pub returns-in_default : goal.returns-in_default
returns-in_default c =
    c.loop-s.invariant

pub weights_for-requires : goal.weights_for-requires
weights_for-requires c =
    let good : let j = c.args.j.now in let at = c.loop-s.s.end in (node_here j at ≡ true) × (c.in-Some.shape ≡ shape_at j at) =
    given_good c.args.j.now c.loop-s.s.end 4 _ _
    c.in-Some.is c.judge.ensures in
    shape_known _ _ _ (good)

pub grown-s-requires : goal.grown-s-requires
grown-s-requires c =
    let good : let j = c.args.j.now in let at = c.loop-s.s.end in (node_here j at ≡ true) × (c.in-Some.shape ≡ shape_at j at) =
    given_good c.args.j.now c.loop-s.s.end 4 _ _
    c.in-Some.is c.judge.ensures in
    let adds : Adds c.args.j.now c.loop-s.s.end c.in-Some.shape.size c.weights_for.result =
    rw c.weights_for.ensures (node_adds _ _ _ (good)) in
    grows_one _ _ _ _ c.loop-s.invariant.1 (adds)

pub loop-s-smaller : goal.loop-s-smaller
loop-s-smaller c =
    let good : let j = c.args.j.now in let at = c.loop-s.s.end in (node_here j at ≡ true) × (c.in-Some.shape ≡ shape_at j at) =
    given_good c.args.j.now c.loop-s.s.end 4 _ _
    c.in-Some.is c.judge.ensures in
    let adds : Adds c.args.j.now c.loop-s.s.end c.in-Some.shape.size c.weights_for.result =
    rw c.weights_for.ensures (node_adds _ _ _ (good)) in
    rw c.grown-s.ensures (omega (arith, adds_size _ _ _ _ c.loop-s.invariant.1 (adds), c.loop-s-test.true))

pub loop-s-preserved : goal.loop-s-preserved
loop-s-preserved c =
    let good : let j = c.args.j.now in let at = c.loop-s.s.end in (node_here j at ≡ true) × (c.in-Some.shape ≡ shape_at j at) =
    given_good c.args.j.now c.loop-s.s.end 4 _ _
    c.in-Some.is c.judge.ensures in
    let adds : Adds c.args.j.now c.loop-s.s.end c.in-Some.shape.size c.weights_for.result =
    rw c.weights_for.ensures (node_adds _ _ _ (good)) in
    rw c.grown-s.ensures (onward_one _ _ _ _ _ c.loop-s.invariant (adds))

pub returns-after-loop-s : goal.returns-after-loop-s
returns-after-loop-s c =
    c.loop-s.invariant
