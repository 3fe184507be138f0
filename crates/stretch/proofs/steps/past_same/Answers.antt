use mathlib.Core.Path.{sym, ◌∙◌}
use Prim.Native.Nat.{◌+◌, ◌*◌, ◌≤◌}
use native.Mathlib.Omega.{arith}
use lib.ListN.{length}
use Rattle.stretch.proofs.Going.{goes_nowhere, grows_four, onward_four}
use Rattle.stretch.proofs.steps.past_same.Goals as goal

pub loop-s-init : goal.loop-s-init
loop-s-init c =
    (goes_nowhere _ _ c.requires.0, c.requires.0)

pub overflow_mul-same : goal.overflow_mul-same
overflow_mul-same c =
    omega (arith, c.requires.1.small)

pub overflow_add-s : goal.overflow_add-s
overflow_add-s c =
    omega (arith, c.loop-s.invariant.1.inside, c.loop-s.invariant.1.small, c.requires.1.small)

pub four_headers-requires : goal.four_headers-requires
four_headers-requires c =
    let fits : let a = c.args in c.loop-s.s.end + 4 * a.same.size ≤ length a.j.now =
    omega (arith, c.loop-s-test.true, c.requires.2) in
    (omega (arith, fits, c.requires.1.large), c.requires.1.small)

pub grown-s-requires : goal.grown-s-requires
grown-s-requires c =
    let fits : let a = c.args in c.loop-s.s.end + 4 * a.same.size ≤ length a.j.now =
    omega (arith, c.loop-s-test.true, c.requires.2) in
    grows_four _ _ c.requires.1 _ c.loop-s.invariant.1 (fits)

pub loop-s-smaller : goal.loop-s-smaller
loop-s-smaller c =
    rw c.grown-s.ensures (omega (arith, c.loop-s-test.true, c.requires.1.large))

pub loop-s-preserved : goal.loop-s-preserved
loop-s-preserved c =
    let fits : let a = c.args in c.loop-s.s.end + 4 * a.same.size ≤ length a.j.now =
    omega (arith, c.loop-s-test.true, c.requires.2) in
    rw c.grown-s.ensures
    (onward_four c.args.j.now c.args.same c.requires.1 _ _ (fits)
    (sym c.four_headers.ensures ∙ c.if-not-four_headers.false) c.loop-s.invariant)

pub returns-after-loop-s : goal.returns-after-loop-s
returns-after-loop-s c =
    c.loop-s.invariant

pub returns-then-not-four_headers : goal.returns-then-not-four_headers
returns-then-not-four_headers c =
    c.loop-s.invariant
