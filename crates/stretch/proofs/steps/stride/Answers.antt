-- `steps::stride` meets its contract.
use mathlib.Core.Path.{◌≡◌, ap}
use mathlib.Core.Bool.{true}
use native.Mathlib.Omega.{arith}
use Rattle.journal.specs.Terms.{node_here, shape_at}
use Rattle.journal.proofs.RecordLaws.{given_bad, given_good}
use Rattle.journal.proofs.GoodLaws.{neither_good}
use Rattle.stretch.specs.declared.steps.Stretch.{Stretch}
use Rattle.stretch.specs.Inner.Terms.{Adds}
use Rattle.stretch.proofs.Adding.{node_adds, known_same}
use Rattle.stretch.proofs.Going.{Onward, goes_nowhere, goes_on, adds_size, grows_one, onward_one, shape_known}
use Rattle.stretch.proofs.steps.stride.Goals as goal

pub judge-requires : goal.judge-requires
judge-requires c =
    (c.requires.0.inside, omega arith)

pub past_properties-requires : goal.past_properties-requires
past_properties-requires c =
    c.requires.0

pub weights_for-weight-requires : goal.weights_for-weight-requires
weights_for-weight-requires c =
    let good : let a = c.args in (node_here a.j.now a.from.end ≡ true) × (c.in-Some.shape ≡ shape_at a.j.now a.from.end) =
    let a = c.args in
    given_good a.j.now a.from.end 4 _ _ c.in-Some.is c.judge.ensures in
    shape_known _ _ _ (good)

pub header_at-requires : goal.header_at-requires
header_at-requires c =
    let good : let a = c.args in (node_here a.j.now a.from.end ≡ true) × (c.in-Some.shape ≡ shape_at a.j.now a.from.end) =
    let a = c.args in
    given_good a.j.now a.from.end 4 _ _ c.in-Some.is c.judge.ensures in
    let adds : let a = c.args in Adds a.j.now a.from.end c.in-Some.shape.size c.weights_for-weight.result =
    rw c.weights_for-weight.ensures (node_adds _ _ _ (good)) in
    omega (arith, adds_size _ _ _ _ c.requires.0 (adds))

pub grown-requires : goal.grown-requires
grown-requires c =
    let good : let a = c.args in (node_here a.j.now a.from.end ≡ true) × (c.in-Some.shape ≡ shape_at a.j.now a.from.end) =
    let a = c.args in
    given_good a.j.now a.from.end 4 _ _ c.in-Some.is c.judge.ensures in
    let adds : let a = c.args in Adds a.j.now a.from.end c.in-Some.shape.size c.weights_for-weight.result =
    rw c.weights_for-weight.ensures (node_adds _ _ _ (good)) in
    grows_one _ _ _ _ c.requires.0 (adds)

pub behind_node-requires : goal.behind_node-requires
behind_node-requires c =
    let good : let a = c.args in (node_here a.j.now a.from.end ≡ true) × (c.in-Some.shape ≡ shape_at a.j.now a.from.end) =
    let a = c.args in
    given_good a.j.now a.from.end 4 _ _ c.in-Some.is c.judge.ensures in
    let adds : let a = c.args in Adds a.j.now a.from.end c.in-Some.shape.size c.weights_for-weight.result =
    rw c.weights_for-weight.ensures (node_adds _ _ _ (good)) in
    let first : let a = c.args in Onward a.j.now a.from c.grown.result =
    let p = c.requires.0 in
    rw c.grown.ensures (onward_one _ _ _ _ _ (goes_nowhere _ _ p, p) (adds)) in
    let bytes = c.shared_slice_known-1.given in
    (first.1, rw c.weights_for-weight.ensures (known_same _ (λ i. omega (arith, bytes i)) _ _ _ (good) c.header_at.ensures))

-- no record of a node stands at the place, and where no property was passed, no record at all
pub returns-in_default : goal.returns-in_default
returns-in_default c =
    let j = c.args.j.now in
    let p = c.past_properties.ensures in
    let none = given_bad j c.args.from.end _ c.in_default.is c.judge.ensures in
    (p.0, p.1, λ e. neither_good j c.args.from.end none (rw e at p.2 (omega (arith, c.requires.1))))

pub returns : goal.returns
returns c =
    let good : let a = c.args in (node_here a.j.now a.from.end ≡ true) × (c.in-Some.shape ≡ shape_at a.j.now a.from.end) =
    let a = c.args in
    given_good a.j.now a.from.end 4 _ _ c.in-Some.is c.judge.ensures in
    let adds : let a = c.args in Adds a.j.now a.from.end c.in-Some.shape.size c.weights_for-weight.result =
    rw c.weights_for-weight.ensures (node_adds _ _ _ (good)) in
    let first : let a = c.args in Onward a.j.now a.from c.grown.result =
    let p = c.requires.0 in
    rw c.grown.ensures (onward_one _ _ _ _ _ (goes_nowhere _ _ p, p) (adds)) in
    let p = c.behind_node.ensures in
    let f = first in
    let more = adds_size _ _ _ _ c.requires.0 (adds) in
    (goes_on _ _ _ _ f.0 p.0 p.1.small, p.1, λ e. absurd (omega (arith, more, p.0.onward, ap (λ (s : Stretch). s.end) c.grown.ensures)))
