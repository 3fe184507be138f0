-- `stride::stride` meets its contract.
use Rattle.std.proofs.Common.{◌≡◌, ◌+◌, ◌≤◌, true, length, ap, ◌∙◌, arith}
use Rattle.journal.specs.declared.judging.Shape.{Shape}
use Rattle.journal.specs.Terms.{node_here, shape_at}
use Rattle.scanning.specs.Inner.Terms.{Reached}
use Rattle.journal.proofs.RecordLaws.{given_bad, given_good, good_size_lem, good_fits}
use Rattle.scanning.proofs.Weighing.{shape_bounds}
use Rattle.scanning.proofs.Headers.{known}
use Rattle.journal.proofs.GoodLaws.{neither_good}
use Rattle.scanning.proofs.WeightLaws.{shape_weight}
use Rattle.scanning.proofs.Reaching.{reached_judged, position, reached_bad}
use Rattle.scanning.proofs.stride.stride.Goals as goal

-- no record of a node stands at the place, and where no property was passed, no record at all
pub returns-then-past-at : goal.returns-then-past-at
returns-then-past-at c =
    let j = c.args.j.now in
    let none = given_bad j c.args.from.at _ c.in_default.is c.judge.ensures in
    reached_bad c.args.selection.now j c.args.from.at c.args.from.counts c.requires.3 c.requires.0 c.requires.2
    (neither_good j c.args.from.at none (c.past_properties-past.ensures.none c.if-past-at.true))

pub overflow_add-first : goal.overflow_add-first
overflow_add-first c =
    let good : (node_here c.args.j.now c.args.from.at ≡ true) × (c.in-Some.shape ≡ shape_at c.args.j.now c.args.from.at) =
    given_good c.args.j.now c.args.from.at 4 _ _ c.in-Some.is c.judge.ensures in
    let sized : let size = c.in-Some.shape.size in (10 ≤ size) × (c.args.from.at + size ≤ length c.args.j.now) =
    rw good.1 ((good_size_lem c.args.j.now c.args.from.at good.0).0, omega (arith, good_fits c.args.j.now c.args.from.at good.0, c.requires.2)) in
    omega (arith, sized)

pub weigh-requires : goal.weigh-requires
weigh-requires c =
    let good : (node_here c.args.j.now c.args.from.at ≡ true) × (c.in-Some.shape ≡ shape_at c.args.j.now c.args.from.at) =
    given_good c.args.j.now c.args.from.at 4 _ _ c.in-Some.is c.judge.ensures in
    good

pub overflow_add-first-2 : goal.overflow_add-first-2
overflow_add-first-2 c =
    let good : (node_here c.args.j.now c.args.from.at ≡ true) × (c.in-Some.shape ≡ shape_at c.args.j.now c.args.from.at) =
    given_good c.args.j.now c.args.from.at 4 _ _ c.in-Some.is c.judge.ensures in
    let first : Reached c.args.selection.now c.args.j.now (position (c.args.from.at + c.in-Some.shape.size) (c.args.from.counts + c.weigh.result)) =
    reached_judged _ c.args.j.now c.args.weights.now c.args.from.at c.args.from.counts c.requires.3 c.requires.1 c.requires.0 _ _ c.requires.2
    (good) c.weigh.ensures in
    omega (arith, first)

pub behind_unit-requires : goal.behind_unit-requires
behind_unit-requires c =
    let good : (node_here c.args.j.now c.args.from.at ≡ true) × (c.in-Some.shape ≡ shape_at c.args.j.now c.args.from.at) =
    given_good c.args.j.now c.args.from.at 4 _ _ c.in-Some.is c.judge.ensures in
    let first : Reached c.args.selection.now c.args.j.now (position (c.args.from.at + c.in-Some.shape.size) (c.args.from.counts + c.weigh.result)) =
    reached_judged _ c.args.j.now c.args.weights.now c.args.from.at c.args.from.counts c.requires.3 c.requires.1 c.requires.0 _ _ c.requires.2
    (good) c.weigh.ensures in (
      first,
      c.requires.1,
      c.requires.3,
    )

pub returns-then-shape-eq4 : goal.returns-then-shape-eq4
returns-then-shape-eq4 c =
    let good : (node_here c.args.j.now c.args.from.at ≡ true) × (c.in-Some.shape ≡ shape_at c.args.j.now c.args.from.at) =
    given_good c.args.j.now c.args.from.at 4 _ _ c.in-Some.is c.judge.ensures in
    let sized : let size = c.in-Some.shape.size in (10 ≤ size) × (c.args.from.at + size ≤ length c.args.j.now) =
    rw good.1 ((good_size_lem c.args.j.now c.args.from.at good.0).0, omega (arith, good_fits c.args.j.now c.args.from.at good.0, c.requires.2)) in
    (c.behind_unit.ensures.0, omega (arith, c.behind_unit.ensures.1, sized))

pub header_at-requires : goal.header_at-requires
header_at-requires c =
    let good : (node_here c.args.j.now c.args.from.at ≡ true) × (c.in-Some.shape ≡ shape_at c.args.j.now c.args.from.at) =
    given_good c.args.j.now c.args.from.at 4 _ _ c.in-Some.is c.judge.ensures in
    let sized : let size = c.in-Some.shape.size in (10 ≤ size) × (c.args.from.at + size ≤ length c.args.j.now) =
    rw good.1 ((good_size_lem c.args.j.now c.args.from.at good.0).0, omega (arith, good_fits c.args.j.now c.args.from.at good.0, c.requires.2)) in
    omega (arith, sized)

pub weight_of-requires : goal.weight_of-requires
weight_of-requires c =
    let good : (node_here c.args.j.now c.args.from.at ≡ true) × (c.in-Some.shape ≡ shape_at c.args.j.now c.args.from.at) =
    given_good c.args.j.now c.args.from.at 4 _ _ c.in-Some.is c.judge.ensures in
    shape_bounds c.args.j.now c.args.from.at good.0 _ good.1

pub behind_plain-requires : goal.behind_plain-requires
behind_plain-requires c =
    let good : (node_here c.args.j.now c.args.from.at ≡ true) × (c.in-Some.shape ≡ shape_at c.args.j.now c.args.from.at) =
    given_good c.args.j.now c.args.from.at 4 _ _ c.in-Some.is c.judge.ensures in
    let first : Reached c.args.selection.now c.args.j.now (position (c.args.from.at + c.in-Some.shape.size) (c.args.from.counts + c.weigh.result)) =
    reached_judged _ c.args.j.now c.args.weights.now c.args.from.at c.args.from.counts c.requires.3 c.requires.1 c.requires.0 _ _ c.requires.2
    (good) c.weigh.ensures in
    let g = good in
    let kind = ap (λ (x : Shape). x.kind) g.1 in
    let weight = c.weight_of.ensures ∙ shape_weight c.args.selection.now.sets c.args.j.now c.args.weights.now c.args.from.at _ c.requires.1 g.0 g.1 in
    let bytes = c.shared_slice_known-1.given in (
      first,
      c.requires.1,
      known c.args.selection.now c.args.j.now (λ i. omega (arith, bytes i)) c.args.from.at g.0
          (λ q. c.if-shape-eq4.false (kind ∙ q)) _ c.header_at.ensures (ap (λ (x : Shape). x.size) g.1) weight,
      c.requires.3,
    )

pub returns-in_default : goal.returns-in_default
returns-in_default c =
    let p = c.past_properties-past.ensures in
    (p.reached c.args.selection.now c.args.from.counts c.requires.0, omega (arith, p.onward, c.if-past-at.false))

pub returns : goal.returns
returns c =
    let good : (node_here c.args.j.now c.args.from.at ≡ true) × (c.in-Some.shape ≡ shape_at c.args.j.now c.args.from.at) =
    given_good c.args.j.now c.args.from.at 4 _ _ c.in-Some.is c.judge.ensures in
    let sized : let size = c.in-Some.shape.size in (10 ≤ size) × (c.args.from.at + size ≤ length c.args.j.now) =
    rw good.1 ((good_size_lem c.args.j.now c.args.from.at good.0).0, omega (arith, good_fits c.args.j.now c.args.from.at good.0, c.requires.2)) in
    (c.behind_plain.ensures.0, omega (arith, c.behind_plain.ensures.1, sized))
