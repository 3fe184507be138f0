use mathlib.Core.Path.{◌≡◌, ap}
use mathlib.Core.Bool.{true}
use native.Mathlib.Omega.{arith}
use Rattle.journal.specs.declared.property.PropertyRecord.{PropertyRecord}
use Rattle.journal.specs.Holding.{property_here, property_in}
use Rattle.journal.proofs.PropertyLaws.{held_other, held_property}
use Rattle.stretch.specs.Inner.Terms.{Adds}
use Rattle.stretch.proofs.Adding.{property_adds}
use Rattle.stretch.proofs.Going.{goes_nowhere, adds_size, grows_one, onward_one}
use Rattle.stretch.proofs.steps.past_properties.Goals as goal

pub loop-s-init : goal.loop-s-init
loop-s-init c =
    (goes_nowhere _ _ c.requires, c.requires)

pub held_at-requires : goal.held_at-requires
held_at-requires c =
    c.loop-s.invariant.1.inside

pub returns-in_default : goal.returns-in_default
returns-in_default c =
    (c.loop-s.invariant.0, c.loop-s.invariant.1, λ h. held_other _ c.loop-s.s.end _ c.in_default.is c.held_at.ensures)

pub grown-s-requires : goal.grown-s-requires
grown-s-requires c =
    let adds : Adds c.args.j.now c.loop-s.s.end c.in-Some.p.size c.none.result =
    let j = c.args.j.now in
    let p : (property_here j c.loop-s.s.end ≡ true) × (c.in-Some.p ≡ property_in j c.loop-s.s.end) = held_property j c.loop-s.s.end _ _ c.in-Some.is c.held_at.ensures in
    rw c.none.ensures (property_adds j c.loop-s.s.end _ c.loop-s.invariant.1.inside p.0 (ap (λ (r : PropertyRecord). r.size) p.1)) in
    grows_one _ _ _ _ c.loop-s.invariant.1 (adds)

pub loop-s-smaller : goal.loop-s-smaller
loop-s-smaller c =
    let adds : Adds c.args.j.now c.loop-s.s.end c.in-Some.p.size c.none.result =
    let j = c.args.j.now in
    let p : (property_here j c.loop-s.s.end ≡ true) × (c.in-Some.p ≡ property_in j c.loop-s.s.end) = held_property j c.loop-s.s.end _ _ c.in-Some.is c.held_at.ensures in
    rw c.none.ensures (property_adds j c.loop-s.s.end _ c.loop-s.invariant.1.inside p.0 (ap (λ (r : PropertyRecord). r.size) p.1)) in
    rw c.grown-s.ensures (omega (arith, adds_size _ _ _ _ c.loop-s.invariant.1 (adds), c.loop-s-test.true))

pub loop-s-preserved : goal.loop-s-preserved
loop-s-preserved c =
    let adds : Adds c.args.j.now c.loop-s.s.end c.in-Some.p.size c.none.result =
    let j = c.args.j.now in
    let p : (property_here j c.loop-s.s.end ≡ true) × (c.in-Some.p ≡ property_in j c.loop-s.s.end) = held_property j c.loop-s.s.end _ _ c.in-Some.is c.held_at.ensures in
    rw c.none.ensures (property_adds j c.loop-s.s.end _ c.loop-s.invariant.1.inside p.0 (ap (λ (r : PropertyRecord). r.size) p.1)) in
    rw c.grown-s.ensures (onward_one _ _ _ _ _ c.loop-s.invariant (adds))

pub returns-after-loop-s : goal.returns-after-loop-s
returns-after-loop-s c =
    (c.loop-s.invariant.0, c.loop-s.invariant.1, λ h. absurd (omega (arith, c.loop-s-test.false)))
