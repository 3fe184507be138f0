use Rattle.std.proofs.Common.{◌≡◌, ◌+◌, ◌≤◌, true, length, ap, arith, rules}
use Rattle.journal.specs.declared.property.PropertyRecord.{PropertyRecord}
use Rattle.journal.specs.Holding.{property_here, property_in}
use Rattle.journal.proofs.PropertyLaws.{held_other, held_property}
use Rattle.journal.proofs.Sizes.{sized_here}
use Rattle.journal.proofs.GoodLaws.{property_good}
use Rattle.scanning.proofs.Reaching.{reached_property}
use Rattle.scanning.proofs.stride.past_properties.Goals as goal

pub loop-at-init : goal.loop-at-init
loop-at-init c =
    record { inside = search rules; onward = search rules; reached = λ sel counts r. r }

pub held_at-requires : goal.held_at-requires
held_at-requires c =
    omega (arith, c.loop-at.invariant.inside)

pub returns-in_default : goal.returns-in_default
returns-in_default c =
    let g = c.loop-at.invariant in
    let a = c.args in
    let none = held_other a.j.now c.loop-at.at _ c.in_default.is c.held_at.ensures in
    record { reached = g.reached; onward = g.onward; none = λ e. rw e at none }

pub overflow_add-at : goal.overflow_add-at
overflow_add-at c =
    let passed : let a = c.args in let at = c.loop-at.at in (property_here a.j.now at ≡ true) × (c.in-Some.p ≡ property_in a.j.now at) =
    held_property _ _ _ _ c.in-Some.is c.held_at.ensures in
    let sized : let a = c.args in let size = c.in-Some.p.size in (10 ≤ size) × (c.loop-at.at + size ≤ length a.j.now) =
    let a = c.args in
    let at = c.loop-at.at in
    let s = sized_here a.j.now at (property_good a.j.now at passed.0) in
    rw passed.1 (omega (arith, s), s.1) in
    omega (arith, sized)

pub loop-at-smaller : goal.loop-at-smaller
loop-at-smaller c =
    let passed : let a = c.args in let at = c.loop-at.at in (property_here a.j.now at ≡ true) × (c.in-Some.p ≡ property_in a.j.now at) =
    held_property _ _ _ _ c.in-Some.is c.held_at.ensures in
    let sized : let a = c.args in let size = c.in-Some.p.size in (10 ≤ size) × (c.loop-at.at + size ≤ length a.j.now) =
    let a = c.args in
    let at = c.loop-at.at in
    let s = sized_here a.j.now at (property_good a.j.now at passed.0) in
    rw passed.1 (omega (arith, s), s.1) in
    omega (arith, sized)

pub loop-at-preserved : goal.loop-at-preserved
loop-at-preserved c =
    let passed : let a = c.args in let at = c.loop-at.at in (property_here a.j.now at ≡ true) × (c.in-Some.p ≡ property_in a.j.now at) =
    held_property _ _ _ _ c.in-Some.is c.held_at.ensures in
    let sized : let a = c.args in let size = c.in-Some.p.size in (10 ≤ size) × (c.loop-at.at + size ≤ length a.j.now) =
    let a = c.args in
    let at = c.loop-at.at in
    let s = sized_here a.j.now at (property_good a.j.now at passed.0) in
    rw passed.1 (omega (arith, s), s.1) in
    let j = c.args.j.now in
    let at = c.loop-at.at in
    let g = c.loop-at.invariant in
    record {
      inside = omega (arith, sized);
      onward = omega (arith, g.onward);
      reached = λ sel counts r.
          let next = reached_property sel j at counts c.requires.1 (g.reached sel counts r) c.loop-at-test.true passed.0 in
          rw (← ap (λ (p : PropertyRecord). p.size) passed.1) at next;
    }

pub returns-after-loop-at : goal.returns-after-loop-at
returns-after-loop-at c =
    let g = c.loop-at.invariant in
    record { reached = g.reached; onward = g.onward; none = λ e. absurd (omega (arith, c.requires.0)) }
