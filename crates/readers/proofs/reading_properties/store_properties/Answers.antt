use native.Mathlib.Omega.{arith}
use Rattle.readers.proofs.EntryWords.{storing_first}
use Rattle.readers.proofs.PropertyWords.{storing_fine, storing_next, storing_end}
use Rattle.readers.proofs.reading_properties.store_properties.Goals as goal

pub loop-i-init : goal.loop-i-init
loop-i-init c =
    storing_first _ _ _ _ _ _ _ c.requires.2

pub store_property-at-requires : goal.store_property-at-requires
store_property-at-requires c =
    let s = c.loop-i.invariant in
    (c.requires.1, storing_fine s c.loop-i-test.true, omega (arith, s.same))

pub loop-i-preserved : goal.loop-i-preserved
loop-i-preserved c =
    let stored = c.store_property-at.ensures in
    storing_next c.loop-i.invariant c.loop-i-test.true _ stored.value stored.out_after

pub shape_of-out : goal.shape_of-out
shape_of-out c =
    c.loop-i.invariant.same

pub returns : goal.returns
returns c =
    storing_end c.loop-i.invariant c.loop-i-test.false
