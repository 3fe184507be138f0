-- `coming::reading_came` meets its contract.
use mathlib.Core.Bool.{◌&&◌}
use mathlib.Core.Path.{◌≡◌}
use lib.Dec.{eqb}
use native.Mathlib.Omega.{arith}
use borrow.Author.Tests.{le-leb, lt-leb, lt-ltb, le-ltb, eq-eqb, ne_eqb}
use Rattle.crossing.specs.Record.{reading_of}
use Rattle.trace.specs.Came.{reading_came}
use Rattle.replay_states.proofs.coming.reading_came.Goals as goal

pub returns-then-flat-gt69905 : goal.returns-then-flat-gt69905
unfolding reading_came
returns-then-flat-gt69905 c =
    rw (lt-ltb 1 c.args.flat.number (omega (arith, c.if-flat-gt69905.true)), lt-leb _ 69_905 c.if-flat-gt69905.true)

pub returns-then-is_askable : goal.returns-then-is_askable
unfolding reading_came
returns-then-is_askable c =
    rw (lt-ltb 1 _ c.if-flat-gt1.true, le-leb _ 69_905 c.if-flat-gt69905.false, ← c.is_askable.ensures, c.if-is_askable.true)

pub returns-else-is_askable : goal.returns-else-is_askable
unfolding reading_came
returns-else-is_askable c =
    rw (lt-ltb 1 _ c.if-flat-gt1.true, le-leb _ 69_905 c.if-flat-gt69905.false, ← c.is_askable.ensures, c.if-is_askable.false)

pub returns-then-flat-ne0 : goal.returns-then-flat-ne0
unfolding reading_came
returns-then-flat-ne0 c =
    rw (le-ltb 1 _ c.if-flat-gt1.false, ne_eqb _ 0 c.if-flat-ne0.true)

pub returns-then-flat-ne0-2 : goal.returns-then-flat-ne0-2
unfolding reading_came
returns-then-flat-ne0-2 c =
    rw (le-ltb 1 _ c.if-flat-gt1.false, eq-eqb _ 0 c.if-flat-ne0.false, ne_eqb _ 0 c.if-flat-ne0-2.true)

pub returns-then-flat-eq1 : goal.returns-then-flat-eq1
unfolding reading_came
returns-then-flat-eq1 c =
    let left : let a = c.args in reading_came (record { 0 = a.edition }) (reading_of a.flat) ≡ (eqb a.flat.number 1 && eqb a.flat.edition 0) =
    rw (le-ltb 1 _ c.if-flat-gt1.false, eq-eqb _ 0 c.if-flat-ne0.false, eq-eqb _ 0 c.if-flat-ne0-2.false) in
    rw (left, eq-eqb _ 1 c.if-flat-eq1.true)

pub returns-else-flat-eq1 : goal.returns-else-flat-eq1
unfolding reading_came
returns-else-flat-eq1 c =
    let left : let a = c.args in reading_came (record { 0 = a.edition }) (reading_of a.flat) ≡ (eqb a.flat.number 1 && eqb a.flat.edition 0) =
    rw (le-ltb 1 _ c.if-flat-gt1.false, eq-eqb _ 0 c.if-flat-ne0.false, eq-eqb _ 0 c.if-flat-ne0-2.false) in
    rw (left, ne_eqb _ 1 c.if-flat-eq1.false)
