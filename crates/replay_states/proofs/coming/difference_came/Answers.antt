-- `coming::difference_came` meets its contract.
use Prim.Native.Nat.{◌+◌}
use mathlib.Core.Bool.{Bool, ◌&&◌}
use mathlib.Core.Path.{◌≡◌}
use native.Mathlib.Omega.{arith}
use lib.Dec.{leb, eqb}
use borrow.Author.Tests.{le-leb, lt-leb, eq-eqb, ne_eqb}
use Rattle.replay_states.proofs.coming.difference_came.Goals as goal

pub returns-then-waits-ne0 : goal.returns-then-waits-ne0
returns-then-waits-ne0 c =
    rw (ne_eqb _ 0 c.if-waits-ne0.true)

pub returns-then-call-lt1 : goal.returns-then-call-lt1
returns-then-call-lt1 c =
    rw (eq-eqb _ 0 c.if-waits-ne0.false, lt-leb 1 _ c.if-call-lt1.true)

pub returns-then-call-least : goal.returns-then-call-least
returns-then-call-least c =
    rw (eq-eqb _ 0 c.if-waits-ne0.false, le-leb 1 _ c.if-call-lt1.false, lt-leb _ _ c.if-call-least.true)

pub returns-then-records-call : goal.returns-then-records-call
returns-then-records-call c =
    let left : let a = c.args in (b : Bool) → (eqb a.waits 0 && (leb 1 a.call && (leb a.least a.call && b))) ≡ b =
    λ b. rw (eq-eqb _ 0 c.if-waits-ne0.false, le-leb 1 _ c.if-call-lt1.false, le-leb _ _ c.if-call-least.false) in
    let a = c.args in rw (left, lt-leb (a.call + a.call) a.records (omega (arith, c.if-records-call.true)))

pub returns-then-records-call-2 : goal.returns-then-records-call-2
returns-then-records-call-2 c =
    let left : let a = c.args in (b : Bool) → (eqb a.waits 0 && (leb 1 a.call && (leb a.least a.call && b))) ≡ b =
    λ b. rw (eq-eqb _ 0 c.if-waits-ne0.false, le-leb 1 _ c.if-call-lt1.false, le-leb _ _ c.if-call-least.false) in
    rw (left, lt-leb _ _ c.if-records-call-2.true)

pub returns : goal.returns
returns c =
    let left : let a = c.args in (b : Bool) → (eqb a.waits 0 && (leb 1 a.call && (leb a.least a.call && b))) ≡ b =
    λ b. rw (eq-eqb _ 0 c.if-waits-ne0.false, le-leb 1 _ c.if-call-lt1.false, le-leb _ _ c.if-call-least.false) in
    rw (left, le-leb _ _ c.if-records-call-2.false)
