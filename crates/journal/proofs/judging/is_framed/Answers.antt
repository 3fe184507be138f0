-- `judging::is_framed` meets its contract.
use mathlib.Core.Bool.{and-false}
use mathlib.Core.Path.{sym}
use Prim.Native.Nat.{◌+◌}
use native.Mathlib.Omega.{arith}
use lib.Dec.{leb}
use borrow.Author.Tests.{le-leb, lt-leb}
use Rattle.journal.proofs.RecordLaws.{frame_is, frame_none}
use Rattle.journal.proofs.judging.is_framed.Goals as goal

pub returns-then-left-size : goal.returns-then-left-size
returns-then-left-size c =
    let a = c.args in rw (lt-leb (a.frame.length + 2) a.left (omega arith)) (sym (and-false (leb a.frame.kind a.most)))

pub returns-then-kind-lt1 : goal.returns-then-kind-lt1
returns-then-kind-lt1 c =
    let a = c.args in
    sym (simp (frame_none a.frame.length a.frame.kind (λ o. omega (arith, o.low)), and-false))

pub returns-then-most-kind : goal.returns-then-most-kind
returns-then-most-kind c =
    let a = c.args in
    rw (lt-leb a.frame.kind a.most c.if-most-kind.true)

pub length_of-requires : goal.length_of-requires
length_of-requires c =
    record { low = omega arith; high = omega (arith, c.requires) }

pub returns : goal.returns
returns c =
    let a = c.args in
    rw (le-leb a.frame.kind a.most c.if-most-kind.false, le-leb (a.frame.length + 2) a.left (omega arith), c.length_of.ensures)
    (sym (frame_is _ _ (record { low = omega arith; high = omega (arith, c.requires) })))
