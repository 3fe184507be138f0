-- `judging::is_good` meets its contract.
use mathlib.Core.Bool.{◌&&◌}
use mathlib.Core.Path.{◌≡◌, sym, ◌∙◌}
use Prim.Native.Nat.{◌+◌, ◌*◌, ◌/◌, ◌≤◌}
use native.Mathlib.Omega.{arith}
use lib.Dec.{leb}
use borrow.Author.Tests.{le-leb, lt-leb, leb-true}
use Rattle.words.proofs.Choice.{and_left}
use Rattle.journal.specs.Inner.Terms.{framed_at, good_at}
use Rattle.journal.specs.Journal.{within}
use Rattle.journal.proofs.RecordLaws.{frame_bad, frame_type}
use Rattle.journal.proofs.judging.is_good.Goals as goal

pub returns-then-not-is_framed : goal.returns-then-not-is_framed
returns-then-not-is_framed c =
    let a = c.args in
    sym (frame_bad a.left a.frame.length a.frame.kind a.node (leb a.frame.kind a.most) (sym c.is_framed.ensures ∙ c.if-not-is_framed.true))

pub overflow_mul-four : goal.overflow_mul-four
overflow_mul-four c =
    let few : c.args.frame.kind ≤ 4 =
    let a = c.args in
    omega (
      arith,
      c.requires,
      leb-true a.frame.kind a.most
          (and_left (leb a.frame.kind a.most) (framed_at a.left a.frame.length a.frame.kind) (sym c.is_framed.ensures ∙ c.if-not-is_framed.false)),
    ) in
    omega (arith, few)

pub overflow_add-four : goal.overflow_add-four
overflow_add-four c =
    let few : c.args.frame.kind ≤ 4 =
    let a = c.args in
    omega (
      arith,
      c.requires,
      leb-true a.frame.kind a.most
          (and_left (leb a.frame.kind a.most) (framed_at a.left a.frame.length a.frame.kind) (sym c.is_framed.ensures ∙ c.if-not-is_framed.false)),
    ) in
    omega (arith, few)

pub returns-then-four-node : goal.returns-then-four-node
returns-then-four-node c =
    let told : let a = c.args in (leb a.frame.kind a.most && good_at a.left a.frame.length a.frame.kind a.node) ≡ within (1 + 14 * (a.frame.kind / 4)) (14 + 2 * (a.frame.kind / 4)) a.node =
    let a = c.args in frame_type a.left a.frame.length a.frame.kind a.node (leb a.frame.kind a.most)
    (sym c.is_framed.ensures ∙ c.if-not-is_framed.false) in
    rw (told, le-leb _ _ c.if-four-node.true)

pub returns-else-four-node : goal.returns-else-four-node
returns-else-four-node c =
    let told : let a = c.args in (leb a.frame.kind a.most && good_at a.left a.frame.length a.frame.kind a.node) ≡ within (1 + 14 * (a.frame.kind / 4)) (14 + 2 * (a.frame.kind / 4)) a.node =
    let a = c.args in frame_type a.left a.frame.length a.frame.kind a.node (leb a.frame.kind a.most)
    (sym c.is_framed.ensures ∙ c.if-not-is_framed.false) in
    rw (told, lt-leb _ _ c.if-four-node.false)
