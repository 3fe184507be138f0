-- `writing::write_answer` meets its contract.
use mathlib.Core.Path.{◌≡◌, ap, ◌∙◌}
use Prim.Native.Nat.{ℕ, ◌+◌, ◌≤◌}
use native.Mathlib.Omega.{arith}
use lib.Seq.{sets}
use Rattle.nodes.proofs.Answers.{counts_small, handed, answer_stored}
use Rattle.nodes.proofs.Claims.{area_claims}
use Rattle.nodes.proofs.Listed.{few, remains_is, next-is}
use Rattle.node_area.specs.Head.{carried_head}
use Rattle.nodes.specs.Run.{cut}
use Rattle.node_area.specs.State.{total, remaining_of}
use Rattle.nodes.proofs.writing.write_answer.Goals as goal

pub after-after-requires : goal.after-after-requires
after-after-requires c =
    let fitting : let a = c.args in c.longest_run-run.result ≡ cut (remaining_of a.progress.counts a.progress.state.0) =
    c.longest_run-run.ensures.value ∙ ap cut c.remaining.ensures in
    let sums : let a = c.args in (a.progress.state.0 + total c.longest_run-run.result ≤ total a.progress.counts) × (total a.progress.counts ≤ 3_145_728) =
    let selection = c.args.selection.now in
    let j = c.args.j.now in
    (few selection j c.args.progress.counts c.args.progress.state.0 c.requires.1.counted c.requires.2 _ (fitting), counts_small selection j _ c.requires.1.good c.requires.1.counted) in
    omega (arith, sums)

pub has_more-more-requires : goal.has_more-more-requires
has_more-more-requires c =
    let fitting : let a = c.args in c.longest_run-run.result ≡ cut (remaining_of a.progress.counts a.progress.state.0) =
    c.longest_run-run.ensures.value ∙ ap cut c.remaining.ensures in
    let sums : let a = c.args in (a.progress.state.0 + total c.longest_run-run.result ≤ total a.progress.counts) × (total a.progress.counts ≤ 3_145_728) =
    let selection = c.args.selection.now in
    let j = c.args.j.now in
    (few selection j c.args.progress.counts c.args.progress.state.0 c.requires.1.counted c.requires.2 _ (fitting), counts_small selection j _ c.requires.1.good c.requires.1.counted) in
    omega (arith, sums)

pub write_body-requires : goal.write_body-requires
write_body-requires c =
    let fitting : let a = c.args in c.longest_run-run.result ≡ cut (remaining_of a.progress.counts a.progress.state.0) =
    c.longest_run-run.ensures.value ∙ ap cut c.remaining.ensures in
    let f = fitting in
    let h = handed c.args.selection.now c.args.j.now c.args.progress.counts c.args.progress.state.0 c.requires.1.counted c.requires.2 _ f in
    (c.write_head.auto.area ∙ c.requires.0, c.requires.1.good, c.requires.1.marked, rw c.passed.ensures h)

pub returns : goal.returns
returns c =
    let fitting : let a = c.args in c.longest_run-run.result ≡ cut (remaining_of a.progress.counts a.progress.state.0) =
    c.longest_run-run.ensures.value ∙ ap cut c.remaining.ensures in
    let a = c.args in
    let selection = a.selection.now in
    let j = a.j.now in
    let k = a.progress.state.0 in
    let f = fitting in
    let state = next-is selection j a.progress.counts k c.requires.1.counted c.requires.2 _ f c.after-after.result.0 c.carried.result.0 c.has_more-more.result c.after-after.ensures c.has_more-more.ensures c.carried.ensures in record {
      value = c.has_more-more.ensures ∙ remains_is selection j a.progress.counts k c.requires.1.counted c.requires.2 _ f _ c.after-after.ensures;
      area_after = answer_stored selection j a.progress.counts k c.requires.1.counted c.requires.2 _ f a.selection.now.units a.area.now c.write_head.new.area c.write_body.new.area c.requires.0
          (c.write_head.ensures ∙ ap (λ (n : ℕ). sets a.area.now 0 (carried_head a.selection.now.units n)) state) (rw c.passed.ensures at c.write_body.ensures);
      claims = area_claims;
    }
