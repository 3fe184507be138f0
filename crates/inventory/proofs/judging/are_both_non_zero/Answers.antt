-- `judging::are_both_non_zero` meets its contract.
use Rattle.std.proofs.Common.{◌-◌, ◌∙◌, length, sym, arith}
use Rattle.inventory.proofs.Codes.{non_zero_parts}
use Rattle.inventory.proofs.judging.are_both_non_zero.Goals as goal

pub returns-then-are_non_zero : goal.returns-then-are_non_zero
returns-then-are_non_zero c =
    let s = c.args.s.now in
    let parts = non_zero_parts s c.args.first (length s - c.args.last) (omega arith) in
    c.are_non_zero-then-are_non_zero.ensures ∙ sym (parts ∙ rw (← c.are_non_zero.ensures, c.if-are_non_zero.true))

pub returns-else-are_non_zero : goal.returns-else-are_non_zero
returns-else-are_non_zero c =
    let s = c.args.s.now in
    let parts = non_zero_parts s c.args.first (length s - c.args.last) (omega arith) in
    sym (parts ∙ rw (← c.are_non_zero.ensures, c.if-are_non_zero.false))
