-- `fixed::find_fixed` meets its contract.
use Rattle.std.proofs.Common.{arith}
use Rattle.locations.proofs.NulLaws.{nul_place_lem, nul_inside, part_ended, part_open}
use Rattle.locations.proofs.fixed.find_fixed.Goals as goal

pub overflow_add-end : goal.overflow_add-end
overflow_add-end c =
    omega (arith, nul_inside c.args.fixed.now c.entry_start-start.result _ (omega (arith, c.entry_start-start.ensures)) (nul_place_lem _ _ _ c.until_nul.ensures))

pub returns-then-end-fixed : goal.returns-then-end-fixed
returns-then-end-fixed c =
    part_ended c.args.fixed.now c.args.index _ _ c.entry_start-start.ensures (nul_place_lem _ _ _ c.until_nul.ensures) c.if-end-fixed.true

pub returns : goal.returns
returns c =
    part_open c.args.fixed.now c.args.index _ _ c.entry_start-start.ensures (nul_place_lem _ _ _ c.until_nul.ensures) c.if-end-fixed.false
