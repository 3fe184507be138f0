-- `stride::has_unit` meets its contract.
use Rattle.std.proofs.Common.{◌∙◌, arith, eqb-true}
use Rattle.scanning.proofs.Headers.{unit_here}
use Rattle.scanning.proofs.stride.has_unit.Goals as goal

pub overflow_sub-result : goal.overflow_sub-result
overflow_sub-result c =
    omega arith

pub returns : goal.returns
returns c =
    let bytes = c.shared_slice_known-1.given in
    λ e. unit_here c.args.j.now (λ i. omega (arith, bytes i)) c.args.at c.wrapping_sub_u64-more.result c.requires
    (c.wrapping_sub_u64-more.ensures.value ∙ c.read_le64.ensures) (eqb-true _ 0 e)
