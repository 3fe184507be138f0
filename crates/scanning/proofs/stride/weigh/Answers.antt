-- `stride::weigh` meets its contract.
use Rattle.std.proofs.Common.{◌≡◌, ◌*◌, ◌≤◌, drop, ap, ◌∙◌, arith}
use Rattle.records.specs.Records.{first_record}
use Rattle.journal.specs.declared.judging.Shape.{Shape}
use Rattle.journal.specs.Journal.{entry_of}
use Rattle.journal.specs.Reportable.{asks}
use Rattle.journal.specs.Terms.{asked}
use Rattle.scanning.proofs.Weighing.{shape_bounds}
use Rattle.scanning.proofs.WeightLaws.{times_bit, times_bit_le}
use Rattle.scanning.proofs.stride.weigh.Goals as goal

pub weight_of-weight-requires : goal.weight_of-weight-requires
weight_of-weight-requires c =
    shape_bounds c.args.j.now c.args.at c.requires.0 c.args.shape c.requires.1

pub asked_here-requires : goal.asked_here-requires
asked_here-requires c =
    (c.requires.0, ap (λ (s : Shape). s.kind) c.requires.1)

pub overflow_mul-result : goal.overflow_mul-result
overflow_mul-result c =
    let smaller : c.weight_of-weight.result * c.asked_here.result ≤ c.weight_of-weight.result =
    rw c.asked_here.ensures (times_bit_le c.weight_of-weight.result
    (asks c.args.units (entry_of (first_record (drop c.args.at c.args.j.now))))) in
    omega (arith, smaller, c.weight_of-weight.type_inv)

pub returns : goal.returns
returns c =
    let product : c.weight_of-weight.result * c.asked_here.result ≡ asked c.args.units c.args.j.now c.args.at c.weight_of-weight.result =
    rw c.asked_here.ensures (times_bit c.weight_of-weight.result (asks c.args.units (entry_of (first_record (drop c.args.at c.args.j.now))))) in
    product ∙ rw c.weight_of-weight.ensures
