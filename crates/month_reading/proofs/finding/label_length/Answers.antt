-- `finding::label_length` meets its contract.
use mathlib.Core.Path.{ap}
use native.Mathlib.Omega.{arith}
use lib.ListN.{length}
use Rattle.month_table.proofs.Sizes.{label_fits}
use Rattle.month_reading.proofs.finding.label_length.Goals as goal

pub put_label-requires : goal.put_label-requires
put_label-requires c =
    record { p_bound = c.requires; fits = omega (arith, ap length c.new-label.ensures.held, label_fits c.args.p c.requires) }

pub returns : goal.returns
returns c =
    omega (arith, c.put_label.ensures.place)
