-- `text::print_area` meets its contract.
use mathlib.Core.Path.{ap}
use native.Mathlib.Omega.{arith}
use lib.ListN.{length}
use Rattle.print_nodes.proofs.Sizes.{text_fits, promise}
use Rattle.print_nodes.proofs.text.print_area.Goals as goal

pub put_text-requires : goal.put_text-requires
put_text-requires c =
    omega (arith, ap length c.new-text.ensures.held, text_fits c.args.scope c.args.input.now c.args.out.now (omega arith))

pub returns-clause-promise : goal.returns-clause-promise
returns-clause-promise c =
    promise
