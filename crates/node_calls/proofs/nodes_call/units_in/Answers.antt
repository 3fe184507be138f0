-- `nodes_call::units_in` meets its contract.
use mathlib.Core.Path.{◌∙◌}
use Rattle.node_calls.proofs.nodes_call.units_in.Goals as goal

pub returns : goal.returns
returns c =
    c.units_of.ensures ∙ rw c.read_unit.ensures
