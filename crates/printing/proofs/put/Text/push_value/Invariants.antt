-- `Text::push_value` meets its contract.
use lib.ListN.{drop}
use Rattle.printing.proofs.Puts.{Ahead}
use Rattle.printing.specs.Text.{each, hex_byte}
use Rattle.printing.proofs.put.Text.push_value.Given as goal

abbrev pub invariant-loop-b : goal.invariant-loop-b
invariant-loop-b l = Ahead (each hex_byte l.value) l.initial.self l.self (each hex_byte (drop l.b-index l.value))
