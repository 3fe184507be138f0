-- `Text::push_name` meets its contract.
use lib.ListN.{drop}
use Rattle.printing.proofs.Puts.{Ahead}
use Rattle.printing.specs.Text.{each, name_byte}
use Rattle.printing.proofs.put.Text.push_name.Given as goal

abbrev pub invariant-loop-b : goal.invariant-loop-b
invariant-loop-b l = Ahead (each name_byte l.name) l.initial.self l.self (each name_byte (drop l.b-index l.name))
