-- `finding::hex_value` meets its contract.
use mathlib.Core.Path.{◌∙◌}
use native.Mathlib.Omega.{arith}
use borrow.Author.Tests.{lt-ltb, le-ltb}
use Rattle.month_table.specs.Reading.{digit_value}
use Rattle.month_reading.proofs.finding.hex_value.Goals as goal

pub returns-in-0-to-57 : goal.returns-in-0-to-57
unfolding digit_value
returns-in-0-to-57 c =
    c.digit.ensures ∙ rw (lt-ltb c.args.b 58 (omega arith))

pub returns-in_default : goal.returns-in_default
unfolding digit_value
returns-in_default c =
    c.from.ensures ∙ c.saturating_sub.ensures ∙ rw (le-ltb c.args.b 58 (omega arith))
