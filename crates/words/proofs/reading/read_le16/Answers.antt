use native.Mathlib.Numerals.{towards_suc}
use borrow.Author.Rules.{rules}
use Rattle.words.specs.Numbers.{le}
use Rattle.words.proofs.reading.read_le16.Goals as goal

pub returns : goal.returns
unfolding le
returns c = search (rules, towards_suc)
