use native.Mathlib.Numerals.{towards_suc}
use borrow.Author.Rules.{rules}
use Rattle.words.specs.Numbers.{be}
use Rattle.words.proofs.reading.read_be32.Goals as goal

pub returns : goal.returns
unfolding be
returns c = search (rules, towards_suc)
