use borrow.Author.Rules.{rules}
use mathlib.Core.Path.{◌∙◌}
use Prim.Native.Nat.{◌+◌}
use lib.ListN.{get_or}
use Rattle.words.proofs.Ranges.{range_is}
use Rattle.month_table.proofs.Words.{starts, word_text, word_bounds, word_cut}
use Rattle.month_table.proofs.putting.word.Goals as goal

pub returns : goal.returns
returns c =
    range_is word_text (get_or starts c.args.k 0) (get_or starts (c.args.k + 1) 0) ∙ word_cut c.args.k c.requires

pub slice_bounds-result-count : goal.slice_bounds-result-count
slice_bounds-result-count c = (word_bounds c.args.k c.requires).0

pub slice_bounds-result-start : goal.slice_bounds-result-start
slice_bounds-result-start c = let b = word_bounds c.args.k c.requires in search rules

pub slice_bounds-result-end : goal.slice_bounds-result-end
slice_bounds-result-end c = let b = word_bounds c.args.k c.requires in search rules
