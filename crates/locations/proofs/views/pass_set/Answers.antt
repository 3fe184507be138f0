-- `views::pass_set` meets its contract.
use borrow.Author.Rules.{rules}
use Rattle.indices.specs.Reading.{length_at}
use Rattle.indices.proofs.IndexLaws.{fine_inside}
use Rattle.locations.proofs.views.pass_set.Goals as goal

pub overflow_add-at : goal.overflow_add-at
overflow_add-at c =
    search (rules, fine_inside _ _ c.requires.0)

pub read_be32-n-requires : goal.read_be32-n-requires
read_be32-n-requires c =
    search (rules, fine_inside _ _ c.requires.0)

pub read_be32-requires : goal.read_be32-requires
read_be32-requires c =
    search (rules, fine_inside _ _ c.requires.0)

pub overflow_add-result-2 : goal.overflow_add-result-2
unfolding length_at
overflow_add-result-2 c =
    search (rules, fine_inside _ _ c.requires.0)

pub returns : goal.returns
unfolding length_at
returns c =
    rw (c.part_at.ensures, c.read_be32.ensures, c.read_be32-n.ensures)
