-- `lookups::bounds_of` meets its contract.
use mathlib.Core.Path.{ap, sym, ◌∙◌}
use borrow.Author.Rules.{rules}
use Rattle.locations.specs.Inner.Terms.{bounds_of}
use Rattle.locations.proofs.lookups.bounds_of.Goals as goal

pub overflow_add-result : goal.overflow_add-result
overflow_add-result c =
    let fits = rw c.in-InArea.is at c.requires in search rules

pub overflow_add-result-in-InFixed : goal.overflow_add-result-in-InFixed
overflow_add-result-in-InFixed c =
    let fits = rw c.in-InFixed.is at c.requires in search rules

pub returns-in-Refused : goal.returns-in-Refused
returns-in-Refused c =
    c.no_bounds.ensures ∙ ap bounds_of (sym c.in-Refused.is)

pub returns-in-NotFound : goal.returns-in-NotFound
returns-in-NotFound c =
    c.no_bounds-in-NotFound.ensures ∙ ap bounds_of (sym c.in-NotFound.is)

pub returns-in-InArea : goal.returns-in-InArea
returns-in-InArea c =
    ap bounds_of (sym c.in-InArea.is)

pub returns-in-InFixed : goal.returns-in-InFixed
returns-in-InFixed c =
    ap bounds_of (sym c.in-InFixed.is)
