-- `text::put_text` meets its contract.
use Rattle.std.proofs.Common.{sym, ◌∙◌}
use Rattle.print_indices.proofs.Sizes.{refused_text}
use Rattle.print_indices.proofs.text.put_text.Goals as goal

pub push_refusal-requires : goal.push_refusal-requires
push_refusal-requires c =
    let found = sym c.check_area.ensures.value ∙ c.in-Err.is in
    rw (c.from-in-Err.ensures, c.from.ensures) (rw (refused_text _ _ found) at c.requires)

pub put_area-requires : goal.put_area-requires
put_area-requires c =
    record { fits = c.requires; counted = sym c.check_area.ensures.value ∙ c.in-Ok.is }

pub returns-in-Err : goal.returns-in-Err
returns-in-Err c =
    let found = sym c.check_area.ensures.value ∙ c.in-Err.is in
    rw (refused_text _ _ found) (rw (c.from-in-Err.ensures, c.from.ensures) at c.push_refusal.ensures)
