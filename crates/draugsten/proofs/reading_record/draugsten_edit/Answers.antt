-- `reading_record::draugsten_edit` meets its contract.
use Rattle.std.proofs.Common.{refl, sym, ◌∙◌}
use Rattle.draugsten.specs.Record.{flat_edit_of}
use Rattle.draugsten.proofs.Promises.{edit_promise}
use Rattle.draugsten.proofs.reading_record.draugsten_edit.Goals as goal

pub returns-in-Some : goal.returns-in-Some
unfolding flat_edit_of
returns-in-Some c =
    rw (sym c.edit.ensures.value ∙ c.in-Some.is) (record { value = refl; promise = edit_promise })

pub returns-in-None : goal.returns-in-None
unfolding flat_edit_of
returns-in-None c =
    rw (sym c.edit.ensures.value ∙ c.in-None.is) (record { value = refl; promise = edit_promise })
