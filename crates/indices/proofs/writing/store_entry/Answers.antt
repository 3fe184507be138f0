-- `writing::store_entry` meets its contract.
use mathlib.Core.Path.{◌∙◌}
use native.Mathlib.Omega.{arith}
use Rattle.inventory.specs.Inner.Located.{entry_in}
use Rattle.inventory.proofs.Codes.{code_in_word}
use Rattle.inventory.proofs.LocatedLaws.{code_sized}
use Rattle.words.proofs.Ranges.{range_from}
use Rattle.indices.proofs.Writes.{entry_stored}
use Rattle.indices.proofs.writing.store_entry.Goals as goal

pub overflow_cast-field : goal.overflow_cast-field
overflow_cast-field c =
    omega (arith, code_in_word)

pub returns : goal.returns
returns c =
    let entry = c.args.entry in
    let sized = code_sized c.args.inventory.now entry c.requires.2 in
    c.store_zeros.ensures
    ∙ rw (c.store.ensures, c.store_be32-2.ensures, c.store_be32.ensures, c.filled_size-field.ensures, range_from c.args.inventory.now entry.start entry.length, sized)
    (entry_stored c.args.area.now c.args.to entry.length (entry_in c.args.inventory.now entry) sized)
