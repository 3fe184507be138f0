-- The edition as it crosses the C boundary (document 02, M-105).
use Rattle.std.specs.Prelude.{ℕ, Option, None, Some}
use Rattle.inventory.specs.declared.edition.Edition.{Edition}
use Rattle.inventory.specs.Edition.{edit_of}
use Rattle.draugsten.specs.declared.reading_record.FlatEdit.{FlatEdit}

-- whether an edit is taken, and the edition afterwards
abbrev pub flat_edit : ℕ → Option Edition → FlatEdit
flat_edit edition (Some e) = record { taken = 1; edition = e.0 }
flat_edit edition None = record { taken = 0; edition = edition }

unfoldable pub flat_edit_of : ℕ → FlatEdit
flat_edit_of edition = flat_edit edition (edit_of (record { 0 = edition }))
