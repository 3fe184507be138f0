-- The edition over the C boundary.
use mathlib.Core.Path.{refl}
use Rattle.inventory.proofs.Editions.{edition_rises}
use Rattle.draugsten.specs.Record.{flat_edit_of}
use Rattle.draugsten.specs.Claims.Record.{EditTold, ReadingCrosses}

pub edit_told : EditTold
unfolding flat_edit_of
edit_told = record { rises = λ edition h. rw (edition_rises.rises (record { 0 = edition }) h); top = rw (edition_rises.top (record { 0 = 0xffff_ffff }) refl) }

pub reading_crosses : ReadingCrosses
reading_crosses flag type number edition = (refl, refl)
