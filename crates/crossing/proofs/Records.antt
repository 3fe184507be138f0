-- The reading record over the C boundary and back.
use mathlib.Core.Path.{refl}
use Rattle.crossing.specs.Claims.Record.{ReadingFaithful}

pub reading_faithful : ReadingFaithful
reading_faithful f = refl
