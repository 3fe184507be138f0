-- What is claimed of the definitions of `Claims`.
use Rattle.std.specs.Prelude.{ℕ, ◌≤◌, ◌≡◌, true, false, List, [], ◌∷◌, length}
use Rattle.words.specs.Nul.{until_nul}
use Rattle.words.specs.Reading.{read}
use Rattle.property_area.specs.Piece.{Piece}
use Rattle.property_area.specs.Reading.{reading}
use Rattle.property_area.specs.Area.{answer, written}

-- a piece that an area can hold: "names have 1 to 31 non-zero bytes"; a deletion has no value, and a part of a value has a byte
pub record SoundPiece (p : Piece) : Type 0 where
  pub named : 1 ≤ length p.part.name
  pub short : length p.part.name ≤ 31
  pub non_zero : until_nul p.part.name ≡ p.part.name
  pub bare : p.part.deleted ≡ true → p.part.value ≡ []
  pub whole : p.part.deleted ≡ true → p.more ≡ false
  pub some : p.more ≡ true → 1 ≤ length p.part.value

abbrev pub Sound : List Piece → Type 0
Sound [] = Unit {0}
Sound (p ∷ ps) = SoundPiece p × Sound ps

-- Reading what was written gives back the same properties.
abbrev pub RoundTrip : Type 0
RoundTrip = (area : List ℕ) (phandle state : ℕ) (ps : List Piece) → length area ≡ 4096 → Sound ps → length (answer phandle state ps) ≤ 4096
    → reading (written area phandle state ps) ≡ read ps
