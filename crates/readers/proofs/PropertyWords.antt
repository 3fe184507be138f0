-- The properties of a property area as words in a buffer.
use mathlib.Core.Path.{◌≡◌, refl, ap, ◌∙◌}
use mathlib.Core.List.{List, ◌∷◌}
use Prim.Native.Nat.{ℕ, zero, suc, ◌+◌, ◌*◌, ◌-◌, ◌/◌, ◌<◌, ◌≤◌, min}
use native.Mathlib.Omega.{arith}
use lib.ListN.{length}
use lib.Seq.{sets}
use Rattle.words.specs.Reading.{Reading, read, refused}
use Rattle.node_area.specs.Head.{area_size}
use Rattle.property_area.specs.declared.reading.Refusal.{Refusal}
use Rattle.property_area.specs.declared.reading.Located.{Located}
use Rattle.std.specs.Prelude.{Result, Ok, Err}
use Rattle.words.specs.declared.refused.Refused.{Refused}
use Rattle.property_area.specs.Head.{phandle_in, state_in, count_in, first_at}
use Rattle.property_area.specs.Piece.{Piece}
use Rattle.property_area.specs.Reading.{refusal_number, located_at, end_of, judged_at, piece_in, reading, check_of}
use Rattle.property_area.specs.Claims.Cursor.{fine_or, pieces_from}
use Rattle.property_area.proofs.Judging.{fine_told}
use Rattle.property_area.proofs.PropertyLaws.{AllFine, fine_next, whole_read, area_fine, area_pieces}
use Rattle.readers.specs.declared.reading_properties.PropertyReading.{PropertyReading}
use Rattle.readers.specs.Readings.{property_words, properties_words, property_reading, properties_out}
use Rattle.readers.specs.Claims.Readings.{pieces_told, PropertyWordsTell}
use Rattle.readers.proofs.EntryWords as entry

-- ---- a property as words

-- the places and lengths of a fine property are no larger than the area
pub parts_small : (area : List ℕ) (at : ℕ) (l : Located) → length area ≡ area_size → judged_at area at ≡ Ok (located_at area at) → l ≡ located_at area at
    → (l.name ≤ area_size) × (l.name_length ≤ area_size) × (end_of l ≤ area_size)
parts_small area at l size fine e =
    let inside = (fine_told area at (located_at area at) fine).1 in
    rw e (omega arith, omega arith, omega arith)

-- ---- properties stored one after the other

abbrev pub Storing : List ℕ → List ℕ → ℕ → List ℕ → ℕ → ℕ → Type 0
Storing = entry.Storing 5 AllFine properties_words first_at

module _ {area start l : List ℕ} {count at i : ℕ} (t : Storing area start count l at i) where
  module _ (more : i < count) where
    next : (judged_at area at ≡ Ok (located_at area at)) × AllFine (count - (i + 1)) area (end_of (located_at area at))
    next = fine_next (count - (i + 1)) area at (entry.storing_passed t more)

    pub storing_fine : judged_at area at ≡ Ok (located_at area at)
    storing_fine = next.0

    pub storing_next : {m : List ℕ} (r : ℕ) → r ≡ end_of (located_at area at) → m ≡ sets l (5 * i) (property_words (located_at area at)) → Storing area start count m r (i + 1)
    unfolding properties_words
    storing_next r end stored = rw end (entry.storing_next t more (property_words (located_at area at)) (end_of (located_at area at)) refl refl next.1 stored)

  pub storing_end : count ≤ i → l ≡ sets start 0 (properties_words count area first_at)
  unfolding properties_words
  storing_end = entry.storing_end t refl

-- ---- the words tell the pieces

words_tell_from : (n : ℕ) (area : List ℕ) (at : ℕ) → pieces_told area (properties_words (length (pieces_from n area at)) area at) ≡ pieces_from n area at
unfolding pieces_told properties_words pieces_from
words_tell_from zero area at = refl
words_tell_from (suc n) area at = go (judged_at area at) (words_tell_from n area (end_of (located_at area at)))
  where
    go : (j : Result Located Refusal) → pieces_told area (properties_words (length (pieces_from n area (end_of (located_at area at)))) area (end_of (located_at area at))) ≡ pieces_from n area (end_of (located_at area at))
        → let ps = fine_or j (piece_in area (located_at area at) ∷ pieces_from n area (end_of (located_at area at))) in pieces_told area (properties_words (length ps) area at) ≡ ps
    go (Err r) more = refl
    go (Ok l) more = ap (λ (ps : List Piece). piece_in area (located_at area at) ∷ ps) more

words_tell : PropertyWordsTell
words_tell area ps e = rw (← area_pieces area ps e) (words_tell_from (count_in area) area first_at)

-- ---- the reading of an area by its check

-- the first properties of an area that a check passes
pub check_passed : (area : List ℕ) (n k : ℕ) → check_of (reading area) ≡ Ok n → k ≤ n → (length area ≡ area_size) × AllFine k area first_at
check_passed area n k told few = go (reading area) refl told
  where
    go : (r : Reading Piece Refusal) → reading area ≡ r → check_of r ≡ Ok n → (length area ≡ area_size) × AllFine k area first_at
    go (read ps) e h = let all : length ps ≡ n = cc in ((whole_read area ps e).0, area_fine area ps k e (omega arith))
    go (refused f j) e h = (cc, cc)

-- what the reader promises of its answer and its buffer
abbrev Told : List ℕ → List ℕ → PropertyReading → List ℕ → Reading Piece Refusal → Type 0
Told area out answer after r = (answer ≡ property_reading area r) × ((after ≡ properties_out out area r) × PropertyWordsTell)

module _ (area out : List ℕ) where
  pub refusal_told : (w : ℕ) (f : Refused Refusal) → w ≡ refusal_number f.refusal → (r : Reading Piece Refusal) → check_of r ≡ Err f
      → Told area out (record { refusal = w; phandle = 0; state = 0; offset = f.offset; entries = 0 }) out r
  refusal_told w f e (read ps) h = (cc, (cc, words_tell))
  refusal_told w f e (refused g j) h = (rw e (cc), (refl, words_tell))

  pub properties_told : (n k p s : ℕ) (after : List ℕ) → k ≡ min n (length out / 5) → p ≡ phandle_in area → s ≡ state_in area → after ≡ sets out 0 (properties_words k area first_at)
      → (r : Reading Piece Refusal) → check_of r ≡ Ok n → Told area out (record { refusal = 0; phandle = p; state = s; offset = 0; entries = n }) after r
  properties_told n k p s after m phandle state e (read ps) h =
      let all : length ps ≡ n = cc in
      let least : k ≡ min (length out / 5) n = omega arith in
      (rw (all, phandle, state), (e ∙ rw (all, least), words_tell))
  properties_told n k p s after m phandle state e (refused g j) h = (cc, (cc, words_tell))
