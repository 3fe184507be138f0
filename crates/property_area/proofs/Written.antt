-- Laws of the written property area: it reads back.
use mathlib.Core.Path.{◌≡◌, refl, sym, ap, ◌∙◌}
use mathlib.Core.Bool.{Bool, true, false, cond, false≢true}
use mathlib.Core.List.{List, [], ◌∷◌, ◌++◌, append_assoc}
use Prim.Native.Nat.{ℕ, ◌+◌, ◌-◌, ◌≤◌, ◌<◌}
use native.Mathlib.Omega.{arith}
use lib.Dec.{ltb, eqb}
use lib.ListN.{length, drop, length-append, length-drop}
use lib.Seq.{take_at}
use borrow.Author.Tests.{le-ltb, lt-ltb, ne_eqb, eq-eqb}
use Rattle.words.specs.Numbers.{be32, be_bytes, word_bytes, zeros}
use Rattle.words.specs.Reading.{read}
use Rattle.words.proofs.Ends.{string_back, string_ended}
use Rattle.words.proofs.Numbers.{length_be_bytes}
use Rattle.words.proofs.Places.{word_there, behind}
use Rattle.journal.specs.Property.{name_limit}
use Rattle.std.specs.Prelude.{Ok}
use Rattle.property_area.specs.Head.{is_reserved, count_in}
use Rattle.property_area.specs.Piece.{Piece, deletion, descriptor_of, length_of_value, piece_bytes, pieces_bytes}
use Rattle.property_area.specs.Reading.{name_at, value_place, located_at, end_of, judged_at, piece_in, read_from, reading}
use Rattle.property_area.specs.Area.{answer, written}
use Rattle.property_area.specs.Claims.PropertyArea.{SoundPiece, Sound, RoundTrip}

-- ---- descriptors

-- what a descriptor tells of a value of n bytes, of which there may be more
record Tells (d n : ℕ) (deleted more : Bool) : Type 0 where
  word : d < 0x1_0000_0000
  size : length_of_value d ≡ n
  removal : eqb d deletion ≡ deleted
  part : ltb deletion d ≡ more

tells : (n : ℕ) (deleted more : Bool) → n < deletion → (deleted ≡ true → (n ≡ 0) × (more ≡ false)) → (more ≡ true → 1 ≤ n)
    → Tells (cond deleted deletion (cond more (0x1_0000_0000 - n) n)) n deleted more
tells n true true h bare some = absurd (false≢true (sym (bare refl).1))
tells n true false h bare some = record { word = omega arith; size = sym (bare refl).0; removal = refl; part = refl }
tells n false true h bare some =
    let d = 0x1_0000_0000 - n in
    let one = some refl in
    let kept = ne_eqb d deletion (λ e. omega arith) in
    let back : 0x1_0000_0000 - d ≡ n = omega arith in
    record { word = omega arith; size = rw (kept, le-ltb d deletion (omega arith), back); removal = kept; part = lt-ltb deletion d (omega arith) }
tells n false false h bare some =
    let kept = ne_eqb n deletion (λ e. omega arith) in
    record { word = omega arith; size = rw (kept, lt-ltb n deletion h); removal = kept; part = le-ltb deletion n (omega arith) }

-- ---- a property

module _ (area : List ℕ) (at : ℕ) (p : Piece) (r : List ℕ) (full : length area ≡ 4096) (stands : drop at area ≡ piece_bytes p ++ r) (sound : SoundPiece p) where
  abbrev name : List ℕ
  name = p.part.name

  abbrev value : List ℕ
  value = p.part.value

  abbrev d : ℕ
  d = descriptor_of p

  name_first : drop at area ≡ name ++ (0 ∷ (be_bytes 4 d ++ (value ++ r)))
  unfolding piece_bytes
  name_first = stands ∙ append_assoc name _ r ∙ ap (λ (l : List ℕ). name ++ (0 ∷ l)) (append_assoc (be_bytes 4 d) value r)

  nul_next : drop (at + length name) area ≡ (0 ∷ []) ++ (be_bytes 4 d ++ (value ++ r))
  nul_next = behind area at (length name) (at + length name) name _ refl name_first refl

  descriptor_next : drop (at + length name + 1) area ≡ be_bytes 4 d ++ (value ++ r)
  descriptor_next = behind area (at + length name) 1 (at + length name + 1) (0 ∷ []) _ refl nul_next refl

  value_next : drop (at + length name + 1 + 4) area ≡ value ++ r
  value_next = behind area (at + length name + 1) 4 (at + length name + 1 + 4) (be_bytes 4 d) _ refl descriptor_next (length_be_bytes 4 d)

  room : at + length name + 1 + 4 + length value ≤ length area
  room =
      omega (
        arith,
        sym (length-drop at area) ∙ ap length name_first,
        length-append name (0 ∷ (be_bytes 4 d ++ (value ++ r))),
        length-append (be_bytes 4 d) (value ++ r),
        length-append value r,
        length_be_bytes 4 d,
        sound.named,
      )

  told : Tells d (length value) p.part.deleted p.more
  told = tells (length value) p.part.deleted p.more (omega (arith, room)) (λ e. (ap length (sound.bare e), sound.whole e)) sound.some

  name_there : name_at area at ≡ name
  unfolding name_at
  name_there = string_back (drop at area) name _ name_first sound.non_zero

  descriptor_there : be32 area (at + length name + 1) ≡ d
  descriptor_there = word_there area (at + length name + 1) d _ descriptor_next told.word

  end_there : end_of (located_at area at) ≡ at + length name + 1 + 4 + length value
  end_there = rw (name_there, descriptor_there, told.size)

  piece_there : piece_in area (located_at area at) ≡ p
  piece_there =
      rw (
        name_there,
        descriptor_there,
        told.size,
        told.removal,
        told.part,
        value_next,
        name_first,
        take_at name (0 ∷ (be_bytes 4 d ++ (value ++ r))) (length name) refl,
        take_at value r (length value) refl,
      )

  rest_there : drop (end_of (located_at area at)) area ≡ r
  rest_there = behind area (at + length name + 1 + 4) (length value) (end_of (located_at area at)) value r end_there value_next refl

  fine : judged_at area at ≡ Ok (located_at area at)
  unfolding judged_at
  fine =
      let ended = string_ended (drop at area) name _ name_first sound.non_zero name_limit sound.named sound.short in
      let inside = le-ltb (length area) (end_of (located_at area at)) (omega (arith, end_there, room)) in
      rw (ended, inside, le-ltb (length area) (value_place area at) (omega (arith, ap length name_there, room)))

-- ---- the whole area

pieces_read : (ps : List Piece) (area : List ℕ) (at : ℕ) (r : List ℕ) → length area ≡ 4096 → Sound ps → drop at area ≡ pieces_bytes ps ++ r → read_from (length ps) area at ≡ read ps
unfolding read_from pieces_bytes
pieces_read [] area at r full sound e = refl
pieces_read (p ∷ ps) area at r full sound e =
    let stands : drop at area ≡ piece_bytes p ++ (pieces_bytes ps ++ r) = e ∙ append_assoc (piece_bytes p) (pieces_bytes ps) r in
    let rest : read_from (length ps) area (end_of (located_at area at)) ≡ read ps =
    pieces_read ps area _ r full sound.1 (rest_there area at p (pieces_bytes ps ++ r) full stands sound.0) in
    rw (fine area at p (pieces_bytes ps ++ r) full stands sound.0, rest, piece_there area at p (pieces_bytes ps ++ r) full stands sound.0)

-- every property has a byte
pieces_few : (ps : List Piece) → length ps ≤ length (pieces_bytes ps)
unfolding pieces_bytes piece_bytes
pieces_few [] = omega arith
pieces_few (p ∷ ps) =
    let rest : List ℕ = 0 ∷ (be_bytes 4 (descriptor_of p) ++ p.part.value) in
    omega (arith, pieces_few ps, length-append (p.part.name ++ rest) (pieces_bytes ps), length-append p.part.name rest)

module _ (area : List ℕ) (phandle state : ℕ) (ps : List Piece) where
  head_written : is_reserved (written area phandle state ps) ≡ true
  unfolding written answer word_bytes be_bytes is_reserved zeros
  head_written = refl

  count_next : drop 16 (written area phandle state ps) ≡ be_bytes 4 (length ps) ++ (pieces_bytes ps ++ drop (length (answer phandle state ps)) area)
  unfolding written answer word_bytes be_bytes
  count_next = refl

  answer_length : length (answer phandle state ps) ≡ 20 + length (pieces_bytes ps)
  unfolding answer word_bytes be_bytes
  answer_length = omega arith

  written_length : length area ≡ 4096 → length (answer phandle state ps) ≤ 4096 → length (written area phandle state ps) ≡ 4096
  unfolding written
  written_length full fits =
      let bytes = answer phandle state ps in
      omega (arith, length-append bytes (drop (length bytes) area), length-drop (length bytes) area)

pub round_trip : RoundTrip
unfolding reading
round_trip area phandle state ps full sound fits =
    let w = written area phandle state ps in
    let size : length w ≡ 4096 = written_length area phandle state ps full fits in
    let next = count_next area phandle state ps in
    let count : count_in w ≡ length ps = word_there w 16 (length ps) _ next (omega (arith, pieces_few ps, answer_length area phandle state ps)) in
    let first = behind w 16 4 20 (be_bytes 4 (length ps)) _ refl next (length_be_bytes 4 (length ps)) in
    rw (eq-eqb (length w) 4096 size, head_written area phandle state ps, count) (pieces_read ps w 20 _ size sound first)
