-- Laws of the written index area: it reads back.
use mathlib.Core.Path.{◌≡◌, refl, sym, ap, ◌∙◌}
use mathlib.Core.Bool.{true, false}
use mathlib.Core.List.{List, [], ◌∷◌, ◌++◌, append_assoc}
use Prim.Native.Nat.{ℕ, zero, suc, ◌+◌, ◌-◌, ◌%◌, ◌≤◌, ◌<◌}
use native.Mathlib.Omega.{arith}
use lib.Dec.{leb, ltb, eqb}
use lib.ListN.{length, take, drop, replicate, length-append, length-replicate, length-drop}
use lib.Seq.{drop_at, take_at}
use borrow.Author.Tests.{le-leb, le-ltb, leb-true, eq-eqb}
use Rattle.words.specs.Numbers.{be32, be_bytes, zeros}
use Rattle.words.specs.Nul.{until_nul}
use Rattle.words.proofs.Choice.{choose, decide, and_left, and_right}
use Rattle.words.proofs.Numbers.{length_be_bytes}
use Rattle.words.proofs.Places.{word_there, behind}
use Rattle.words.proofs.Zeros.{zeros_zero}
use Rattle.inventory.specs.Inventory.{all_non_zero, good_code, code_limit}
use Rattle.inventory.specs.Listing.{Entry, listed}
use Rattle.std.specs.Prelude.{Ok}
use Rattle.indices.specs.Area.{filled, entry_size, code_field, entry_bytes, entries_bytes, fitting, run, answer, written, field_limit, entry_limit}
use Rattle.words.specs.Reading.{read}
use Rattle.indices.specs.Reading.{length_at, field_at, good_length, good_field, fault_at, entry_at, read_from, reading}
use Rattle.indices.specs.Claims.Indices.{RoundTrip, ReadsBack, HoldsDue}
use Rattle.inventory.specs.Claims.Sound.{Sound}
use Rattle.inventory.proofs.Codes.{code_in_word}
use Rattle.inventory.proofs.Listed.{listed_sound, listed_few}

-- ---- the field of a code

code_back : (code : List ℕ) (n : ℕ) → all_non_zero code ≡ true → 1 ≤ n → until_nul (code ++ replicate n 0) ≡ code
unfolding until_nul all_non_zero
code_back [] zero h p = absurd (omega arith)
code_back [] (suc n) h p = refl
code_back (b ∷ bs) n h p = decide (eqb b 0) (λ t. let e = rw t at h in cc) (λ t. rw t (ap (λ (l : List ℕ). b ∷ l) (code_back bs n (rw t at h) p)))

module _ (code : List ℕ) (good : good_code code ≡ true) where
  some : 1 ≤ length code
  unfolding good_code
  some = leb-true 1 (length code) (and_left _ _ good)

  pub few : length code ≤ code_limit
  unfolding good_code
  few = leb-true (length code) code_limit (and_left _ _ (and_right (leb 1 (length code)) _ good))

  whole_code : all_non_zero code ≡ true
  unfolding good_code
  whole_code = and_right (leb (length code) code_limit) _ (and_right (leb 1 (length code)) _ good)

  field_length : length (code_field code) ≡ filled (length code)
  unfolding code_field
  field_length = length-append code (replicate (filled (length code) - length code) 0) ∙ rw (length-replicate {A = ℕ} (filled (length code) - length code) 0) (omega arith)

  field_code : until_nul (code_field code) ≡ code
  unfolding code_field
  field_code = code_back code (filled (length code) - length code) whole_code (omega arith)

  length_good : good_length (filled (length code)) ≡ true
  unfolding good_length
  length_good = rw (le-leb 1 (filled (length code)) (omega arith), le-leb (filled (length code)) field_limit (omega (arith, few)), eq-eqb (filled (length code) % 4) 0 (omega arith))

  nuls : zeros (drop (length code) (code_field code)) ≡ true
  unfolding code_field
  nuls = rw (drop_at code (replicate (filled (length code) - length code) 0) (length code) refl) (zeros_zero (filled (length code) - length code))

  field_good : good_field (code_field code) ≡ true
  unfolding good_field
  field_good = rw (field_code, field_length, nuls, le-leb 1 (length code) some, le-leb (length code + 1) (filled (length code)) (omega arith), le-leb (filled (length code)) (length code + 4) (omega arith))

-- ---- a set

module _ (area : List ℕ) (at : ℕ) (e : Entry) (r : List ℕ) (stands : drop at area ≡ entry_bytes e ++ r) (small : e.index < 0x1_0000_0000) (good : good_code e.code ≡ true) where
  size : filled (length e.code) < 0x1_0000_0000
  size = omega (arith, few e.code good, code_in_word)

  index-first : drop at area ≡ be_bytes 4 e.index ++ (be_bytes 4 (filled (length e.code)) ++ (code_field e.code ++ r))
  unfolding entry_bytes
  index-first = stands ∙ append_assoc (be_bytes 4 e.index) _ r ∙ ap (λ (l : List ℕ). be_bytes 4 e.index ++ l) (append_assoc (be_bytes 4 (filled (length e.code))) (code_field e.code) r)

  length_next : drop (at + 4) area ≡ be_bytes 4 (filled (length e.code)) ++ (code_field e.code ++ r)
  length_next = behind area at 4 (at + 4) (be_bytes 4 e.index) _ refl index-first (length_be_bytes 4 e.index)

  field_next : drop (at + 8) area ≡ code_field e.code ++ r
  field_next = behind area (at + 4) 4 (at + 8) (be_bytes 4 (filled (length e.code))) _ (omega arith) length_next (length_be_bytes 4 (filled (length e.code)))

  length_there : length_at area at ≡ filled (length e.code)
  unfolding length_at
  length_there = word_there area (at + 4) (filled (length e.code)) _ length_next size

  field-there : field_at area at ≡ code_field e.code
  unfolding field_at
  field-there = rw (length_there, field_next) (take_at (code_field e.code) r (filled (length e.code)) (field_length e.code good))

  entry_there : entry_at area at ≡ e
  entry_there = rw (word_there area at e.index _ index-first small, field-there, field_code e.code good)

  rest_there : drop (at + (8 + length_at area at)) area ≡ r
  rest_there = behind area (at + 8) (filled (length e.code)) (at + (8 + length_at area at)) (code_field e.code) r (omega (arith, length_there)) field_next (field_length e.code good)

  room : 8 + filled (length e.code) ≤ length area - at
  room = omega (arith, sym (length-drop at area) ∙ ap length index-first, length-append (be_bytes 4 e.index) (be_bytes 4 (filled (length e.code)) ++ (code_field e.code ++ r)), length-append (be_bytes 4 (filled (length e.code))) (code_field e.code ++ r), length-append (code_field e.code) r, length_be_bytes 4 e.index, length_be_bytes 4 (filled (length e.code)), field_length e.code good)

  fine : fault_at area at ≡ Ok tt
  unfolding fault_at
  fine = rw (length_there, field-there, length_good e.code good, field_good e.code good, le-ltb (length area - at) 8 (omega (arith, room)), le-ltb (length area - at) (8 + filled (length e.code)) room)

-- ---- the whole area

entries_read : (es : List Entry) (area : List ℕ) (at : ℕ) (r : List ℕ) → Sound es → drop at area ≡ entries_bytes es ++ r → read_from (length es) area at ≡ read es
unfolding read_from entries_bytes Sound
entries_read [] area at r h e = refl
entries_read (x ∷ es) area at r h e =
    let stands : drop at area ≡ entry_bytes x ++ (entries_bytes es ++ r) = e ∙ append_assoc (entry_bytes x) (entries_bytes es) r in
    let rest : read_from (length es) area (at + (8 + length_at area at)) ≡ read es = entries_read es area _ r h.2 (rest_there area at x (entries_bytes es ++ r) stands h.0 h.1) in
    rw (fine area at x (entries_bytes es ++ r) stands h.0 h.1, entry_there area at x (entries_bytes es ++ r) stands h.0 h.1, rest)

pub round_trip : RoundTrip
unfolding reading written answer
round_trip area es few-entries h =
    let stands : drop 0 (written area es) ≡ be_bytes 4 (length es) ++ (entries_bytes es ++ drop (length (answer es)) area) = append_assoc (be_bytes 4 (length es)) (entries_bytes es) _ in
    let count : be32 (written area es) 0 ≡ length es = word_there (written area es) 0 (length es) _ stands few-entries in
    let long : ltb (length (written area es)) 4 ≡ false = le-ltb (length (written area es)) 4 (omega (arith, ap length stands, length-append (be_bytes 4 (length es)) (entries_bytes es ++ drop (length (answer es)) area), length_be_bytes 4 (length es))) in
    rw (long, count) (entries_read es (written area es) 4 _ h (behind (written area es) 0 4 4 (be_bytes 4 (length es)) (entries_bytes es ++ drop (length (answer es)) area) refl stands (length_be_bytes 4 (length es))))

-- ---- runs

sound_drop : (n : ℕ) (es : List Entry) → Sound es → Sound (drop n es)
unfolding Sound
sound_drop zero es h = h
sound_drop (suc n) [] h = h
sound_drop (suc n) (e ∷ es) h = sound_drop n es h.2

sound_fitting : (room : ℕ) (es : List Entry) → Sound es → Sound (fitting room es)
unfolding fitting Sound
sound_fitting room [] h = h
sound_fitting room (e ∷ es) h =
    choose (leb (entry_size (length e.code)) room) Sound {x = e ∷ fitting (room - entry_size (length e.code)) es} {y = []}
    (λ _. (h.0, h.1, sound_fitting (room - entry_size (length e.code)) es h.2))
    (λ _. tt)

pub fitting_few : (room : ℕ) (es : List Entry) → length (fitting room es) ≤ length es
unfolding fitting
fitting_few room [] = omega arith
fitting_few room (e ∷ es) =
    choose (leb (entry_size (length e.code)) room) (λ l. length l ≤ suc (length es)) {x = e ∷ fitting (room - entry_size (length e.code)) es} {y = []}
    (λ _. omega (arith, fitting_few (room - entry_size (length e.code)) es))
    (λ _. omega arith)

-- a run is the front of the list that it is cut from
pub fitting_front : (room : ℕ) (es : List Entry) → fitting room es ≡ take (length (fitting room es)) es
unfolding fitting
fitting_front room [] = refl
fitting_front room (e ∷ es) =
    choose (leb (entry_size (length e.code)) room) (λ l. l ≡ take (length l) (e ∷ es)) {x = e ∷ fitting (room - entry_size (length e.code)) es} {y = []}
    (λ _. ap (λ (l : List Entry). e ∷ l) (fitting_front (room - entry_size (length e.code)) es))
    (λ _. refl)

-- ---- the runs of an inventory

pub reads_back : ReadsBack
unfolding run
reads_back area inventory flag type size number bytes formed =
    let es : List Entry = listed flag type inventory in
    let rest : List Entry = drop (number - 1) es in
    round_trip area (fitting (size - 4) rest)
    (omega (arith, fitting_few (size - 4) rest, length-drop (number - 1) es, listed_few flag type inventory formed))
    (sound_fitting (size - 4) rest (sound_drop (number - 1) es (listed_sound flag type inventory formed bytes)))

-- ---- an area holds the entry due

first_fits : (room : ℕ) (es : List Entry) → Sound es → 1 ≤ length es → entry_limit ≤ room → 1 ≤ length (fitting room es)
unfolding fitting Sound
first_fits room [] h p q = absurd (omega arith)
first_fits room (e ∷ es) h p q = rw (le-leb (entry_size (length e.code)) room (omega (arith, few e.code h.1))) (omega arith)

pub holds_due : HoldsDue
unfolding run
holds_due size number es h p q = first_fits (size - 4) (drop (number - 1) es) (sound_drop (number - 1) es h) (omega (arith, length-drop (number - 1) es)) (omega arith)
