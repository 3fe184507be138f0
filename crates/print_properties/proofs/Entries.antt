-- Laws of the text of one property.
use mathlib.Core.Path.{◌≡◌, sym, subst}
use mathlib.Core.Bool.{cond}
use mathlib.Core.List.{List, ◌++◌, append-nil}
use Prim.Native.Nat.{ℕ, ◌+◌, ◌-◌, ◌*◌, ◌<◌, ◌≤◌}
use native.Mathlib.Omega.{arith}
use lib.Dec.{eqb}
use lib.ListN.{length, take, drop, length-append}
use borrow.Author.Tests.{eq-eqb, ne_eqb, lt-ltb, le-ltb}
use Rattle.words.proofs.Choice.{choose}
use Rattle.property_area.specs.Piece.{Piece, deletion}
use Rattle.property_area.specs.declared.reading.Located.{Located}
use Rattle.property_area.specs.Reading.{piece_in}
use Rattle.printing.specs.declared.put.Text.{Text}
use Rattle.printing.specs.Put.{Put}
use Rattle.printing.specs.Text.{newline, space, delete-, numbered, each, hex_byte, named}
use Rattle.printing.proofs.Sizes.{length_hex_digits, length-numbered}
use Rattle.printing.proofs.Bytes.{length_each, length_named}
use Rattle.print_properties.specs.Text.{property-, part-, bytes_text, value_text, entry, line}
use Rattle.print_properties.specs.Inner.Put.{piece_of}

-- ---- a value

module _ (value : List ℕ) where
  pub value_none : length value ≡ 0 → value_text value ≡ numbered space (length value)
  value_none h = rw (eq-eqb (length value) 0 h, append-nil (numbered space (length value)))

  pub value_some : (length value ≡ 0 → ⊥) → value_text value ≡ numbered space (length value) ++ (space ++ each hex_byte value)
  value_some h = rw (ne_eqb (length value) 0 h)

-- ---- a property by its descriptor

module _ (d : ℕ) (name value : List ℕ) where
  pub entry_deleted : d ≡ deletion → entry (piece_of d name value) ≡ named delete- name
  entry_deleted h = rw (eq-eqb d deletion h)

  pub entry_part : (d ≡ deletion → ⊥) → deletion < d → entry (piece_of d name value) ≡ named part- name ++ value_text value
  entry_part h more = rw (ne_eqb d deletion h, lt-ltb deletion d more)

  pub entry_whole : (d ≡ deletion → ⊥) → d ≤ deletion → entry (piece_of d name value) ≡ named property- name ++ value_text value
  entry_whole h less = rw (ne_eqb d deletion h, le-ltb deletion d less)

-- ---- a property by its place in an area: a part from a to a + n has n bytes

module _ (area : List ℕ) (l : Located) where
  abbrev cut_out : Piece
  cut_out =
      let name = take (l.name + l.name_length - l.name) (drop l.name area) in
      let value = take (l.value + l.value_length - l.value) (drop l.value area) in
      piece_of l.descriptor name value

  same : cut_out ≡ piece_in area l
  same =
      let n : l.name + l.name_length - l.name ≡ l.name_length = omega arith in
      let v : l.value + l.value_length - l.value ≡ l.value_length = omega arith in
      rw (n, v)

  pub located_fits : {room : ℕ} (at : ℕ) → at + length (entry (piece_in area l)) ≤ room → at + length (entry cut_out) ≤ room
  located_fits {room} at h = subst (λ (p : Piece). at + length (entry p) ≤ room) (sym same) h

  pub located_put : {before after : Text} → Put before after (entry cut_out) → Put before after (entry (piece_in area l))
  located_put {before} {after} h = subst (λ (p : Piece). Put before after (entry p)) same h

-- ---- how long a line is

length_bytes : (value : List ℕ) → length (bytes_text value) ≤ 1 + 4 * length value
length_bytes value =
    choose (eqb (length value) 0) (λ (s : List ℕ). length s ≤ 1 + 4 * length value) (λ _. omega arith)
    (λ _. omega (arith, length_each hex_byte (λ b. omega (arith, length_hex_digits 2 b)) value))

length_value : (value : List ℕ) → length (value_text value) ≤ 22 + 4 * length value
length_value value = omega (arith, length-append (numbered space (length value)) (bytes_text value), length-numbered space (length value), length_bytes value)

length_entry : (p : Piece) → length (entry p) ≤ 31 + 4 * length p.part.name + 4 * length p.part.value
length_entry p =
    let n = p.part.name in
    let v = p.part.value in
    let word = cond p.more part- property- in
    let short : length word ≤ 9 = choose p.more (λ (w : List ℕ). length w ≤ 9) (λ _. omega arith) (λ _. omega arith) in
    choose p.part.deleted (λ (s : List ℕ). length s ≤ 31 + 4 * length n + 4 * length v)
    (λ _. omega (arith, length_named delete- n))
    (λ _. omega (arith, length-append (named word n) (value_text v), length_named word n, length_value v, short))

-- 32 bytes, and four for each byte of the name and the value
pub length_line : (p : Piece) → length (line p) ≤ 32 + 4 * length p.part.name + 4 * length p.part.value
unfolding line
length_line p = omega (arith, length-append (entry p) newline, length_entry p)
