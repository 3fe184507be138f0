-- The text of an input, from what a check gives of it, that it fits its buffer, and the promise of the program.
use mathlib.Core.Path.{◌≡◌, refl, sym, ap, ◌∙◌}
use mathlib.Core.List.{List, ◌∷◌, ◌++◌}
use Prim.Native.Nat.{ℕ, zero, suc, ◌+◌, ◌*◌, ◌≤◌}
use native.Mathlib.Omega.{arith}
use lib.Dec.{eqb}
use lib.ListN.{length, take, drop, length-append, length-take}
use lib.Seq.{sets, length-take-le}
use borrow.Author.Tests.{eqb-true, ne_eqb, le-ltb}
use Rattle.words.proofs.Choice.{decide}
use Rattle.words.specs.Reading.{Reading, read, refused}
use Rattle.node_area.specs.Head.{area_size}
use Rattle.property_area.specs.declared.reading.Refusal.{Refusal}
use Rattle.property_area.specs.declared.reading.Located.{Located}
use Rattle.std.specs.Prelude.{Result, Ok, Err}
use Rattle.words.specs.declared.refused.Refused.{Refused}
use Rattle.property_area.specs.Head.{phandle_in, state_in, count_in, first_at}
use Rattle.property_area.specs.Piece.{Piece}
use Rattle.property_area.specs.Reading.{end_of, located_at, judged_at, piece_in, reading, refusal_number, check_of}
use Rattle.property_area.specs.Claims.Cursor.{fine_or, pieces_from, remaining, start_of}
use Rattle.property_area.proofs.Judging.{fine_told}
use Rattle.property_area.proofs.PropertyLaws.{properties_in_order}
use Rattle.printing.specs.Text.{newline, state-, end-, decimal, digits, numbered, ended, operand, refusal_line}
use Rattle.words.proofs.Claims.{numbers_exactly, nul_exactly}
use Rattle.property_area.proofs.ReaderClaims.{property_reader_exactly}
use Rattle.printing.proofs.Digits.{digits_exactly}
use Rattle.printing.proofs.NameLaws.{names_exactly}
use Rattle.printing.proofs.Sizes.{length_ended, length_operand, length_refusal, inside_buffer}
use Rattle.print_properties.specs.Text.{phandle-, line, lines, phandle_line, text_of, text}
use Rattle.print_properties.specs.Claims.PrintProperties.{TextExactly, LongInput, PrintPropertiesPromise}
use Rattle.print_properties.proofs.Entries.{value_some, length_line}

-- ---- each byte of an area gives at most seven bytes of lines

length-lines : (n : ℕ) (area : List ℕ) (at : ℕ) → at ≤ length area → length (lines (pieces_from n area at)) + 7 * at ≤ 7 * length area
unfolding lines pieces_from
length-lines zero area at h = omega arith
length-lines (suc n) area at h = go (length-lines n area (end_of (located_at area at))) (judged_at area at) refl
  where
    go : (end_of (located_at area at) ≤ length area → length (lines (pieces_from n area (end_of (located_at area at)))) + 7 * end_of (located_at area at) ≤ 7 * length area)
        → (j : Result Located Refusal)
        → judged_at area at ≡ j
        → length (lines (fine_or j (piece_in area (located_at area at) ∷ pieces_from n area (end_of (located_at area at))))) + 7 * at ≤ 7 * length area
    go more (Err r) e = omega arith
    go more (Ok l) e =
        let m = located_at area at in
        let p = piece_in area m in
        let fine = fine_told area at l e in
        let inside : end_of m ≤ length area = rw fine.0 at fine.1 in
        let rest = pieces_from n area (end_of m) in
        omega (
          arith,
          length-append (line p) (lines rest),
          length_line p,
          length-take m.name_length (drop at area),
          length-take m.value_length (drop m.value area),
          more inside,
        )

-- ---- the text, from what a check gives of an area

module _ (input : List ℕ) where
  -- an area that is read has its size
  sized : (ps : List Piece) → reading input ≡ read ps → length input ≡ area_size
  unfolding reading
  sized ps e = decide (eqb (length input) area_size) (eqb-true (length input) area_size) (λ t. let h = rw t at e in cc)

  -- the text of an area with n properties
  pub area_text : (n phandle state : ℕ) → check_of (reading input) ≡ Ok n → phandle ≡ phandle_in input → state ≡ state_in input
      → (length input ≡ area_size) × (text input ≡ phandle_line phandle ++ (ended state- state ++ (lines (remaining input (start_of input)) ++ ended end- n)))
  unfolding text
  area_text n phandle state e v w = go (reading input) refl e
    where
      go : (r : Reading Piece Refusal) → reading input ≡ r → check_of r ≡ Ok n
          → (length input ≡ area_size)
          × (text_of (phandle_in input) (state_in input) (reading input) ≡ phandle_line phandle ++ (ended state- state ++ (lines (remaining input (start_of input)) ++ ended end- n)))
      go (read ps) g h = let same : length ps ≡ n = cc in (sized ps g, rw (g, properties_in_order input ps g, same, v, w))
      go (refused r at) g h = (cc, cc)

  pub refused_text : (r : Refused Refusal) → check_of (reading input) ≡ Err r → text input ≡ refusal_line (refusal_number r.refusal) r.offset
  unfolding text
  refused_text r e = go (reading input) refl e
    where
      go : (x : Reading Piece Refusal) → reading input ≡ x → check_of x ≡ Err r → text_of (phandle_in input) (state_in input) (reading input) ≡ refusal_line (refusal_number r.refusal) r.offset
      go (read ps) g h = cc
      go (refused q k) g h = let same : ◌≡◌ {A = Reading Piece Refusal} (refused q k) (refused r.refusal r.offset) = cc in rw g (ap (text_of (phandle_in input) (state_in input)) same)

-- ---- the text fits

lines_fit : (input : List ℕ) (ps : List Piece) → reading input ≡ read ps → length (lines ps) ≤ 28_532
unfolding remaining
lines_fit input ps e =
    let size = sized input ps e in
    let long = le-ltb (length input) first_at (omega arith) in
    let all : pieces_from (count_in input) input first_at ≡ ps = rw long at (properties_in_order input ps e) in
    rw (← all) (omega (arith, length-lines (count_in input) input first_at (omega arith)))

pub text_fits : (input out : List ℕ) → 32_768 ≤ length out → length (text input) ≤ length out
unfolding text
text_fits input out room = go (reading input) refl
  where
    go : (r : Reading Piece Refusal) → reading input ≡ r → length (text_of (phandle_in input) (state_in input) (reading input)) ≤ length out
    go (read ps) g =
        let first = operand phandle- (phandle_in input) in
        let second = ended state- (state_in input) in
        let last = ended end- (length ps) in
        rw g
        (omega (
          arith,
          lines_fit input ps g,
          length-append (first ++ newline) (second ++ (lines ps ++ last)),
          length-append first newline,
          length-append second (lines ps ++ last),
          length-append (lines ps) last,
          length_operand phandle- (phandle_in input),
          length_ended state- (state_in input),
          length_ended end- (length ps),
        ))
    go (refused r at) g = rw g (omega (arith, length_refusal (refusal_number r) at))

-- the text stays inside its buffer
pub text_room : (input l m : List ℕ) (r : ℕ) → length l ≡ 32_768 → r ≡ length (text input) → m ≡ sets l 0 (text input) → r ≤ length m
text_room input l m r size e s = inside_buffer (text input) l m r (text_fits input l (omega arith)) e s

-- ---- an input that is no area

wrong_size : (input : List ℕ) → (length input ≡ area_size → ⊥) → text input ≡ refusal_line 40 0
unfolding text reading
wrong_size input h = rw (ne_eqb (length input) area_size h)

long_input : LongInput
long_input input h = wrong_size (take 4097 input) (λ e. omega (arith, length-take-le 4097 input (omega arith))) ∙ sym (wrong_size input (λ e. omega arith))

-- ---- the text in bytes

text_read : (input : List ℕ) (ps : List Piece) → reading input ≡ read ps
    → text input ≡ phandle_line (phandle_in input) ++ (ended state- (state_in input) ++ (lines ps ++ ended end- (length ps)))
unfolding text
text_read input ps e = rw e

text_refused : (input : List ℕ) (r : Refusal) (at : ℕ) → reading input ≡ refused r at → text input ≡ refusal_line (refusal_number r) at
unfolding text
text_refused input r at e = rw e

text_exactly : TextExactly
unfolding lines line decimal digits numbered ended operand
text_exactly =
    record {
      area = text_read;
      refusal = λ input number at h. text_refused input h.0 at h.1.1 ∙ rw h.1.0;
      none = refl;
      deleted = λ p ps h. rw h;
      whole = λ p ps h k. rw (h, k);
      part = λ p ps h k. rw (h, k);
      no_value = refl;
      value = λ b bs. value_some (b ∷ bs) (λ h. omega arith);
      byte = λ b. refl;
    }

pub promise : PrintPropertiesPromise
promise =
    record {
      text_exactly = text_exactly;
      digits = digits_exactly;
      names = names_exactly;
      long_input = long_input;
      reader = property_reader_exactly;
      numbers = numbers_exactly;
      nul = nul_exactly;
    }
