-- The text of an input, from what a check gives of it, that it fits its buffer, and the promise of the program.
use mathlib.Core.Path.{◌≡◌, refl, ◌∙◌}
use mathlib.Core.List.{List, [], ◌++◌}
use Prim.Native.Nat.{ℕ, zero, suc, ◌+◌, ◌*◌, ◌-◌, ◌<◌, ◌≤◌}
use native.Mathlib.Omega.{arith}
use lib.Dec.{leb, ltb}
use lib.ListN.{length, length-append}
use lib.Seq.{sets}
use borrow.Author.Tests.{le-leb, lt-leb, leb-true, ltb-false}
use Rattle.words.specs.Reading.{Reading, read, refused}
use Rattle.words.proofs.Choice.{choose}
use Rattle.words.proofs.Claims.{numbers_exactly, nul_exactly}
use Rattle.inventory.specs.Listing.{Entry}
use Rattle.indices.specs.declared.reading.Refusal.{Refusal}
use Rattle.std.specs.Prelude.{Ok, Err}
use Rattle.words.specs.declared.refused.Refused.{Refused}
use Rattle.indices.specs.Reading.{length_at, entry_at, reading, refusal_number, check_of}
use Rattle.indices.specs.Cursor.{entries_from, remaining, start_of}
use Rattle.indices.proofs.IndexLaws.{entries_in_order}
use Rattle.indices.proofs.ReaderClaims.{index_reader_exactly}
use Rattle.printing.specs.Text.{space, end-, numbered, ended, operand, refusal_line}
use Rattle.printing.proofs.Bytes.{length_named}
use Rattle.printing.proofs.Digits.{digits_exactly}
use Rattle.printing.proofs.NameLaws.{names_exactly}
use Rattle.printing.proofs.Sizes.{length_ended, length_operand, length_refusal, inside_buffer}
use Rattle.print_indices.specs.Text.{line, lines, text, input_limit, printed}
use Rattle.print_indices.specs.Claims.PrintIndices.{TextExactly, PrintIndicesPromise}
use Rattle.print_indices.proofs.Lines.{code_size}

-- ---- each byte of an area gives at most four bytes of lines

-- 16 bytes, and four for each byte of the code
length_line : (e : Entry) → length (line e) ≤ 16 + 4 * length e.code
unfolding line
length_line e = simp (length-append, length_operand) (omega (arith, length_named space e.code))

length-lines : (n : ℕ) (area : List ℕ) (at : ℕ) → length (lines (entries_from n area at)) ≤ 4 * (length area - at)
unfolding lines entries_from
length-lines zero area at = omega arith
length-lines (suc n) area at =
    let e = entry_at area at in
    let next = at + (8 + length_at area at) in
    let rest = entries_from n area next in
    choose (ltb (length area - at) 8) (λ (es : List Entry). length (lines es) ≤ 4 * (length area - at)) (λ _. omega arith)
    (λ t.
    omega (
      arith,
      ltb-false (length area - at) 8 t,
      length-append (line e) (lines rest),
      length_line e,
      code_size area at,
      length-lines n area next,
    ))

-- ---- the text, from what a check gives of an area

module _ (input : List ℕ) where
  text_read : (es : List Entry) → reading input ≡ read es → text input ≡ lines es ++ ended end- (length es)
  unfolding text
  text_read es e = rw e

  text_refused : (r : Refusal) (at : ℕ) → reading input ≡ refused r at → text input ≡ refusal_line (refusal_number r) at
  unfolding text
  text_refused r at e = rw e

  -- the text of an area with n entries
  pub area_text : (n : ℕ) → check_of (reading input) ≡ Ok n → text input ≡ lines (remaining input (start_of input)) ++ ended end- n
  area_text n e = go (reading input) refl e
    where
      go : (r : Reading Entry Refusal) → reading input ≡ r → check_of r ≡ Ok n → text input ≡ lines (remaining input (start_of input)) ++ ended end- n
      go (read es) g h = let same : length es ≡ n = cc in text_read es g ∙ rw (entries_in_order input es g, same)
      go (refused r at) g h = cc

  pub refused_text : (x : Refused Refusal) → check_of (reading input) ≡ Err x → text input ≡ refusal_line (refusal_number x.refusal) x.offset
  refused_text x e = go (reading input) refl e
    where
      go : (r : Reading Entry Refusal) → reading input ≡ r → check_of r ≡ Err x → text input ≡ refusal_line (refusal_number x.refusal) x.offset
      go (read es) g h = cc
      go (refused q k) g h = let same : record { refusal = q; offset = k } ≡ x = cc in rw (← same) (text_refused q k g)

  -- ---- the text fits

  lines_fit : (es : List Entry) → reading input ≡ read es → length (lines es) ≤ 4 * length input
  unfolding remaining
  lines_fit es e =
      let start = start_of input in
      rw (← (entries_in_order input es e)) (omega (arith, length-lines start.left input start.at))

  pub text_fits : (out : List ℕ) → 4 * length input + 53 ≤ length out → length (text input) ≤ length out
  text_fits out room = go (reading input) refl
    where
      go : (r : Reading Entry Refusal) → reading input ≡ r → length (text input) ≤ length out
      go (read es) g =
          let last = ended end- (length es) in
          rw (text_read es g) (omega (arith, lines_fit es g, length-append (lines es) last, length_ended end- (length es)))
      go (refused r at) g = rw (text_refused r at g) (omega (arith, length_refusal (refusal_number r) at))

  -- ---- what is printed

  pub printed_text : length input ≤ 1_048_580 → printed input ≡ text input
  unfolding printed
  printed_text h = rw (le-leb (length input) input_limit h)

  pub printed_none : 1_048_580 < length input → printed input ≡ []
  unfolding printed
  printed_none h = rw (lt-leb (length input) input_limit h)

  printed_fits : (out : List ℕ) → length out ≡ 4_194_400 → length (printed input) ≤ length out
  unfolding printed
  printed_fits out room =
      choose (leb (length input) input_limit) (λ (t : List ℕ). length t ≤ length out)
      (λ e. text_fits out (omega (arith, leb-true (length input) input_limit e)))
      (λ _. omega arith)

  -- the text stays inside its buffer
  pub printed_room : (l m : List ℕ) (r : ℕ) → length l ≡ 4_194_400 → r ≡ length (printed input) → m ≡ sets l 0 (printed input) → r ≤ length m
  printed_room l m r size e s = inside_buffer (printed input) l m r (printed_fits l size) e s

-- ---- the text in bytes

text_exactly : TextExactly
unfolding lines line numbered ended operand
text_exactly =
    record {
      area = λ input es h e. printed_text input h ∙ text_read input es e;
      refusal = λ input number at h w. printed_text input h ∙ text_refused input w.0 at w.1.1 ∙ rw w.1.0;
      longer = printed_none;
      none = refl;
      each_entry = λ e es. refl;
    }

pub promise : PrintIndicesPromise
promise =
    record {
      text_exactly = text_exactly;
      digits = digits_exactly;
      names = names_exactly;
      reader = index_reader_exactly;
      numbers = numbers_exactly;
      nul = nul_exactly;
    }
