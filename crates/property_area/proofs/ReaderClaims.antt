-- What reading a property area gives, exactly when.
use mathlib.Core.Path.{◌≡◌, refl, sym, ap, ◌∙◌}
use mathlib.Core.Bool.{true, false}
use mathlib.Core.List.{List, [], ◌∷◌}
use Prim.Native.Nat.{ℕ, suc, ◌+◌, ◌-◌, ◌<◌, ◌≤◌}
use native.Mathlib.Nat.{add-zero, add_assoc}
use native.Mathlib.Omega.{arith}
use lib.Dec.{ltb, eqb}
use lib.ListN.{length, take, drop, get_or, length-append, length-take, length-drop}
use lib.Seq.{slice, get_or-drop, get_or-take, drop-drop, take_at}
use borrow.Author.Tests.{eq-eqb, ne_eqb, eqb-true, eqb-false, lt-ltb, le-ltb, ltb-true, ltb-false}
use Rattle.words.specs.Numbers.{be, zeros}
use Rattle.words.specs.Nul.{is_ended}
use Rattle.words.specs.Claims.Exactly.{Named}
use Rattle.words.specs.Reading.{Reading, read, refused, joined}
use Rattle.words.proofs.Claims.{joined_exactly}
use Rattle.words.proofs.Choice.{decide}
use Rattle.words.proofs.Named.{named_until, named_rest, named_ended, ended_named}
use Rattle.words.proofs.Numbers.{be_drop}
use Rattle.words.proofs.Zeros.{zeros_byte, zeros_all}
use Rattle.property_area.specs.declared.reading.Refusal.{Refusal}
use Rattle.property_area.specs.declared.reading.Refusal.TheVariants.{Size, Reserved, Name, Past}
use Rattle.property_area.specs.Head.{is_reserved}
use Rattle.property_area.specs.Piece.{Piece, length_of_value}
use Rattle.property_area.specs.Reading.{name_at, located_at, end_of, judged_at, piece_in, with_piece, read_from, reading}
use Rattle.property_area.specs.Claims.Reader.{Follow, told, PropertyExactly, PropertyReaderExactly}

-- ---- the reserved bytes

module _ (area : List ℕ) where
  byte : (i : ℕ) → i < 8 → get_or (slice 8 16 area) i 0 ≡ get_or area (8 + i) 0
  byte i h = get_or-drop 8 (take 16 area) i 0 ∙ get_or-take 16 area (8 + i) 0 (omega arith)

  some_other : (k : ℕ) → 8 ≤ k → k < 16 → (get_or area k 0 ≡ 0 → ⊥) → is_reserved area ≡ false
  unfolding is_reserved
  some_other k from to other =
      let place : 8 + (k - 8) ≡ k = omega arith in
      decide (zeros (slice 8 16 area)) (λ t. absurd (other (rw place at (sym (byte (k - 8) (omega arith)) ∙ zeros_byte _ (k - 8) t)))) (λ t. t)

  all_zero : ((k : ℕ) → 8 ≤ k → k < 16 → get_or area k 0 ≡ 0) → is_reserved area ≡ true
  unfolding is_reserved
  all_zero same =
      let few : length (slice 8 16 area) ≤ 8 = simp (length-drop, length-take) (omega arith) in
      zeros_all (slice 8 16 area) (λ i h. byte i (omega arith) ∙ same (8 + i) (omega arith) (omega arith))

-- ---- the bytes of value that follow a descriptor

follow : (d n : ℕ) → Follow d n → length_of_value d ≡ n
follow d n f = decide (eqb d 0x8000_0000)
    (λ t. rw t (sym (f.deleted (eqb-true d 0x8000_0000 t))))
    (λ t. rw t (decide (ltb d 0x8000_0000)
    (λ u. rw u (sym (f.positive (ltb-true d 0x8000_0000 u))))
    (λ u. rw u (sym (f.negative (omega (arith, eqb-false d 0x8000_0000 t, ltb-false d 0x8000_0000 u)))))))

-- ---- a property

piece_first : (p : Piece) (r : Reading Piece Refusal) → with_piece p r ≡ joined (read (p ∷ [])) r
unfolding joined
piece_first p (read ps) = refl
piece_first p (refused r at) = refl

module _ (area : List ℕ) (at left : ℕ) where
  nameless : ((name rest : List ℕ) → Named 31 (drop at area) name rest → ⊥) → is_ended 31 (drop at area) ≡ false
  nameless b = decide (is_ended 31 (drop at area)) (λ t. absurd (b _ _ (ended_named 31 (drop at area) t))) (λ t. t)

  module _ (name rest : List ℕ) (named : Named 31 (drop at area) name rest) where
    -- the place of the descriptor, and what stands there
    abbrev place : ℕ
    place = at + length name + 1

    size : length area ≡ place + length rest
    size = omega (arith, ap length named.ended, length-append name (0 ∷ rest), length-drop at area)

    name_there : name_at area at ≡ name
    unfolding name_at
    name_there = named_until named

    rest_there : drop place area ≡ rest
    rest_there = rw (← named_rest named, drop-drop (length name + 1) at area, ← add_assoc at (length name) 1)

    descriptor_there : be 4 area place ≡ be 4 rest 0
    descriptor_there = rw (← rest_there, be_drop 4 place area 0, add-zero)

    no_descriptor : length rest < 4 → read_from (suc left) area at ≡ refused Past at
    unfolding read_from judged_at
    no_descriptor h = rw (named_ended named, name_there, lt-ltb (length area) (place + 4) (omega (arith, size)))

    -- with n bytes of value after the descriptor
    module _ (n : ℕ) (f : Follow (be 4 rest 0) n) (room : 4 ≤ length rest) where
      end_there : end_of (located_at area at) ≡ place + 4 + n
      end_there = rw (name_there, descriptor_there, follow (be 4 rest 0) n f)

      value_inside : ltb (length area) (place + 4) ≡ false
      value_inside = le-ltb (length area) (place + 4) (omega (arith, size))

      cut_off : length rest < 4 + n → read_from (suc left) area at ≡ refused Past at
      unfolding read_from judged_at
      cut_off h = rw (named_ended named, end_there, name_there, value_inside, lt-ltb (length area) (place + 4 + n) (omega (arith, size)))

      piece_there : piece_in area (located_at area at) ≡ told name (be 4 rest 0) (take n (drop 4 rest))
      piece_there =
          let value : drop (place + 4) area ≡ drop 4 rest = rw (← drop-drop 4 place area, rest_there) in
          let front : take (length name) (drop at area) ≡ name = rw named.ended (take_at name (0 ∷ rest) (length name) refl) in
          rw (name_there, descriptor_there, follow (be 4 rest 0) n f, value, front)

      whole : 4 + n ≤ length rest
          → read_from (suc left) area at ≡ joined (read (told name (be 4 rest 0) (take n (drop 4 rest)) ∷ [])) (read_from left area (at + (length name + 5 + n)))
      unfolding read_from judged_at
      whole h =
          let next : place + 4 + n ≡ at + (length name + 5 + n) = omega arith in
          let inside = le-ltb (length area) (place + 4 + n) (omega (arith, size)) in
          rw (named_ended named, piece_there, end_there, name_there, value_inside, inside, next) (piece_first _ _)

  property : PropertyExactly area at left (read_from (suc left) area at)
  unfolding read_from judged_at
  property = record {
    unnamed = λ b. (Name, (refl, rw (nameless b)));
    no_descriptor = λ name rest named h. (Past, (refl, no_descriptor name rest named h));
    cut_off = λ name rest n named room f h. (Past, (refl, cut_off name rest named n f room h));
    property = λ name rest n named f h. whole name rest named n f (omega arith) h;
  }

pub property_reader_exactly : PropertyReaderExactly
unfolding reading read_from
property_reader_exactly = record {
  in_turn = joined_exactly;
  descriptor = λ p. record { deleted = λ d. rw d; whole = λ d m. rw (d, m); divided = λ d m. rw (d, m) };
  size = λ area h. (Size, (refl, rw (ne_eqb (length area) 4096 h)));
  reserved = λ area full k from to other. (Reserved, (refl, rw (eq-eqb (length area) 4096 full, some_other area k from to other)));
  properties = λ area full same. rw (eq-eqb (length area) 4096 full, all_zero area same);
  none = λ area at. refl;
  each = property;
}
