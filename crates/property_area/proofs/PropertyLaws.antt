-- Laws of reading a property work area: the check of the whole, and the steps of a cursor.
use mathlib.Core.Path.{◌≡◌, refl, sym, ap, ◌∙◌}
use mathlib.Core.Bool.{true}
use mathlib.Core.List.{List, ◌∷◌}
use Prim.Native.Nat.{ℕ, zero, suc, ◌+◌, ◌-◌, ◌<◌, ◌≤◌}
use native.Mathlib.Nat.{zero-add}
use native.Mathlib.Numerals.{sub-one}
use native.Mathlib.Omega.{arith}
use lib.Dec.{eqb, eqb-suc-zero}
use lib.ListN.{length}
use borrow.Author.Tests.{eq-eqb, eqb-true, le-ltb}
use Rattle.words.proofs.Choice.{decide}
use Rattle.std.proofs.lemmas.Bool.Decides.{nat_tests}
use Rattle.words.specs.Reading.{Reading, read, refused}
use Rattle.node_area.specs.Head.{area_size}
use Rattle.property_area.specs.declared.reading.Refusal.{Refusal}
use Rattle.std.specs.Prelude.{Result, Ok, Err}
use Rattle.property_area.specs.declared.reading.Located.{Located}
use Rattle.words.specs.declared.refused.Refused.{Refused}
use Rattle.property_area.specs.Head.{is_reserved, count_in, first_at}
use Rattle.property_area.specs.Piece.{Piece}
use Rattle.property_area.specs.Reading.{located_at, end_of, judged_at, piece_in, with_piece, read_by, read_from, reading, check_of}
use Rattle.property_area.specs.Claims.Cursor.{fine_or, pieces_from, remaining, Gives, step_by, next_of, StepsGive, PropertiesInOrder}
use Rattle.property_area.proofs.Judging.{fine_told}

-- ---- the check of an area from a place on

-- the properties that are left, by the first of them
read_next : (n : ℕ) (area : List ℕ) (at : ℕ) → 0 < n
    → read_from n area at ≡ read_by (judged_at area at) at (with_piece (piece_in area (located_at area at)) (read_from (n - 1) area (end_of (located_at area at))))
unfolding read_from
read_next zero area at h = absurd (omega arith)
read_next (suc n) area at h = rw (sub-one (suc n))

-- what a check tells that has passed so many properties
abbrev counted : ℕ → Reading Piece Refusal → Result ℕ (Refused Refusal)
counted n (read ps) = Ok (n + length ps)
counted n (refused r at) = Err (record { refusal = r; offset = at })

counted_none : (r : Reading Piece Refusal) → check_of r ≡ counted 0 r
counted_none (read ps) = ap Ok (sym (zero-add (length ps)))
counted_none (refused r at) = refl

counted_more : (n : ℕ) (p : Piece) (r : Reading Piece Refusal) → counted n (with_piece p r) ≡ counted (n + 1) r
counted_more n p (read ps) = let more : n + suc (length ps) ≡ n + 1 + length ps = omega arith in ap Ok more
counted_more n p (refused r at) = refl

-- a check that stands at the place of a property: what it finds from there on is what the whole check finds
pub record Stands (area : List ℕ) (count at passed : ℕ) : Type 0 where
  pub few : passed ≤ count
  pub finds : check_of (reading area) ≡ counted passed (read_from (count - passed) area at)

pub stands_first : (area : List ℕ) (count : ℕ) → length area ≡ area_size → is_reserved area ≡ true → count ≡ count_in area → Stands area count first_at 0
unfolding reading
stands_first area count h r e =
    let all : count - 0 ≡ count = omega arith in
    record { few = omega arith; finds = rw (eq-eqb (length area) area_size h, r, all, e) (counted_none (read_from (count_in area) area first_at)) }

module _ {area : List ℕ} {count at passed : ℕ} (s : Stands area count at passed) where
  pub stands_end : count ≤ passed → Ok count ≡ check_of (reading area)
  unfolding read_from
  stands_end h =
      let none : count - passed ≡ 0 = omega arith in
      let all : passed + 0 ≡ count = omega (arith, s.few) in
      rw (s.finds, none, all)

  module _ (more : passed < count) where
    ahead : read_from (count - passed) area at ≡ read_by (judged_at area at) at (with_piece (piece_in area (located_at area at)) (read_from (count - passed - 1) area (end_of (located_at area at))))
    ahead = read_next (count - passed) area at (omega arith)

    pub stands_bad : (r : Refusal) → judged_at area at ≡ Err r → Err (record { refusal = r; offset = at }) ≡ check_of (reading area)
    stands_bad r e = rw (s.finds, ahead, e)

    pub stands_fine : (l : Located) → judged_at area at ≡ Ok l → Stands area count (end_of l) (passed + 1)
    stands_fine l e =
        let less : count - passed - 1 ≡ count - (passed + 1) = omega arith in
        let m = located_at area at in
        let next : Stands area count (end_of m) (passed + 1) = record {
          few = omega arith;
          finds = rw (s.finds, ahead, e, less) (counted_more passed (piece_in area m) (read_from (count - (passed + 1)) area (end_of m)));
        } in
        rw (fine_told area at l e).0 next

-- ---- the step of a cursor

step_gives : (area : List ℕ) (at left : ℕ) → Gives area (pieces_from left area at) (next_of area (record { at = at; left = left }))
unfolding next_of remaining pieces_from
step_gives area at zero = refl
step_gives area at (suc n) = rw (eqb-suc-zero n) (go (judged_at area at) refl)
  where
    go : (j : Result Located Refusal) → judged_at area at ≡ j → Gives area (fine_or j (piece_in area (located_at area at) ∷ pieces_from n area (end_of (located_at area at)))) (step_by j (suc n - 1))
    go (Err r) e = refl
    go (Ok l) e = let here = (fine_told area at l e).0 in rw (here, sub-one (suc n))

pub steps_give : StepsGive
unfolding remaining
steps_give area c = step_gives area c.at c.left

-- ---- the properties of a reading, in order

in_order : (n : ℕ) (area : List ℕ) (at : ℕ) (ps : List Piece) → read_from n area at ≡ read ps → pieces_from n area at ≡ ps
unfolding read_from pieces_from
in_order zero area at ps e = cc
in_order (suc n) area at ps e = go (judged_at area at) (read_from n area (end_of (located_at area at))) (in_order n area (end_of (located_at area at))) e
  where
    go : (j : Result Located Refusal) (r : Reading Piece Refusal) → ((qs : List Piece) → r ≡ read qs → pieces_from n area (end_of (located_at area at)) ≡ qs)
        → read_by j at (with_piece (piece_in area (located_at area at)) r) ≡ read ps
        → fine_or j (piece_in area (located_at area at) ∷ pieces_from n area (end_of (located_at area at))) ≡ ps
    go (Err b) r more h = cc
    go (Ok l) (refused b k) more h = cc
    go (Ok l) (read qs) more h = rw (more qs refl) (cc)

-- an area that is read has its size, and its properties are read from the first place on
pub whole_read : (area : List ℕ) (ps : List Piece) → reading area ≡ read ps → (length area ≡ area_size) × (read_from (count_in area) area first_at ≡ read ps)
unfolding reading
whole_read area ps e = decide (eqb (length area) area_size)
    (λ t. decide (is_reserved area)
    (λ z. (eqb-true (length area) area_size t, rw (t, z) at e))
    (λ z. let h = rw (t, z) at e in (cc, cc)))
    (λ t. let h = rw t at e in (cc, cc))

pub area_pieces : (area : List ℕ) (ps : List Piece) → reading area ≡ read ps → pieces_from (count_in area) area first_at ≡ ps
area_pieces area ps e = in_order (count_in area) area first_at ps (whole_read area ps e).1

pub properties_in_order : PropertiesInOrder
unfolding remaining
properties_in_order area ps e = rw (le-ltb (length area) first_at (omega (arith, (whole_read area ps e).0))) (area_pieces area ps e)

-- ---- properties that are fine, one after the other

-- the next n from a place on are
abbrev pub AllFine : ℕ → List ℕ → ℕ → Type 0
AllFine n area at = length (pieces_from n area at) ≡ n

pub fine_next : (n : ℕ) (area : List ℕ) (at : ℕ) → AllFine (suc n) area at → (judged_at area at ≡ Ok (located_at area at)) × AllFine n area (end_of (located_at area at))
unfolding pieces_from
fine_next n area at h = go (judged_at area at) refl h
  where
    go : (j : Result Located Refusal) → judged_at area at ≡ j → length (fine_or j (piece_in area (located_at area at) ∷ pieces_from n area (end_of (located_at area at)))) ≡ suc n
        → (judged_at area at ≡ Ok (located_at area at)) × AllFine n area (end_of (located_at area at))
    go (Err r) e k = absurd (omega arith)
    go (Ok l) e k = (e ∙ ap Ok (fine_told area at l e).0, omega arith)

fine_fewer : (k n : ℕ) (area : List ℕ) (at : ℕ) → k ≤ n → AllFine n area at → AllFine k area at
unfolding pieces_from
fine_fewer zero n area at few h = refl
fine_fewer (suc k) zero area at few h = absurd (omega arith)
fine_fewer (suc k) (suc n) area at few h =
    let next = fine_next n area at h in
    rw next.0 (ap suc (fine_fewer k n area (end_of (located_at area at)) (omega arith) next.1))

-- a reading of n properties has n
read_all : (n : ℕ) (area : List ℕ) (at : ℕ) (ps : List Piece) → read_from n area at ≡ read ps → length ps ≡ n
unfolding read_from
read_all zero area at ps e = cc
read_all (suc n) area at ps e = go (judged_at area at) (read_from n area (end_of (located_at area at))) (read_all n area (end_of (located_at area at))) e
  where
    go : (j : Result Located Refusal) (r : Reading Piece Refusal) → ((qs : List Piece) → r ≡ read qs → length qs ≡ n) → read_by j at (with_piece (piece_in area (located_at area at)) r) ≡ read ps → length ps ≡ suc n
    go (Err b) r more h = cc
    go (Ok l) (refused b k) more h = cc
    go (Ok l) (read qs) more h = let all : ps ≡ piece_in area (located_at area at) ∷ qs = cc in rw all (ap suc (more qs refl))

-- the first properties of an area that is read
pub area_fine : (area : List ℕ) (ps : List Piece) (k : ℕ) → reading area ≡ read ps → k ≤ length ps → AllFine k area first_at
area_fine area ps k e few =
    let all = read_all (count_in area) area first_at ps (whole_read area ps e).1 in
    fine_fewer k (count_in area) area first_at (omega arith) (ap length (area_pieces area ps e) ∙ all)

-- the ways of the code, for the tactics
pub ruleset turns = (nat_tests, fine_told, stands_first, stands_end, stands_bad, stands_fine)

pub ruleset steps = (nat_tests, fine_told)
