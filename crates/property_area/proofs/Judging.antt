-- Laws of the judgement of one property.
use mathlib.Core.Path.{◌≡◌, refl}
use mathlib.Core.Bool.{Bool, true, false, cond, not}
use mathlib.Core.List.{List}
use Prim.Native.Nat.{ℕ, ◌+◌, ◌-◌, ◌<◌, ◌≤◌}
use native.Mathlib.Omega.{arith}
use lib.Dec.{ltb}
use lib.ListN.{length, drop, drop_of_length-le, length-drop}
use Rattle.std.specs.Prelude.{Option, Some, None}
use Rattle.words.proofs.Choice.{decide}
use Rattle.std.proofs.lemmas.List.{take_rest}
use borrow.Author.Tests.{lt-ltb, le-ltb, ltb-false}
use Rattle.words.specs.Numbers.{be32}
use Rattle.words.specs.Nul.{until_nul, is_ended}
use Rattle.words.proofs.Ends.{ended_bounds}
use Rattle.journal.specs.Property.{name_limit}
use Rattle.property_area.specs.declared.reading.Refusal.TheVariants.{Name, Past}
use Rattle.property_area.specs.declared.reading.Located.{Located}
use Rattle.std.specs.Prelude.{Ok, Err}
use Rattle.property_area.specs.Piece.{length_of_value}
use Rattle.property_area.specs.Reading.{name_at, value_place, located_at, end_of, judged_at}

-- a place past the end has no name
pub named_outside : (area : List ℕ) (at : ℕ) → length area < at → None ≡ cond (is_ended name_limit (drop at area)) (Some (length (name_at area at))) None
unfolding is_ended until_nul
named_outside area at h = rw (drop_of_length-le area {i = at} (omega arith))

-- what the search for a name tells
abbrev pub Told : List ℕ → ℕ → Option ℕ → Type 0
Told area at found = found ≡ cond (is_ended name_limit (drop at area)) (Some (length (name_at area at))) None

-- a name of n bytes, its NUL inside the area
pub record Named (area : List ℕ) (at n : ℕ) : Type 0 where
  pub ended : is_ended name_limit (drop at area) ≡ true
  pub long : n ≡ length (name_at area at)
  pub inside : at + n + 1 ≤ length area

module _ (area : List ℕ) (at : ℕ) where
  pub judged_nameless : Told area at None → Err Name ≡ judged_at area at
  unfolding judged_at
  judged_nameless told = decide (is_ended name_limit (drop at area)) (λ t. let h = rw t at told in cc) (λ t. rw t)

  pub named : (n : ℕ) → Told area at (Some n) → Named area at n
  unfolding name_at
  named n told =
      let ended : is_ended name_limit (drop at area) ≡ true = decide (is_ended name_limit (drop at area)) (λ t. t) (λ t. let h = rw t at told in cc) in
      let long : n ≡ length (until_nul (drop at area)) = let h = rw ended at told in cc in
      record { ended = ended; long = long; inside = omega (arith, long, ended_bounds name_limit (drop at area) ended, length-drop at area) }

-- the rest of the judgement on a property with a name
module _ {area : List ℕ} {at n : ℕ} (name : Named area at n) where
  pub judged_cut : length area - (at + n + 1) < 4 → Err Past ≡ judged_at area at
  unfolding judged_at
  judged_cut h = rw (name.ended, ← name.long, lt-ltb (length area) (at + n + 1 + 4) (omega (arith, name.inside)))

  module _ (d v : ℕ) (room : 4 ≤ length area - (at + n + 1)) (descriptor : d ≡ be32 area (at + n + 1)) (value : v ≡ length_of_value d) where
    has_descriptor : ltb (length area) (at + n + 1 + 4) ≡ false
    has_descriptor = le-ltb (length area) (at + n + 1 + 4) (omega arith)

    pub judged_past : length area - (at + n + 1 + 4) < v → Err Past ≡ judged_at area at
    unfolding judged_at
    judged_past h = rw (name.ended, ← name.long, has_descriptor, ← descriptor, ← value, lt-ltb (length area) (at + n + 1 + 4 + v) (omega arith))

    pub judged_whole : v ≤ length area - (at + n + 1 + 4)
        → Ok (record { name = at; name_length = n; descriptor = d; value = at + n + 1 + 4; value_length = v }) ≡ judged_at area at
    unfolding judged_at
    judged_whole h = rw (name.ended, ← name.long, has_descriptor, ← descriptor, ← value, le-ltb (length area) (at + n + 1 + 4 + v) (omega arith))

-- a property that is found stands in the area to its end
fine_tests : (a b c : Bool) (l m : Located) → cond a (Err Name) (cond b (Err Past) (cond c (Err Past) (Ok m))) ≡ Ok l → (l ≡ m) × (c ≡ false)
fine_tests true b c l m h = (cc, cc)
fine_tests false true c l m h = (cc, cc)
fine_tests false false true l m h = (cc, cc)
fine_tests false false false l m h = (cc, refl)

pub fine_told : (area : List ℕ) (at : ℕ) (l : Located) → judged_at area at ≡ Ok l → (l ≡ located_at area at) × (end_of l ≤ length area)
unfolding judged_at
fine_told area at l e =
    let told = fine_tests (not (is_ended name_limit (drop at area))) (ltb (length area) (value_place area at)) (ltb (length area) (end_of (located_at area at))) l (located_at area at) e in
    (told.0, rw told.0 (ltb-false (length area) (end_of (located_at area at)) told.1))

-- the place of a fine property is inside the area, and the first NUL from there on, with a descriptor behind it, ends its name
module _ (area : List ℕ) (at : ℕ) (fine : judged_at area at ≡ Ok (located_at area at)) where
  pub fine_begins : at ≤ length area
  fine_begins = omega (arith, (fine_told area at (located_at area at) fine).1)

  pub fine_named : (n : ℕ) → n ≡ length (until_nul (drop at area)) → (n ≡ length (name_at area at)) × (at + n + 1 + 4 ≤ length area)
  unfolding name_at
  fine_named n found = (found, omega (arith, (fine_told area at (located_at area at) fine).1))

-- the ways of the code, for the tactics
pub ruleset judgements = (judged_nameless, named, judged_cut, judged_past, judged_whole)

pub ruleset names = (named_outside, take_rest, fine_begins, fine_named)
