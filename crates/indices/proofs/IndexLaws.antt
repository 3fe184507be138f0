-- Laws of reading an index work area.
use mathlib.Core.Path.{◌≡◌, refl, sym, ap, ◌∙◌}
use mathlib.Core.Bool.{Bool, true, false, cond, not, ◌&&◌, or-true, and-true}
use mathlib.Core.List.{List, [], ◌∷◌}
use Prim.Native.Nat.{ℕ, zero, suc, ◌+◌, ◌-◌, ◌<◌, ◌≤◌, min}
use native.Mathlib.Nat.{zero-add, add_assoc}
use native.Mathlib.Numerals.{sub-one}
use native.Mathlib.Omega.{arith}
use lib.Dec.{ltb, eqb, eqb-suc-zero}
use lib.ListN.{length, get_or, take, drop, length-take, length-drop}
use lib.Seq.{take-length, take-take}
use borrow.Author.Tests.{ne_eqb, ltb-false, lt-ltb, le-ltb}
use Rattle.words.specs.Numbers.{be32, zeros}
use Rattle.words.specs.Nul.{until_nul}
use Rattle.words.proofs.Choice.{choose, decide}
use Rattle.words.proofs.Ranges.{range_from}
use Rattle.words.proofs.Zeros.{zeros_byte}
use Rattle.std.proofs.lemmas.List.{take_all}
use Rattle.std.proofs.lemmas.Grind.{common_steps}
use Rattle.inventory.specs.Listing.{Entry}
use Rattle.indices.specs.declared.reading.Refusal.{Refusal}
use Rattle.indices.specs.declared.reading.Refusal.TheVariants.{Past, Length, Code}
use Rattle.std.specs.Prelude.{None, Some, Result, Ok, Err}
use Rattle.words.specs.declared.refused.Refused.{Refused}
use Rattle.words.specs.Reading.{Reading, read, refused}
use Rattle.indices.specs.Reading.{length_at, field_at, good_length, good_field, fault_at, entry_at, with_entry, judged_by, read_from, reading, check_of}
use Rattle.indices.specs.declared.reading.Cursor.{Cursor}
use Rattle.indices.specs.Cursor.{entries_from, remaining, next_of}
use Rattle.indices.specs.Claims.Cursor.{Gives, StepsGive, EntriesInOrder}

-- ---- the code of a field

-- a code is the front of its field
pub code_short : (f : List ℕ) → length (until_nul f) ≤ length f
unfolding until_nul
code_short [] = omega arith
code_short (b ∷ bs) = choose (eqb b 0) (λ (l : List ℕ). length l ≤ suc (length bs)) (λ _. omega arith) (λ _. omega (arith, code_short bs))

pub code_front : (f : List ℕ) → until_nul f ≡ take (length (until_nul f)) f
unfolding until_nul
code_front [] = refl
code_front (b ∷ bs) = choose (eqb b 0) (λ (l : List ℕ). l ≡ take (length l) (b ∷ bs)) (λ _. refl) (λ _. ap (λ (l : List ℕ). b ∷ l) (code_front bs))

-- all from a place on, as the code takes it
pub to_the_end : (s : List ℕ) (n : ℕ) → take (length s - n) (drop n s) ≡ drop n s
to_the_end s n = take_all (length s - n) (drop n s) (rw length-drop (omega arith))

-- bytes of which one is not zero
pub nuls_not : (l : List ℕ) (i : ℕ) → (get_or l i 0 ≡ 0 → ⊥) → false ≡ zeros l
nuls_not l i h = decide (zeros l) (λ t. absurd (h (zeros_byte l i t))) (λ t. sym t)

-- one to four bytes of which the first three are zero, the last as often as it is asked for
pub nuls_told : (l : List ℕ) (n : ℕ) → n ≡ length l - 1 → 1 ≤ length l → length l ≤ 4 → get_or l 0 0 ≡ 0 → get_or l (min n 1) 0 ≡ 0 → get_or l (min n 2) 0 ≡ 0 →
    eqb (get_or l (min n 3) 0) 0 ≡ zeros l
unfolding zeros
nuls_told [] n e l m p q r = absurd (omega arith)
nuls_told (a ∷ []) n e l m p q r = rw (e, p)
nuls_told (a ∷ b ∷ []) n e l m p q r = rw (e, p) (rw (rw e at q))
nuls_told (a ∷ b ∷ c ∷ []) n e l m p q r = rw (e, p) (rw (rw e at q, rw e at r))
nuls_told (a ∷ b ∷ c ∷ d ∷ []) n e l m p q r = rw (e, p) (rw (rw e at q, rw e at r) (sym (and-true (eqb d 0))))
nuls_told (a ∷ b ∷ c ∷ d ∷ f ∷ s) n e l m p q r = absurd (omega arith)

-- what the code's test of a field is proved by
pub ruleset field_laws = (code_short, to_the_end, common_steps)

-- ---- the field of a set

take_min : (n : ℕ) (l : List ℕ) → take n l ≡ take (min n (length l)) l
take_min n l = sym (take-length (take n l)) ∙ ap (λ (k : ℕ). take k (take n l)) (length-take n l) ∙ take-take (min n (length l)) n l (omega arith)

pub field_part : (area : List ℕ) (at n : ℕ) → n ≡ length_at area at → take (at + 8 + n - (at + 8)) (drop (at + 8) area) ≡ field_at area at
unfolding field_at
field_part area at n e = range_from area (at + 8) n ∙ rw e

-- as much of a field as there is
field-there : (area : List ℕ) (at n k : ℕ) → n ≡ length_at area at → k ≡ min n (length area - at - 8) → take (at + 8 + k - (at + 8)) (drop (at + 8) area) ≡ field_at area at
unfolding field_at
field-there area at n k e m =
    let there : k ≡ min n (length (drop (at + 8) area)) = omega (arith, length-drop (at + 8) area) in
    range_from area (at + 8) k ∙ rw (← e, there) (sym (take_min n (drop (at + 8) area)))

-- the code of a set as a part of the area
pub code_part : (area : List ℕ) (at : ℕ) → until_nul (field_at area at) ≡ take (length (until_nul (field_at area at))) (drop (at + 8) area)
unfolding field_at
code_part area at =
    let n = length_at area at in
    let l = drop (at + 8) area in
    code_front (take n l) ∙ take-take (length (until_nul (take n l))) n l (omega (arith, code_short (take n l), length-take n l))

-- ---- the check of an area from a place on

-- a set with no fault has a good length, is inside the area, and has a good field
abbrev first_fault : Bool → Bool → Bool → Bool → Result (Unit {0}) Refusal
first_fault a b c d = cond a (Err Past) (cond (not b) (Err Length) (cond c (Err Past) (cond (not d) (Err Code) (Ok tt))))

fine_judged : (a b c d : Bool) → first_fault a b c d ≡ Ok tt → (b ≡ true) × (c ≡ false) × (d ≡ true)
fine_judged true b c d h = (cc, cc, cc)
fine_judged false false c d h = (cc, cc, cc)
fine_judged false true true d h = (refl, cc, cc)
fine_judged false true false false h = (refl, refl, cc)
fine_judged false true false true h = (refl, refl, refl)

module _ (area : List ℕ) (at : ℕ) (fine : fault_at area at ≡ Ok tt) where
  pub judged : (good_length (length_at area at) ≡ true) × (ltb (length area - at) (8 + length_at area at) ≡ false) × (good_field (field_at area at) ≡ true)
  unfolding fault_at
  judged = fine_judged (ltb (length area - at) 8) (good_length (length_at area at)) (ltb (length area - at) (8 + length_at area at)) (good_field (field_at area at)) fine

  pub fine_inside : 8 + length_at area at ≤ length area - at
  fine_inside = ltb-false (length area - at) (8 + length_at area at) judged.1

-- the sets that are left, by the first of them
read_next : (n : ℕ) (area : List ℕ) (at : ℕ) → 0 < n → read_from n area at ≡ judged_by (fault_at area at) at (with_entry (entry_at area at) (read_from (n - 1) area (at + (8 + length_at area at))))
unfolding read_from
read_next zero area at h = absurd (omega arith)
read_next (suc n) area at h = rw (sub-one (suc n))

-- what a check tells that has passed so many sets
abbrev counted : ℕ → Reading Entry Refusal → Result ℕ (Refused Refusal)
counted n (read es) = Ok (n + length es)
counted n (refused r at) = Err (record { refusal = r; offset = at })

counted_none : (r : Reading Entry Refusal) → check_of r ≡ counted 0 r
counted_none (read es) = ap {B = Result ℕ (Refused Refusal)} Ok (sym (zero-add (length es)))
counted_none (refused r at) = refl

counted_more : (n : ℕ) (e : Entry) (r : Reading Entry Refusal) → counted n (with_entry e r) ≡ counted (n + 1) r
counted_more n e (read es) = let more : n + suc (length es) ≡ n + 1 + length es = omega arith in ap {B = Result ℕ (Refused Refusal)} Ok more
counted_more n e (refused r at) = refl

-- a check that stands at the place of a set: what it finds from there on is what the whole check finds
pub record Stands (area : List ℕ) (count at passed : ℕ) : Type 0 where
  pub inside : at ≤ length area
  pub few : passed ≤ count
  pub finds : check_of (reading area) ≡ counted passed (read_from (count - passed) area at)

pub stands_first : (area : List ℕ) (count : ℕ) → 4 ≤ length area → count ≡ be32 area 0 → Stands area count 4 0
unfolding reading
stands_first area count h e =
    let all : count - 0 ≡ count = omega arith in
    record { inside = h; few = omega arith; finds = rw (le-ltb (length area) 4 h, all, e) (counted_none (read_from (be32 area 0) area 4)) }

module _ (area : List ℕ) (count at passed : ℕ) (s : Stands area count at passed) where
  pub stands_end : count ≤ passed → Ok count ≡ check_of (reading area)
  unfolding read_from
  stands_end h =
      let none : count - passed ≡ 0 = omega arith in
      let all : passed + 0 ≡ count = omega (arith, s.few) in
      rw (s.finds, none, all)

  module _ (more : passed < count) where
    ahead : read_from (count - passed) area at ≡ judged_by (fault_at area at) at (with_entry (entry_at area at) (read_from (count - passed - 1) area (at + (8 + length_at area at))))
    ahead = read_next (count - passed) area at (omega arith)

    pub stands_bad : (r : Refusal) → fault_at area at ≡ Err r → Err (record { refusal = r; offset = at }) ≡ check_of (reading area)
    stands_bad r e = rw (s.finds, ahead, e)

    pub stands_fine : (n : ℕ) → n ≡ be32 area (at + 4) → fault_at area at ≡ Ok tt → Stands area count (at + 8 + n) (passed + 1)
    unfolding length_at
    stands_fine n l e =
        let less : count - passed - 1 ≡ count - (passed + 1) = omega arith in
        record {
          inside = omega (arith, fine_inside area at e);
          few = omega arith;
          finds = rw (s.finds, ahead, e, less, ← l, ← add_assoc at 8 n) (counted_more passed (entry_at area at) (read_from (count - (passed + 1)) area (at + 8 + n)));
        }

-- ---- the step of a cursor

module _ (area : List ℕ) (c : Cursor) where
  pub next_short : length area - c.at < 8 → None ≡ next_of area c
  unfolding next_of
  next_short h = rw (lt-ltb (length area - c.at) 8 h, or-true (eqb c.left 0))

  -- the code's way: the code ends at the first NUL of as much of the field as there is
  pub next_found : (n k long : ℕ) → (c.left ≡ 0 → ⊥) → 8 ≤ length area - c.at → n ≡ be32 area (c.at + 4) → k ≡ min n (length area - c.at - 8)
      → long ≡ length (until_nul (take (c.at + 8 + k - (c.at + 8)) (drop (c.at + 8) area)))
      → Some (record { index = be32 area c.at; start = c.at + 8; length = long }, record { at = c.at + (8 + n); left = c.left - 1 }) ≡ next_of area c
  unfolding next_of length_at
  next_found n k long some room size there e =
      rw (ne_eqb c.left 0 some, le-ltb (length area - c.at) 8 room, e, field-there area c.at n k size there, size)

-- a step gives the first of the entries before a cursor
step_gives : (area : List ℕ) (at left : ℕ) → Gives area (entries_from left area at) (next_of area (record { at = at; left = left }))
unfolding next_of remaining entries_from
step_gives area at zero = refl
step_gives area at (suc n) = rw (eqb-suc-zero n) (decide (ltb (length area - at) 8) (λ t. rw t refl) (λ t. rw (t, sub-one (suc n), ← code_part area at)))

pub steps_give : StepsGive
unfolding remaining
steps_give area c = step_gives area c.at c.left

-- ---- the entries of a reading, in order

in_order : (n : ℕ) (area : List ℕ) (at : ℕ) (es : List Entry) → read_from n area at ≡ read es → entries_from n area at ≡ es
unfolding read_from entries_from
in_order zero area at es e = cc
in_order (suc n) area at es e =
    go (fault_at area at) refl (read_from n area (at + (8 + length_at area at))) (in_order n area (at + (8 + length_at area at))) e
  where
    go : (f : Result (Unit {0}) Refusal) → fault_at area at ≡ f → (r : Reading Entry Refusal) → ((ds : List Entry) → r ≡ read ds → entries_from n area (at + (8 + length_at area at)) ≡ ds) → judged_by f at (with_entry (entry_at area at) r) ≡ read es
        → cond (ltb (length area - at) 8) [] (entry_at area at ∷ entries_from n area (at + (8 + length_at area at))) ≡ es
    go (Err b) g r more h = cc
    go (Ok u) g (refused b k) more h = cc
    go (Ok u) g (read ds) more h = rw (le-ltb (length area - at) 8 (omega (arith, fine_inside area at g)), more ds refl) (cc)

pub entries_in_order : EntriesInOrder
unfolding reading remaining
entries_in_order area es e = decide (ltb (length area) 4) (λ t. let h = rw t at e in rw t (cc)) (λ t. rw t (in_order (be32 area 0) area 4 es (rw t at e)))
