-- Laws of sets that have no fault: where their codes end, and the sets behind them.
use mathlib.Core.Path.{◌≡◌, refl, sym, ap, ◌∙◌}
use mathlib.Core.Bool.{true}
use mathlib.Core.List.{List, [], ◌∷◌}
use Prim.Native.Nat.{ℕ, zero, suc, ◌+◌, ◌-◌, ◌%◌, ◌<◌, ◌≤◌}
use native.Mathlib.Numerals.{sub-one}
use native.Mathlib.Omega.{arith}
use lib.Dec.{leb, ltb, eqb}
use lib.ListN.{length, drop, get_or, length-take, length-drop}
use lib.Seq.{get_or-take, get_or-drop}
use borrow.Author.Tests.{eq-eqb, eqb-true, leb-true, leb-false}
use Rattle.words.specs.Numbers.{be32, zeros}
use Rattle.words.specs.Nul.{until_nul}
use Rattle.words.specs.Reading.{Reading, read, refused}
use Rattle.words.proofs.Choice.{choose, decide, and_left, and_right}
use Rattle.words.proofs.Zeros.{zeros_byte}
use Rattle.inventory.specs.Listing.{Entry}
use Rattle.indices.specs.declared.reading.Refusal.{Refusal}
use Rattle.std.specs.Prelude.{Result, Ok, Err}
use Rattle.words.specs.declared.refused.Refused.{Refused}
use Rattle.indices.specs.Area.{field_limit}
use Rattle.indices.specs.Reading.{length_at, field_at, good_length, good_field, fault_at, entry_at, with_entry, judged_by, read_from, reading, check_of}
use Rattle.indices.proofs.IndexLaws.{judged, fine_inside}

-- ---- the code and the NULs of a field

-- no byte of a code is a NUL
code_byte : (f : List ℕ) (i : ℕ) → i < length (until_nul f) → get_or f i 0 ≡ 0 → ⊥
unfolding until_nul
code_byte [] i h e = omega arith
code_byte (b ∷ bs) zero h e = let k = rw (eq-eqb b 0 e) at h in omega arith
code_byte (b ∷ bs) (suc i) h e = choose (eqb b 0) (λ (l : List ℕ). suc i < length l → ⊥) (λ _ k. omega arith) (λ _ k. code_byte bs i (omega arith) e) h

-- what a good field is
pub record Good (f : List ℕ) : Type 0 where
  pub some : 1 ≤ length (until_nul f)
  pub ended : length (until_nul f) + 1 ≤ length f
  pub near : length f ≤ length (until_nul f) + 4
  pub nuls : zeros (drop (length (until_nul f)) f) ≡ true

pub good : (f : List ℕ) → good_field f ≡ true → Good f
unfolding good_field
good f e =
    let n = length (until_nul f) in
    let e₁ = and_right (leb 1 n) _ e in
    let e₂ = and_right (leb (n + 1) (length f)) _ e₁ in
    record {
      some = leb-true 1 n (and_left _ _ e);
      ended = leb-true (n + 1) (length f) (and_left _ _ e₁);
      near = leb-true (length f) (n + 4) (and_left _ _ e₂);
      nuls = and_right (leb (length f) (n + 4)) _ e₂;
    }

-- a byte of a good field is a NUL just behind the code
module _ (f : List ℕ) (g : Good f) (i : ℕ) where
  nul_behind : get_or f i 0 ≡ 0 → length (until_nul f) ≤ i
  nul_behind e = let n = length (until_nul f) in decide (leb n i) (leb-true n i) (λ h. absurd (code_byte f i (leb-false n i h) e))

  other_before : (get_or f i 0 ≡ 0 → ⊥) → i < length (until_nul f)
  other_before e =
      let n = length (until_nul f) in
      let zero_at : n ≤ i → get_or f (n + (i - n)) 0 ≡ 0 = λ _. rw (get_or-drop n f (i - n) 0) at (zeros_byte (drop n f) (i - n) g.nuls) in
      decide (leb n i) (λ h. let le = leb-true n i h in let place : n + (i - n) ≡ i = omega arith in absurd (e (rw place at (zero_at le)))) (leb-false n i)

-- ---- a set with no fault

good_length_lem : (n : ℕ) → good_length n ≡ true → 4 ≤ n
unfolding good_length
good_length_lem n e =
    let some = leb-true 1 n (and_left _ _ e) in
    let whole = eqb-true (n % 4) 0 (and_right (leb n field_limit) _ (and_right (leb 1 n) _ e)) in
    omega arith

module _ (area : List ℕ) (at : ℕ) (fine : fault_at area at ≡ Ok tt) where
  field : Good (field_at area at)
  field = good (field_at area at) (judged area at fine).2

  pub fine_some : 4 ≤ length_at area at
  fine_some = good_length_lem (length_at area at) (judged area at fine).0

  field_size : length (field_at area at) ≡ length_at area at
  unfolding field_at
  field_size = simp (length-take, length-drop) (omega (arith, fine_inside area at fine))

  field_byte : (i : ℕ) → i < length_at area at → get_or (field_at area at) i 0 ≡ get_or area (at + 8 + i) 0
  unfolding field_at
  field_byte i h = rw (get_or-take, get_or-drop)

  -- one to four NULs follow the code
  pub code_ends : (length (until_nul (field_at area at)) + 1 ≤ length_at area at) × (length_at area at ≤ length (until_nul (field_at area at)) + 4)
  code_ends = rw (← field_size) (field.ended, field.near)

  -- a byte of the field by its place in the area
  module _ (place : ℕ) (from : at + 8 ≤ place) (to : place < at + 8 + length_at area at) where
    there : get_or (field_at area at) (place - (at + 8)) 0 ≡ get_or area place 0
    there = let same : at + 8 + (place - (at + 8)) ≡ place = omega arith in rw same at (field_byte (place - (at + 8)) (omega arith))

    pub nul_place : get_or area place 0 ≡ 0 → at + 8 + length (until_nul (field_at area at)) ≤ place
    nul_place e = omega (arith, nul_behind (field_at area at) field (place - (at + 8)) (there ∙ e))

    pub code_place : (get_or area place 0 ≡ 0 → ⊥) → place < at + 8 + length (until_nul (field_at area at))
    code_place e = omega (arith, other_before (field_at area at) field (place - (at + 8)) (λ k. e (sym there ∙ k)))

-- ---- sets with no fault, one after the other

-- the next n sets from a place on have none
abbrev pub Reads : ℕ → List ℕ → ℕ → Type 0
Reads n area at = check_of (read_from n area at) ≡ Ok n

counts_more : (e : Entry) (n : ℕ) (r : Reading Entry Refusal) → check_of r ≡ Ok n → check_of (with_entry e r) ≡ Ok (suc n)
counts_more e n (read es) h = let k : length es ≡ n = cc in rw k
counts_more e n (refused b k) h = cc

judged_next : (e : Entry) (at m : ℕ) (f : Result (Unit {0}) Refusal) (r : Reading Entry Refusal) → check_of (judged_by f at (with_entry e r)) ≡ Ok m → (f ≡ Ok tt) × (m ≡ suc (m - 1)) × (check_of r ≡ Ok (m - 1))
judged_next e at m (Err b) r h = (cc, cc, cc)
judged_next e at m (Ok u) (read es) h = let k : suc (length es) ≡ m = cc in let l : length es ≡ m - 1 = omega arith in (refl, omega arith, ap {B = Result ℕ (Refused Refusal)} Ok l)
judged_next e at m (Ok u) (refused b k) h = (refl, cc, cc)

pub reads_next : (n : ℕ) (area : List ℕ) (at : ℕ) → Reads (suc n) area at → (fault_at area at ≡ Ok tt) × Reads n area (at + (8 + length_at area at))
unfolding read_from
reads_next n area at h =
    let next = judged_next (entry_at area at) at (suc n) (fault_at area at) (read_from n area (at + (8 + length_at area at))) h in
    (next.0, rw (sub-one (suc n)) at next.2)

reads_fewer : (k n : ℕ) (area : List ℕ) (at : ℕ) → k ≤ n → Reads n area at → Reads k area at
unfolding read_from
reads_fewer zero n area at h r = refl
reads_fewer (suc k) zero area at h r = absurd (omega arith)
reads_fewer (suc k) (suc n) area at h r =
    let next = reads_next n area at r in
    rw next.0 (counts_more (entry_at area at) k (read_from k area (at + (8 + length_at area at))) (reads_fewer k n area (at + (8 + length_at area at)) (omega arith) next.1))

-- a check that passes n sets counts n
reads_all : (n m : ℕ) (area : List ℕ) (at : ℕ) → check_of (read_from n area at) ≡ Ok m → n ≡ m
unfolding read_from
reads_all zero m area at h = cc
reads_all (suc n) m area at h =
    let next = judged_next (entry_at area at) at m (fault_at area at) (read_from n area (at + (8 + length_at area at))) h in
    omega (arith, next.1, reads_all n (m - 1) area (at + (8 + length_at area at)) next.2)

-- the first sets of an area that a check passes
pub area_reads : (area : List ℕ) (n k : ℕ) → check_of (reading area) ≡ Ok n → k ≤ n → Reads k area 4
unfolding reading
area_reads area n k h l = decide (ltb (length area) 4) (λ t. let e = rw t at h in cc)
    (λ t. let e = rw t at h in let same : be32 area 0 ≡ n = reads_all (be32 area 0) n area 4 e in reads_fewer k n area 4 l (rw same at e))
