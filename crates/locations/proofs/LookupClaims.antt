-- What is claimed of a lookup holds.
use Rattle.std.specs.Prelude.{Option, None, Some}
use mathlib.Core.Path.{◌≡◌, refl, sym, ap, ◌∙◌}
use mathlib.Core.Bool.{true, false, false≢true}
use mathlib.Core.List.{List, []}
use Prim.Native.Nat.{ℕ, ◌+◌, ◌-◌, ◌≤◌}
use native.Mathlib.Nat.{zero-add}
use native.Mathlib.Omega.{arith}
use lib.Dec.{ltb, eqb}
use lib.ListN.{length, take, drop, length-take, length-drop}
use borrow.Author.Tests.{ne_eqb, eqb-false, leb-true, ltb-true}
use Rattle.words.specs.Claims.Exactly.{Exactly}
use Rattle.words.specs.Numbers.{be32}
use Rattle.words.specs.Nul.{until_nul}
use Rattle.words.specs.Reading.{Reading, read, refused}
use Rattle.words.proofs.Choice.{choose, decide, and_left}
use Rattle.inventory.specs.Listing.{Entry}
use Rattle.indices.specs.declared.reading.Refusal.{Refusal}
use Rattle.indices.specs.Claims.Longest.{taken}
use Rattle.indices.specs.Reading.{field_at, good_field, reading}
use Rattle.indices.proofs.IndexLaws.{judged, fine_inside, code_part}
use Rattle.indices.proofs.Fine.{code_ends}
use Rattle.locations.specs.declared.listed.Part.{Part}
use Rattle.locations.specs.declared.lookups.Location.{Location}
use Rattle.locations.specs.declared.lookups.Location.TheVariants as location
use Rattle.locations.specs.declared.lookups.Answer.TheVariants as answer
use Rattle.locations.specs.declared.lookups.Bounds.{Bounds}
use Rattle.locations.specs.Locations.{behind_nuls, fixed_part, fixed_location, part_at, first_listed, location_by, location_of, answer_of, code_of, place_of}
use Rattle.locations.specs.Inner.Terms.{Sets, first_from, no_bounds, bounds_of}
use Rattle.locations.specs.Claims.Locations.{EmptyExactly, RefusedFirst, Reserved, ListedWins, OtherwiseFixed, ended, LocationClaims}
use Rattle.locations.proofs.NulLaws.{behind_short, each_fixed}
use Rattle.locations.proofs.Listings.{FirstSet, all_read, first_set, first_wins, none_listed}
use Rattle.locations.proofs.LookupReadings.{lookup_readings}

-- ---- a code that is found has a byte, and stands inside its buffer

abbrev Inside : List ℕ → Part → Type 0
Inside l p = (1 ≤ p.length) × (p.start + p.length ≤ length l)

-- and an area without a fault is not refused
abbrev Placed : List ℕ → List ℕ → Location → Type 0
Placed area fixed (location.Refused r at) = ⊥
Placed area fixed location.NotFound = Unit {0}
Placed area fixed (location.InArea p) = Inside area p
Placed area fixed (location.InFixed p) = Inside fixed p

set_inside : (area : List ℕ) (at : ℕ) → Sets area at → Inside area (part_at area at)
unfolding good_field
set_inside area at fine =
    (leb-true 1 (length (until_nul (field_at area at))) (and_left _ _ (judged area at fine).2), omega (arith, fine_inside area at fine, (code_ends area at fine).0))

fixed_fits : (fixed : List ℕ) (index : ℕ) → (fixed_part fixed index).start + (fixed_part fixed index).length ≤ length fixed
unfolding fixed_part
fixed_fits fixed index =
    let rest : List ℕ = behind_nuls index fixed in
    decide (ltb (length (until_nul rest)) (length rest))
    (λ t. rw t (omega (arith, behind_short index fixed, ltb-true (length (until_nul rest)) (length rest) t)))
    (λ t. rw t (omega arith))

fixed_placed : (area fixed : List ℕ) (index : ℕ) → Placed area fixed (fixed_location fixed index)
unfolding fixed_location
fixed_placed area fixed index =
    choose (eqb (fixed_part fixed index).length 0) (Placed area fixed) (λ _. tt) (λ t. (positive (fixed_part fixed index).length (eqb-false (fixed_part fixed index).length 0 t), fixed_fits fixed index))
  where
    positive : (n : ℕ) → (n ≡ 0 → ⊥) → 1 ≤ n
    positive n h = omega arith

placed : (area fixed : List ℕ) (index : ℕ) (es : List Entry) → reading area ≡ read es → Placed area fixed (location_by (read es) area fixed index)
placed area fixed index es h =
    let n : ℕ = be32 area 0 in
    let sets = first_set n area 4 index es (all_read area es h) in
    choose (eqb index 0xffff_ffff) (Placed area fixed) (λ _. tt) (λ _. by_offset sets (first_from n area 4 index) refl)
  where
    by_offset : FirstSet (be32 area 0) area 4 index → (found : Option ℕ) → first_from (be32 area 0) area 4 index ≡ found
        → Placed area fixed (first_listed (be32 area 0) area 4 index (fixed_location fixed index))
    by_offset sets None e = rw (sets.none e (fixed_location fixed index)) (fixed_placed area fixed index)
    by_offset sets (Some k) e = rw (sets.some k e (fixed_location fixed index)) (set_inside area k (sets.good k e))

-- ---- a lookup by the bounds of its code

-- bounds inside a buffer, around a code
pub record Bound (area fixed code : List ℕ) (b : Bounds) : Type 0 where
  pub forwards : b.start ≤ b.end
  pub in_fixed_claim : b.fixed ≡ true → (b.end ≤ length fixed) × (take (b.end - b.start) (drop b.start fixed) ≡ code)
  pub in_area : b.fixed ≡ false → (b.end ≤ length area) × (take (b.end - b.start) (drop b.start area) ≡ code)

none_bound : (area fixed : List ℕ) → Bound area fixed [] no_bounds
none_bound area fixed = record { forwards = omega arith; in_fixed_claim = λ h. absurd (false≢true h); in_area = λ _. (omega arith, refl) }

placed_bound : (area fixed : List ℕ) (l : Location) → Placed area fixed l → Bound area fixed (code_of area fixed l) (bounds_of l)
placed_bound area fixed (location.Refused r at) p = absurd p
placed_bound area fixed location.NotFound p = none_bound area fixed
placed_bound area fixed (location.InArea q) p =
    let size : q.start + q.length - q.start ≡ q.length = omega arith in
    record { forwards = omega arith; in_fixed_claim = λ h. absurd (false≢true h); in_area = λ _. (p.1, rw size) }
placed_bound area fixed (location.InFixed q) p =
    let size : q.start + q.length - q.start ≡ q.length = omega arith in
    record { forwards = omega arith; in_fixed_claim = λ _. (p.1, rw size); in_area = λ h. absurd (false≢true (sym h)) }

pub bound : (area fixed : List ℕ) (index : ℕ) → Bound area fixed (code_of area fixed (location_of area fixed index)) (bounds_of (location_of area fixed index))
unfolding location_of
bound area fixed index = go (reading area) refl
  where
    go : (w : Reading Entry Refusal) → reading area ≡ w → Bound area fixed (code_of area fixed (location_by w area fixed index)) (bounds_of (location_by w area fixed index))
    go (refused r at) e = none_bound area fixed
    go (read es) e = placed_bound area fixed (location_by (read es) area fixed index) (placed area fixed index es e)

-- a part begins where its bounds do, in its buffer
pub part_place : (area fixed : ℕ × ℕ) (l : Location)
    → ((bounds_of l).fixed ≡ true → (fixed.0, (bounds_of l).start + fixed.1) ≡ place_of area fixed l) × ((bounds_of l).fixed ≡ false → (area.0, (bounds_of l).start + area.1) ≡ place_of area fixed l)
part_place area fixed (location.Refused r at) = (λ h. absurd (false≢true h), λ _. rw (zero-add area.1))
part_place area fixed location.NotFound = (λ h. absurd (false≢true h), λ _. rw (zero-add area.1))
part_place area fixed (location.InArea p) = (λ h. absurd (false≢true h), λ _. refl)
part_place area fixed (location.InFixed p) = (λ _. refl, λ h. absurd (false≢true (sym h)))

-- ---- the claims

-- a part with a byte is not empty
some_part : (l : List ℕ) (p : Part) → Inside l p → take p.length (drop p.start l) ≡ [] → ⊥
some_part l p h e = omega (arith, ap length e, length-take p.length (drop p.start l), length-drop p.start l, h.0, h.1)

placed_empty : (area fixed : List ℕ) (l : Location) → Placed area fixed l → Exactly (code_of area fixed l ≡ []) (answer_of l ≡ answer.Found → ⊥)
placed_empty area fixed (location.Refused r at) p = absurd p
placed_empty area fixed location.NotFound p = (λ _ k. false≢true (cc), λ _. refl)
placed_empty area fixed (location.InArea q) p = (λ e. absurd (some_part area q p e), λ k. absurd (k refl))
placed_empty area fixed (location.InFixed q) p = (λ e. absurd (some_part fixed q p e), λ k. absurd (k refl))

empty_exactly : EmptyExactly
unfolding location_of
empty_exactly area fixed index = go (reading area) refl
  where
    go : (w : Reading Entry Refusal) → reading area ≡ w → Exactly (code_of area fixed (location_by w area fixed index) ≡ []) (answer_of (location_by w area fixed index) ≡ answer.Found → ⊥)
    go (refused r at) e = (λ _ k. false≢true (cc), λ _. refl)
    go (read es) e = placed_empty area fixed (location_by (read es) area fixed index) (placed area fixed index es e)

not_refused : (area fixed : List ℕ) (l : Location) (r : Refusal) (at : ℕ) → Placed area fixed l → l ≡ location.Refused r at → ⊥
not_refused area fixed (location.Refused b k) r at p e = p
not_refused area fixed location.NotFound r at p e = false≢true (cc)
not_refused area fixed (location.InArea q) r at p e = false≢true (cc)
not_refused area fixed (location.InFixed q) r at p e = false≢true (cc)

refused_first : RefusedFirst
unfolding location_of
refused_first area fixed index r at = go (reading area) refl
  where
    go : (w : Reading Entry Refusal) → reading area ≡ w → Exactly (location_by w area fixed index ≡ location.Refused r at) (w ≡ refused r at)
    go (refused b k) e = (λ h. cc, λ h. cc)
    go (read es) e = (λ h. absurd (not_refused area fixed (location_by (read es) area fixed index) r at (placed area fixed index es e) h), λ h. cc)

reserved : Reserved
unfolding location_of
reserved area fixed es h = rw h

module _ (area : List ℕ) (index : ℕ) (es : List Entry) (h : reading area ≡ read es) (other : index ≡ 0xffff_ffff → ⊥) where
  by_sets : (fixed : List ℕ) → location_of area fixed index ≡ first_listed (be32 area 0) area 4 index (fixed_location fixed index)
  unfolding location_of
  by_sets fixed = rw (h, ne_eqb index 0xffff_ffff other)

listed_wins : ListedWins
listed_wins area fixed index before after e h other u p =
    let first = first_wins (be32 area 0) area 4 index before after e (all_read area _ h) u p in
    let here : location_of area fixed index ≡ location.InArea (part_at area (4 + taken before)) = by_sets area index _ h other fixed ∙ first.1 (fixed_location fixed index) in
    record { place = rw (← first.0) here; code = ap (code_of area fixed) here ∙ sym (code_part area (4 + taken before)) ∙ first.0 }

otherwise_fixed : OtherwiseFixed
otherwise_fixed area fixed index es h other u = by_sets area index es h other fixed ∙ none_listed (be32 area 0) area 4 index es (fixed_location fixed index) (all_read area es h) u

pub location_claims : LocationClaims
unfolding ended
location_claims =
    record {
      place_told = record { in_area = λ area fixed p. refl; in_fixed_claim = λ area fixed p. refl; nothing = λ area fixed r at. (refl, refl) };
      empty_exactly = empty_exactly;
      refused_first = refused_first;
      reserved = reserved;
      check_tells = λ r at p. (refl, refl, refl, refl);
      listed_wins = listed_wins;
      otherwise_fixed = otherwise_fixed;
      each_fixed = each_fixed;
      ended_is = (refl, λ c cs. refl);
      readings = lookup_readings;
    }
