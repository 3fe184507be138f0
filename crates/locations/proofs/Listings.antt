-- Laws of the first set of an index work area that lists an index.
use Rattle.std.specs.Prelude.{Err, Ok, Result, Option, None, Some}
use mathlib.Core.Path.{◌≡◌, refl, sym, ap, ◌∙◌}
use mathlib.Core.Bool.{Bool, true, false, cond, ◌&&◌, false≢true}
use mathlib.Core.List.{List, [], ◌∷◌, ◌++◌}
use Prim.Native.Nat.{ℕ, zero, suc, ◌+◌, ◌-◌, ◌*◌, ◌/◌, ◌%◌, ◌<◌, ◌≤◌}
use native.Mathlib.Nat.{add_assoc}
use native.Mathlib.Omega.{arith}
use lib.Dec.{leb, ltb, eqb}
use lib.ListN.{length, drop}
use borrow.Author.Tests.{eq-eqb, ne_eqb, eqb-true, le-ltb}
use Rattle.words.specs.Numbers.{be32}
use Rattle.words.specs.Nul.{until_nul}
use Rattle.words.specs.Reading.{Reading, read, refused}
use Rattle.words.proofs.Choice.{decide, and_right}
use Rattle.inventory.specs.Listing.{Entry}
use Rattle.indices.specs.declared.reading.Refusal.{Refusal}
use Rattle.indices.specs.Area.{field_limit}
use Rattle.indices.specs.Claims.Longest.{taken}
use Rattle.indices.specs.Reading.{length_at, field_at, good_length, fault_at, entry_at, with_entry, judged_by, read_from, reading}
use Rattle.indices.proofs.IndexLaws.{judged, fine_inside}
use Rattle.indices.proofs.Fine.{code_ends}
use Rattle.words.specs.declared.refused.Refused.{Refused}
use Rattle.locations.specs.declared.lookups.Location.{Location}
use Rattle.locations.specs.declared.lookups.Location.TheVariants as location
use Rattle.locations.specs.Locations.{part_at, first_listed, fixed_location, location_by, location_of}
use Rattle.locations.specs.Inner.Terms.{Sets, first_found, first_from, listing_by, listing_of}
use Rattle.locations.specs.Claims.Locations.{Unlisted}

-- ---- the search, in one pass with the judgement

-- what a reading tells with an offset, and the offset that was found before another
abbrev told : Reading Entry Refusal → Option ℕ → Result (Option ℕ) (Refused Refusal)
told (refused r at) n = Err (record { refusal = r; offset = at })
told (read es) n = Ok n

abbrev kept : Option ℕ → Option ℕ → Option ℕ
kept None later = later
kept (Some n) later = Some n

listing_told : (r : Reading Entry Refusal) (area : List ℕ) (index : ℕ) → listing_by r area index ≡ told r (first_from (be32 area 0) area 4 index)
listing_told (refused r at) area index = refl
listing_told (read es) area index = refl

told_more : (e : Entry) (r : Reading Entry Refusal) (n : Option ℕ) → told (with_entry e r) n ≡ told r n
told_more e (refused r at) n = refl
told_more e (read es) n = refl

kept_none : (found : Option ℕ) → kept found None ≡ found
kept_none None = refl
kept_none (Some n) = refl

kept_more : (found : Option ℕ) (at : ℕ) (later : Option ℕ) (lists : Bool) → kept found (cond lists (Some at) later) ≡ kept (first_found found at lists) later
kept_more None at later true = refl
kept_more None at later false = refl
kept_more (Some n) at later lists = refl

-- a search that stands at the place of a set: what it tells from there on is what the whole search tells
pub record Sought (area : List ℕ) (index count at passed : ℕ) (found : Option ℕ) : Type 0 where
  pub inside : at ≤ length area
  pub from : 4 ≤ at
  pub few : passed ≤ count
  pub tells : listing_of area index ≡ told (read_from (count - passed) area at) (kept found (first_from (count - passed) area at index))

pub sought_first : (area : List ℕ) (index count : ℕ) → 4 ≤ length area → count ≡ be32 area 0 → Sought area index count 4 0 None
unfolding listing_of reading
sought_first area index count h e =
    let all : count - 0 ≡ count = omega arith in
    record { inside = h; from = omega arith; few = omega arith; tells = rw (le-ltb (length area) 4 h, all, e) (listing_told (read_from (be32 area 0) area 4) area index) }

module _ {area : List ℕ} {index count at passed : ℕ} {found : Option ℕ} (s : Sought area index count at passed found) where
  pub sought_end : count ≤ passed → Ok found ≡ listing_of area index
  unfolding read_from first_from
  sought_end h = let none : count - passed ≡ 0 = omega arith in rw (s.tells, none, kept_none found)

  module _ (more : passed < count) where
    ahead : count - passed ≡ suc (count - (passed + 1))
    ahead = omega arith

    pub sought_bad : (r : Refusal) → fault_at area at ≡ Err r → Err (record { refusal = r; offset = at }) ≡ listing_of area index
    unfolding read_from
    sought_bad r e = rw (s.tells, ahead, e)

    pub sought_fine : (n : ℕ) (first : Option ℕ) (lists : Bool) → n ≡ be32 area (at + 4) → fault_at area at ≡ Ok tt → lists ≡ eqb (be32 area at) index → first ≡ first_found found at lists
        → Sought area index count (at + 8 + n) (passed + 1) first
    unfolding read_from first_from length_at
    sought_fine n first lists l e same f =
        let later : Option ℕ = first_from (count - (passed + 1)) area (at + 8 + n) index in
        record {
          inside = omega (arith, fine_inside area at e);
          from = omega (arith, s.from);
          few = omega arith;
          tells = rw (s.tells, ahead, e, ← l, ← add_assoc at 8 n, ← same, f) (told_more (entry_at area at) (read_from (count - (passed + 1)) area (at + 8 + n)) (kept found (cond lists (Some at) later)) ∙ ap (told (read_from (count - (passed + 1)) area (at + 8 + n))) (kept_more found at later lists));
        }

-- ---- the sets of a reading without a fault

-- the first of them
set_read : (f : Result (Unit {0}) Refusal) (at : ℕ) (e : Entry) (r : Reading Entry Refusal) (es : List Entry) → judged_by f at (with_entry e r) ≡ read es → (f ≡ Ok tt) × (r ≡ read (drop 1 es)) × (es ≡ e ∷ drop 1 es)
set_read (Err b) at e r es h = (cc, cc, cc)
set_read (Ok u) at e (refused b k) es h = (refl, cc, cc)
set_read (Ok u) at e (read ds) es h = let k : es ≡ e ∷ ds = cc in rw k (refl, refl, refl)

first_read : (n : ℕ) (area : List ℕ) (at : ℕ) (es : List Entry) → read_from (suc n) area at ≡ read es
    → (fault_at area at ≡ Ok tt) × (read_from n area (at + (8 + length_at area at)) ≡ read (drop 1 es)) × (es ≡ entry_at area at ∷ drop 1 es)
unfolding read_from
first_read n area at es h = set_read (fault_at area at) at (entry_at area at) (read_from n area (at + (8 + length_at area at))) es h

pub all_read : (area : List ℕ) (es : List Entry) → reading area ≡ read es → read_from (be32 area 0) area 4 ≡ read es
unfolding reading
all_read area es h = decide (ltb (length area) 4) (λ t. let e = rw t at h in cc) (λ t. rw t at h)

-- there is none, or a good set that is found
pub record FirstSet (n : ℕ) (area : List ℕ) (at index : ℕ) : Type 0 where
  pub none : first_from n area at index ≡ None → (otherwise : Location) → first_listed n area at index otherwise ≡ otherwise
  pub good : (k : ℕ) → first_from n area at index ≡ Some k → Sets area k
  pub some : (k : ℕ) → first_from n area at index ≡ Some k → (otherwise : Location) → first_listed n area at index otherwise ≡ location.InArea (part_at area k)

pub first_set : (n : ℕ) (area : List ℕ) (at index : ℕ) (es : List Entry) → read_from n area at ≡ read es → FirstSet n area at index
unfolding first_from first_listed
first_set zero area at index es h = record { none = λ _ o. refl; good = λ k e. cc; some = λ k e o. cc }
first_set (suc n) area at index es h =
    let next = first_read n area at es h in
    let later = first_set n area (at + (8 + length_at area at)) index (drop 1 es) next.1 in
    decide (eqb (be32 area at) index)
    (λ t. record {
      none = λ e o. let z = rw t at e in cc;
      good = λ k e. let z = rw t at e in let same : at ≡ k = cc in rw (← same) next.0;
      some = λ k e o. let z = rw t at e in let same : at ≡ k = cc in rw (t, ← same);
    })
    (λ t. record { none = λ e o. rw t (later.none (rw t at e) o); good = λ k e. later.good k (rw t at e); some = λ k e o. rw t (later.some k (rw t at e) o) })

-- the place behind no entries, and behind a good set and entries after it
pub none_taken : (at : ℕ) → at + taken [] ≡ at
unfolding taken
none_taken at = omega arith

set_size : (n c : ℕ) → n % 4 ≡ 0 → c + 1 ≤ n → n ≤ c + 4 → n ≡ 4 * (c / 4 + 1)
set_size n c h k l = omega arith

pub set_taken : (area : List ℕ) (at : ℕ) (es : List Entry) → fault_at area at ≡ Ok tt → at + (8 + length_at area at) + taken es ≡ at + taken (entry_at area at ∷ es)
unfolding taken good_length
set_taken area at es h =
    let n = length_at area at in
    let four : n % 4 ≡ 0 = eqb-true (n % 4) 0 (and_right (leb n field_limit) (eqb (n % 4) 0) (and_right (leb 1 n) (leb n field_limit && eqb (n % 4) 0) (judged area at h).0)) in
    omega (arith, set_size n (length (until_nul (field_at area at))) four (code_ends area at h).0 (code_ends area at h).1)

-- the first entry with an index, and an index that none has
pub first_wins : (n : ℕ) (area : List ℕ) (at index : ℕ) (before after : List Entry) (e : Entry) → read_from n area at ≡ read (before ++ (e ∷ after)) → Unlisted index before → e.index ≡ index
    → (until_nul (field_at area (at + taken before)) ≡ e.code) × ((otherwise : Location) → first_listed n area at index otherwise ≡ location.InArea (part_at area (at + taken before)))
unfolding first_listed read_from
first_wins zero area at index [] after e h u p = (cc, λ o. cc)
first_wins zero area at index (b ∷ before) after e h u p = (cc, λ o. cc)
first_wins (suc n) area at index [] after e h u p =
    let next = first_read n area at (e ∷ after) h in
    let same : entry_at area at ≡ e = cc in
    let lists : be32 area at ≡ index = ap (λ (x : Entry). x.index) same ∙ p in
    rw (eq-eqb (be32 area at) index lists, none_taken at) (ap (λ (x : Entry). x.code) same, λ o. refl)
first_wins (suc n) area at index (b ∷ before) after e h u p =
    let next = first_read n area at (b ∷ (before ++ (e ∷ after))) h in
    let same : entry_at area at ≡ b = cc in
    rw (ne_eqb (be32 area at) index (λ k. u.0 (ap (λ (x : Entry). x.index) (sym same) ∙ k)), ← same, ← set_taken area at before next.0) (first_wins n area (at + (8 + length_at area at)) index before after e next.1 u.1 p)

pub none_listed : (n : ℕ) (area : List ℕ) (at index : ℕ) (es : List Entry) (otherwise : Location) → read_from n area at ≡ read es → Unlisted index es → first_listed n area at index otherwise ≡ otherwise
unfolding first_listed
none_listed zero area at index es o h u = refl
none_listed (suc n) area at index [] o h u = let next = first_read n area at [] h in cc
none_listed (suc n) area at index (e ∷ es) o h u =
    let next = first_read n area at (e ∷ es) h in
    let same : entry_at area at ≡ e = cc in
    rw (ne_eqb (be32 area at) index (λ k. u.0 (ap (λ (x : Entry). x.index) (sym same) ∙ k))) (none_listed n area (at + (8 + length_at area at)) index es o next.1 u.1)

-- ---- a location by what the search tells

module _ (area fixed : List ℕ) (index : ℕ) where
  by_refusal : (w : Reading Entry Refusal) (x : Refused Refusal) → listing_by w area index ≡ Err x → location.Refused x.refusal x.offset ≡ location_by w area fixed index
  by_refusal (refused b k) x h = let same : record { refusal = b; offset = k } ≡ x = cc in rw (← same)
  by_refusal (read es) x h = cc

  pub located_refused : (x : Refused Refusal) → listing_of area index ≡ Err x → location.Refused x.refusal x.offset ≡ location_of area fixed index
  unfolding listing_of location_of
  located_refused x h = by_refusal (reading area) x h

  -- the area has no fault
  abbrev at_first : Option ℕ
  at_first = first_from (be32 area 0) area 4 index

  abbrev by_sets : Location
  by_sets = cond (eqb index 0xffff_ffff) location.NotFound (first_listed (be32 area 0) area 4 index (fixed_location fixed index))

  by_first : (w : Reading Entry Refusal) (found : Option ℕ) → reading area ≡ w → listing_by w area index ≡ Ok found → (at_first ≡ found) × FirstSet (be32 area 0) area 4 index × (location_by w area fixed index ≡ by_sets)
  by_first (refused b k) found e h = absurd (false≢true (cc))
  by_first (read es) found e h = (cc, first_set (be32 area 0) area 4 index es (all_read area es e), refl)

  module _ (found : Option ℕ) (told : listing_of area index ≡ Ok found) where
    first : (at_first ≡ found) × FirstSet (be32 area 0) area 4 index × (location_of area fixed index ≡ by_sets)
    unfolding listing_of location_of
    first = by_first (reading area) found refl told

    pub located_reserved : index ≡ 0xffff_ffff → location.NotFound ≡ location_of area fixed index
    located_reserved h = rw (first.2, eq-eqb index 0xffff_ffff h)

    module _ (other : index ≡ 0xffff_ffff → ⊥) where
      pub located_fixed : found ≡ None → fixed_location fixed index ≡ location_of area fixed index
      located_fixed h = rw (first.2, ne_eqb index 0xffff_ffff other) (sym (first.1.none (first.0 ∙ h) (fixed_location fixed index)))

      pub located_area : (at : ℕ) → found ≡ Some at → location.InArea (part_at area at) ≡ location_of area fixed index
      located_area at h = rw (first.2, ne_eqb index 0xffff_ffff other, first.1.some at (first.0 ∙ h) (fixed_location fixed index))

    pub first_good : (at : ℕ) → found ≡ Some at → Sets area at
    first_good at h = first.1.good at (first.0 ∙ h)
