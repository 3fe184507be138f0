-- Laws of a view's steps.
use Rattle.std.specs.Prelude.{Err, Ok, Result}
use mathlib.Core.Path.{◌≡◌, refl, ap, ◌∙◌}
use mathlib.Core.Bool.{false, cond}
use mathlib.Core.List.{List, [], ◌∷◌}
use Prim.Native.Nat.{ℕ, zero, suc, ◌+◌, ◌-◌, ◌≤◌, ◌<◌}
use native.Mathlib.Numerals.{add-one, sub-one}
use lib.Dec.{ltb, eqb-suc-zero}
use lib.ListN.{length, drop}
use lib.Seq.{drop-drop}
use borrow.Author.Tests.{eq-eqb, ne_eqb, lt-ltb, le-ltb}
use Rattle.words.specs.Numbers.{be32}
use Rattle.words.proofs.Choice.{decide}
use Rattle.inventory.specs.Listing.{Entry}
use Rattle.indices.specs.declared.reading.Refusal.{Refusal}
use Rattle.indices.specs.declared.reading.Refusal.TheVariants.{Short, Past}
use Rattle.indices.specs.declared.reading.Cursor.{Cursor}
use Rattle.indices.specs.Reading.{length_at, fault_at, entry_at, with_entry, judged_by, read_from, reading}
use Rattle.indices.specs.Cursor.{start_of}
use Rattle.indices.proofs.IndexLaws.{code_part}
use Rattle.locations.specs.declared.views.Given.TheVariants as given
use Rattle.locations.specs.Views.{stays, advance_by, advance_of, cursor_behind, step_number, Last, end, refusal, Listed, nothing_then, entry_then, listed_by, listed_from, listing, reading_by, Shown, entry, last, shown}
use Rattle.locations.specs.Claims.Locations.{AsTheReader}

-- ---- a step, from any cursor: its four ways

pub fault_past : (area : List ℕ) (at : ℕ) → length area - at < 8 → Err Past ≡ fault_at area at
unfolding fault_at
fault_past area at h = rw (lt-ltb (length area - at) 8 h)

module _ (area : List ℕ) (c : Cursor) where
  pub advance_short : length area < 4 → stays (given.Refused Short 0) c ≡ advance_of area c
  unfolding advance_of
  advance_short h = rw (lt-ltb (length area) 4 h)

  module _ (long : 4 ≤ length area) where
    pub advance_end : c.left ≡ 0 → stays given.End c ≡ advance_of area c
    unfolding advance_of
    advance_end h = rw (le-ltb (length area) 4 long, eq-eqb c.left 0 h)

    pub advance_set : (f : Result (Unit {0}) Refusal) → (c.left ≡ 0 → ⊥) → f ≡ fault_at area c.at → advance_by f area c ≡ advance_of area c
    unfolding advance_of
    advance_set f h e = rw (le-ltb (length area) 4 long, ne_eqb c.left 0 h, e)

-- ---- the steps and the listing

-- what a cursor has before it, as the listing has it; the first of that, and the rest
ahead : List ℕ → Cursor → Listed
ahead area c = cond (ltb (length area) 4) (nothing_then (refusal Short 0)) (listed_from c.left area c.at)

abbrev first_of : List Entry → Last → Shown
first_of [] l = last l
first_of (e ∷ es) l = entry e

abbrev behind : ℕ → Listed → Listed
behind n l = record { entries = drop n l.entries; last = l.last }

-- a step shows the first and leaves the rest
abbrev Steps : List ℕ → Cursor → Type 0
Steps area c = (shown area (advance_of area c).given ≡ first_of (ahead area c).entries (ahead area c).last) × (ahead area (advance_of area c).cursor ≡ behind 1 (ahead area c))

steps_set : (area : List ℕ) (at n : ℕ) → ltb (length area) 4 ≡ false → (f : Result (Unit {0}) Refusal) → fault_at area at ≡ f → Steps area (record { at = at; left = suc n })
unfolding ahead advance_of listed_from
steps_set area at n t (Err r) e = rw (t, eqb-suc-zero n, e) (refl, rw e refl)
steps_set area at n t (Ok u) e = rw (t, eqb-suc-zero n, e, sub-one (suc n), ← code_part area at) (refl, refl)

steps : (area : List ℕ) (at left : ℕ) → Steps area (record { at = at; left = left })
unfolding ahead advance_of listed_from
steps area at zero = decide (ltb (length area) 4) (λ t. rw t (refl, refl)) (λ t. rw t (refl, refl))
steps area at (suc n) = decide (ltb (length area) 4) (λ t. rw t (refl, refl)) (λ t. steps_set area at n t (fault_at area at) refl)

-- behind n steps from the start, the listing without its first n entries is ahead
all_ahead : (area : List ℕ) → ahead area (start_of area) ≡ listing area
unfolding ahead listing
all_ahead area = decide (ltb (length area) 4) (λ t. rw t refl) (λ t. rw t refl)

steps_leave : (n : ℕ) (area : List ℕ) → ahead area (cursor_behind n area) ≡ behind n (listing area)
unfolding cursor_behind
steps_leave zero area = all_ahead area
steps_leave (suc n) area = let c = cursor_behind n area in rw ((steps area c.at c.left).1, steps_leave n area, drop-drop 1 n (listing area).entries, add-one n)

pub steps_show : (n : ℕ) (area : List ℕ) → shown area (step_number n area) ≡ first_of (drop n (listing area).entries) (listing area).last
steps_show n area = let c = cursor_behind n area in (steps area c.at c.left).0 ∙ ap (λ (l : Listed). first_of l.entries l.last) (steps_leave n area)

-- ---- the listing and the reading: the same entries, or the same refusal

judged_listed : (f : Result (Unit {0}) Refusal) (e : Entry) (at : ℕ) (es : List Entry) (l : Last)
    → let more = listed_by f at (entry_then e (record { entries = es; last = l })) in judged_by f at (with_entry e (reading_by l es)) ≡ reading_by more.last more.entries
judged_listed (Err r) e at es l = refl
judged_listed (Ok u) e at es end = refl
judged_listed (Ok u) e at es (refusal r k) = refl

reads_listed : (n : ℕ) (area : List ℕ) (at : ℕ) → read_from n area at ≡ reading_by (listed_from n area at).last (listed_from n area at).entries
unfolding read_from listed_from
reads_listed zero area at = refl
reads_listed (suc n) area at =
    let more = listed_from n area (at + (8 + length_at area at)) in
    rw (reads_listed n area (at + (8 + length_at area at))) (judged_listed (fault_at area at) (entry_at area at) at more.entries more.last)

pub as_the_reader : AsTheReader
unfolding reading listing
as_the_reader area = decide (ltb (length area) 4) (λ t. rw t refl) (λ t. rw t (reads_listed (be32 area 0) area 4))
