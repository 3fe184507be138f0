-- What is known of the record of a property at a place by the numbers that the code reads there.
use mathlib.Core.Path.{◌≡◌, sym, ap, ◌∙◌}
use mathlib.Core.Bool.{Bool, true, false, cond, ◌&&◌, and-false}
use mathlib.Core.List.{List}
use Prim.Native.Nat.{ℕ, ◌+◌, ◌-◌, ◌<◌, ◌≤◌}
use native.Mathlib.Omega.{arith}
use lib.Dec.{leb, eqb}
use lib.ListN.{length, drop, length-drop}
use lib.Seq.{slice, length-slice, length-take-le}
use borrow.Author.Tests.{le-leb, lt-leb, leb-true, leb-false}
use Rattle.std.specs.Prelude.{Option, Some, None, slice_range}
use Rattle.std.proofs.lemmas.Option.{cond_some}
use Rattle.words.specs.Nul.{until_nul, is_ended}
use Rattle.words.proofs.Choice.{decide, choose, and_left, and_right}
use Rattle.words.proofs.Ends.{ended_bounds}
use Rattle.words.proofs.Ranges.{range_is}
use Rattle.records.specs.Records.{length_of, kind_of, size_of, first_record, frame_of}
use Rattle.records.specs.declared.framing.Frame.{Frame}
use Rattle.records.proofs.Steps.{drop_part, record_length, record_kind, whole_at}
use Rattle.journal.specs.Property.{name_limit, name_place, name_of, value_start, value_of, value_most, property_frame, good_property}
use Rattle.journal.specs.Holding.{property_here, property_in, held_at}
use Rattle.journal.specs.declared.property.PropertyRecord.{PropertyRecord}
use Rattle.journal.proofs.Given.{cond_none}

pub value_most_le : (kind : ℕ) → value_most kind ≤ 32_768
value_most_le kind = choose (eqb kind 5) (λ (n : ℕ). n ≤ 32_768) (λ e. omega arith) (λ e. omega arith)

-- what the frame tells
pub record PropertyFramed (len kind : ℕ) : Type 0 where
  pub low : 5 ≤ kind
  pub high : kind ≤ 6
  pub large : 8 ≤ len
  pub small : len ≤ 38 + value_most kind

pub property_framed : (len kind : ℕ) → property_frame len kind ≡ true → PropertyFramed len kind
unfolding property_frame
property_framed len kind e =
    let kinds = and_left (leb 5 kind && leb kind 6) _ e in
    let lens = and_right (leb 5 kind && leb kind 6) _ e in
    record {
      low = leb-true 5 kind (and_left _ _ kinds);
      high = leb-true kind 6 (and_right (leb 5 kind) _ kinds);
      large = leb-true 8 len (and_left _ _ lens);
      small = leb-true len _ (and_right (leb 8 len) _ lens);
    }

-- the frame by its tests, one after the other
pub frame_kind : (len kind : ℕ) → (kind < 5) → property_frame len kind ≡ false
unfolding property_frame
frame_kind len kind h = rw (lt-leb 5 kind h)

pub frame_above : (len kind : ℕ) → (6 < kind) → property_frame len kind ≡ false
unfolding property_frame
frame_above len kind h = rw (lt-leb kind 6 h, and-false (leb 5 kind))

pub frame_length : (len kind : ℕ) → 5 ≤ kind → kind ≤ 6 → property_frame len kind ≡ (leb 8 len && leb len (38 + value_most kind))
unfolding property_frame
frame_length len kind h k = rw (le-leb 5 kind h, le-leb kind 6 k)

frame_short : (len kind : ℕ) → len < 2 → property_frame len kind ≡ false
unfolding property_frame
frame_short len kind h = rw (lt-leb 8 len (omega arith), and-false (leb 5 kind && leb kind 6))

-- what the length that the code finds of a name tells
pub record NameFound (j : List ℕ) (at : ℕ) (f : Frame) (size length_found : ℕ) : Type 0 where
  pub within : 9 + length_found ≤ size
  pub over : value_most f.kind < size - (9 + length_found) → property_here j at ≡ false
  pub good : size - (9 + length_found) ≤ value_most f.kind → property_here j at ≡ true
  pub length_is : length_found ≡ length (name_of (first_record (drop at j)))

module _ (j : List ℕ) (at : ℕ) where
  abbrev here : List ℕ
  here = first_record (drop at j)

  abbrev len : ℕ
  len = length_of (drop at j)

  abbrev kind : ℕ
  kind = kind_of (drop at j)

  abbrev name : List ℕ
  name = slice (at + name_place) (at + size_of (drop at j)) j

  module _ (inside : at ≤ length j) where
    name_here : drop name_place here ≡ name
    name_here = drop_part j at name_place (size_of (drop at j)) inside

    -- the record at a place, where it fits
    module _ (fits : len + 2 ≤ length j - at) where
      size_here : length here ≡ len + 2
      size_here = length-take-le (size_of (drop at j)) (drop at j) (rw length-drop (omega arith))

      value_here : length (value_of here) ≡ len + 2 - (9 + length (until_nul name))
      unfolding value_of name_of
      value_here = length-drop (value_start here) here ∙ rw (size_here, name_here) (omega arith)

    -- the code's tests of it
    property_here_lem : property_here j at ≡ ((leb (len + 2) (length j - at) && property_frame len kind) && (is_ended name_limit name && leb (len + 2 - (9 + length (until_nul name))) (value_most kind)))
    unfolding good_property
    property_here_lem = decide (leb 2 len)
        (λ t. rw (whole_at j at, t, record_length j at, record_kind j at (leb-true 2 len t), name_here)
        (decide (leb (len + 2) (length j - at)) (λ f. rw (f, value_here (leb-true _ _ f))) (λ f. rw f)))
        (λ t. rw (whole_at j at, t, frame_short len kind (leb-false 2 len t), and-false (leb (len + 2) (length j - at))))

    -- what a good one tells
    module _ (good : property_here j at ≡ true) where
      frame_good : (leb (len + 2) (length j - at) && property_frame len kind) ≡ true
      frame_good = and_left _ _ (sym property_here_lem ∙ good)

      body_good : (is_ended name_limit name && leb (len + 2 - (9 + length (until_nul name))) (value_most kind)) ≡ true
      body_good = and_right (leb (len + 2) (length j - at) && property_frame len kind) _ (sym property_here_lem ∙ good)

      pub property_fits : len + 2 ≤ length j - at
      property_fits = leb-true _ _ (and_left _ (property_frame len kind) frame_good)

      pub property_frame_lem : PropertyFramed len kind
      property_frame_lem = property_framed len kind (and_right (leb (len + 2) (length j - at)) _ frame_good)

      pub property_named : (1 ≤ length (until_nul name)) × (length (until_nul name) ≤ name_limit) × (length (until_nul name) < length name)
      property_named = ended_bounds name_limit name (and_left _ _ body_good)

      pub name_is : name_of here ≡ until_nul name
      unfolding name_of
      name_is = ap until_nul name_here

    -- too few bytes for any
    pub held_short : length j - at < 10 → property_here j at ≡ false
    held_short h = decide (property_here j at) (λ g. absurd (omega (arith, property_fits g, (property_frame_lem g).large))) (λ g. g)

    -- by the frame that the code reads, and its test of it
    module _ (f : Frame) (framed : f ≡ frame_of (drop at j)) (t : Bool) (tested : t ≡ (leb (f.length + 2) (length j - at) && property_frame f.length f.kind)) where
      test_is : t ≡ (leb (len + 2) (length j - at) && property_frame len kind)
      test_is = tested ∙ rw framed

      pub held_frame : t ≡ false → property_here j at ≡ false
      held_frame e = property_here_lem ∙ rw (sym test_is ∙ e)

      -- by the size, and the length of the name that it finds
      module _ (yes : t ≡ true) (size : ℕ) (sized : size ≡ f.length + 2) where
        size_is : size ≡ len + 2
        size_is = sized ∙ ap (λ (g : Frame). g.length + 2) framed

        pub held_fits : (10 ≤ size) × (at + size ≤ length j)
        held_fits =
            let both = sym test_is ∙ yes in
            let frame = property_framed len kind (and_right (leb (len + 2) (length j - at)) _ both) in
            (omega (arith, size_is, frame.large), omega (arith, size_is, leb-true (len + 2) (length j - at) (and_left _ (property_frame len kind) both)))

        abbrev bytes : List ℕ
        bytes = slice_range j (at + 8) (at + size)

        name_bytes : bytes ≡ name
        name_bytes = range_is j (at + 8) (at + size) ∙ rw size_is

        module _ (found : Option ℕ) (told : found ≡ cond (is_ended name_limit bytes) (Some (length (until_nul bytes))) None) where
          pub held_name : found ≡ None → property_here j at ≡ false
          held_name e = property_here_lem ∙ rw (rw name_bytes at (cond_none (is_ended name_limit bytes) _ (sym told ∙ e)), and-false _)

          module _ (n : ℕ) (some : found ≡ Some n) where
            named : (is_ended name_limit name ≡ true) × (length (until_nul name) ≡ n)
            named = rw name_bytes at (cond_some (is_ended name_limit bytes) (length (until_nul bytes)) n (sym told ∙ some))

            here_is : property_here j at ≡ leb (size - (9 + n)) (value_most f.kind)
            here_is = property_here_lem ∙ rw (sym test_is ∙ yes, named.0, size_is, sym named.1, ap (λ (g : Frame). g.kind) framed)

            pub held_some : NameFound j at f size n
            unfolding name_of
            held_some =
                let ended = ended_bounds name_limit name named.0 in
                record {
                  within = omega (arith, ended, named.1, size_is, length-slice (at + 8) (at + (len + 2)) j (omega (arith, held_fits, size_is)));
                  over = λ h. here_is ∙ lt-leb _ _ h;
                  good = λ h. here_is ∙ le-leb _ _ h;
                  length_is = sym named.1 ∙ ap (λ (l : List ℕ). length (until_nul l)) (sym name_here);
                }

-- ---- what the code tells of a place

pub held_other : (j : List ℕ) (at : ℕ) (h : Option PropertyRecord) → h ≡ None → h ≡ held_at j at → property_here j at ≡ false
held_other j at h e q = cond_none (property_here j at) (property_in j at) (sym q ∙ e)

pub held_property : (j : List ℕ) (at : ℕ) (h : Option PropertyRecord) (r : PropertyRecord) → h ≡ Some r → h ≡ held_at j at → (property_here j at ≡ true) × (r ≡ property_in j at)
held_property j at h r e q = let told = cond_some (property_here j at) (property_in j at) r (sym q ∙ e) in (told.0, sym told.1)
