-- The writer's steps: the stores of a piece, and one piece after the other.
use mathlib.Core.Path.{◌≡◌, refl, sym, ap, subst, ◌∙◌}
use mathlib.Core.Bool.{true, false}
use mathlib.Core.List.{List, [], ◌∷◌, ◌++◌, append-nil}
use mathlib.Core.Logic.{inl, inr}
use Prim.Native.Nat.{ℕ, ◌+◌, ◌-◌, ◌≤◌, ◌<◌}
use native.Mathlib.Nat.{zero-add}
use native.Mathlib.Omega.{arith}
use lib.Dec.{leb, ltb}
use lib.ListN.{length, take, drop}
use lib.Seq.{sets, length-sets, length-take-le, take-take}
use borrow.Author.Tests.{leb-true, leb-false, le-leb, lt-leb, lt-ltb, le-ltb, ltb-true, ltb-false}
use Rattle.std.specs.Prelude.{Some, None, unwrap_or}
use Rattle.words.specs.Numbers.{be_bytes}
use Rattle.words.proofs.Choice.{decide, choose}
use Rattle.words.proofs.Numbers.{length_be_bytes}
use Rattle.words.proofs.Stores.{sets_behind}
use Rattle.records.specs.Records.{size_of, first_record, records}
use Rattle.journal.specs.Holding.{HoldsProperty}
use Rattle.node_area.specs.Head.{area_size}
use Rattle.property_area.specs.Head.{first_at}
use Rattle.property_area.specs.Piece.{Piece, piece_bytes, pieces_bytes}
use Rattle.properties.specs.declared.writing.Portion.{Portion}
use Rattle.properties.specs.declared.writing.Handed.{Handed}
use Rattle.properties.specs.Changes.{Change, property, before, from, is_of, changes_from, changes, due_at}
use Rattle.properties.specs.Filling.{header, whole, area_room, Filled, fill}
use Rattle.properties.specs.Inner.Following.{Within, FirstWithin, Resumes}
use Rattle.properties.specs.Inner.Writing.{GoodFrom, change_at, due_of, portion_at, stored_bytes, last_descriptor, last_bytes, last_handed, first_due, HandsOut}
use Rattle.properties.proofs.Placing.{has_value}
use Rattle.properties.proofs.Pieces.{piece_length}
use Rattle.properties.proofs.Offsets.{due_here, due_in}
use Rattle.properties.proofs.Steps.{changes_at, changes_end, changes_step, of_property}
use Rattle.properties.proofs.Standing.{DueHere, stands, record_fits, name_at_lem}
use Rattle.properties.proofs.Standing as standing
use Rattle.properties.proofs.Seeking.{Next, good_here_lem, good_behind}

-- the code's four stores
pub piece_stored : (area : List ℕ) (to n : ℕ) (name : List ℕ) (descriptor : ℕ) (value : List ℕ) → length name ≡ n
    → sets (sets (sets (sets area to name) (to + n) (0 ∷ [])) (to + n + 1) (be_bytes 4 descriptor)) (to + n + 5) value ≡ sets area to (name ++ (0 ∷ (be_bytes 4 descriptor ++ value)))
piece_stored area to n name descriptor value e =
    let words = be_bytes 4 descriptor in
    let first : List ℕ = sets area to name in
    let second : List ℕ = sets first (to + n) (0 ∷ []) in
    sets_behind second (to + n + 1) (to + n + 5) words value (omega (arith, length_be_bytes 4 descriptor))
    ∙ sets_behind first (to + n) (to + n + 1) (0 ∷ []) (words ++ value) (omega arith)
    ∙ sets_behind area to (to + n) name (0 ∷ (words ++ value)) (omega arith)

-- ---- the first change into the room that is left

module _ (room : ℕ) (c : Change) (cs : List Change) where
  abbrev wholly : Piece
  wholly = record { part = property c; more = false }

  abbrev cut : ℕ
  cut = c.start + (room - header c)

  abbrev partly : Piece
  partly = record { part = before cut c; more = true }

  fill_whole : whole c ≤ room → fill room (c ∷ cs) ≡ record { pieces = wholly ∷ (fill (room - whole c) cs).pieces; due = (fill (room - whole c) cs).due }
  unfolding fill
  fill_whole h = rw (le-leb (whole c) room h)

  fill_part : header c < room → room < whole c → fill room (c ∷ cs) ≡ record { pieces = partly ∷ []; due = from cut c ∷ cs }
  unfolding fill
  fill_part h k = rw (lt-leb (whole c) room k, lt-ltb (header c) room h)

  fill_none : room ≤ header c → room < whole c → fill room (c ∷ cs) ≡ record { pieces = []; due = c ∷ cs }
  unfolding fill
  fill_none h k = rw (lt-leb (whole c) room k, le-ltb (header c) room h)

-- ---- what is due, from a record of a change on

due_first : (s : ℕ) (c : Change) (cs : List Change) → Within s c → due_at s (c ∷ cs) ≡ due_of s c ∷ cs
due_first s c cs w = decide (leb s c.at)
    (λ e. due_here s c cs (leb-true _ _ e) ∙ rw e)
    (λ e. due_in s c cs (leb-false _ _ e) (inside w (leb-false _ _ e)) ∙ rw e)
  where
    inside : Within s c → c.at < s → s < c.start + length c.value
    inside (inl k) h = absurd (omega arith)
    inside (inr k) h = k.1

-- a state does not reach the changes behind it
module _ (phandle s : ℕ) where
  due_later : (at : ℕ) (rs : List (List ℕ)) → s ≤ at → due_at s (changes_from phandle at rs) ≡ changes_from phandle at rs
  unfolding due_at changes_from
  due_later at [] h = refl
  due_later at (r ∷ rs) h = choose (is_of phandle r) (λ (cs : List Change). due_at s cs ≡ cs) (λ _. rw (le-leb s at h)) (λ _. due_later (at + length r) rs (omega arith))

  within_later : (at : ℕ) (rs : List (List ℕ)) → s ≤ at → FirstWithin s (changes_from phandle at rs)
  unfolding changes_from
  within_later at [] h = tt
  within_later at (r ∷ rs) h = choose (is_of phandle r) (FirstWithin s) (λ _. inl h) (λ _. within_later (at + length r) rs (omega arith))

-- ---- the bytes of a piece

module _ (j : List ℕ) (at s : ℕ) (h : HoldsProperty j at) (w : Within s (change_at j at)) where
  abbrev due : Change
  due = due_of s (change_at j at)

  abbrev there : Portion
  there = portion_at j at s

  facts : DueHere j at h s
  facts = standing.due_here j at h s w

  name_stands : take (length due.name) (drop (at + 8) j) ≡ due.name
  name_stands = rw facts.name (sym (name_at_lem j at h))

  piece_whole : stored_bytes j there (last_descriptor there) there.length ≡ piece_bytes (record { part = property due; more = false })
  unfolding piece_bytes
  piece_whole = rw (name_stands, ← facts.value)

  -- where not all of its value goes it is no deletion
  kept : (n : ℕ) → n < length due.value → due.deleted ≡ false
  kept n l = facts.kind ∙ has_value (change_at j at) (stands j at h).good (omega (arith, (stands j at h).ends, facts.ends, facts.behind))

  piece_part : (n : ℕ) → n < length due.value → stored_bytes j there (0x1_0000_0000 - n) n ≡ piece_bytes (record { part = before (due.start + n) due; more = true })
  unfolding piece_bytes
  piece_part n l =
      let value : take n (drop due.start j) ≡ take n due.value = sym (ap (take n) facts.value ∙ take-take n (length due.value) (drop due.start j) (omega arith)) in
      let bytes : due.start + n - due.start ≡ n = omega arith in
      rw (name_stands, value, bytes, kept n l, length-take-le n due.value (omega arith))

-- ---- the loop

-- The writer stands at the record of a change or at the end, and has filled so many bytes with so many pieces: what is due from there on, filled into the room
-- that is left and stored there, gives all.
pub record Writing (start : List ℕ) (all : Filled) (phandle s : ℕ) (j area : List ℕ) (at to count : ℕ) : Type 0 where
  pub onward : GoodFrom j at
  pub found : at < length j → is_of phandle (first_record (drop at j)) ≡ true
  pub within : FirstWithin s (changes_at phandle j at)
  pub sized : length area ≡ area_size
  pub filled : to ≤ area_size
  pub few : count ≤ to
  pub number : count + length (fill (area_size - to) (due_at s (changes_at phandle j at))).pieces ≡ length all.pieces
  pub rest : (fill (area_size - to) (due_at s (changes_at phandle j at))).due ≡ all.due
  pub stored : sets area to (pieces_bytes (fill (area_size - to) (due_at s (changes_at phandle j at))).pieces) ≡ sets start first_at (pieces_bytes all.pieces)

pub writing_start : (phandle s : ℕ) (j area : List ℕ) (place at : ℕ) → length area ≡ area_size → Resumes phandle s j place → Next phandle j place at
    → Writing area (fill area_room (due_at s (changes phandle j))) phandle s j area at first_at 0
writing_start phandle s j area place at h r n =
    let due : due_at s (changes phandle j) ≡ due_at s (changes_at phandle j at) = r.due ∙ ap (due_at s) n.same in
    record {
      onward = n.onward;
      found = n.found;
      within = subst (FirstWithin s) n.same r.within;
      sized = h;
      filled = omega arith;
      few = omega arith;
      number = rw due (zero-add _);
      rest = rw due;
      stored = rw due;
    }

module _ {start : List ℕ} {all : Filled} {phandle s : ℕ} {j area : List ℕ} {at to count : ℕ} (w : Writing start all phandle s j area at to count) where
  abbrev room : ℕ
  room = area_size - to

  -- what was handed out, and the area with it
  pub record Done (h : Handed) (left : List ℕ) : Type 0 where
    pub stored : left ≡ sets start first_at (pieces_bytes all.pieces)
    pub counted : h.count ≡ length all.pieces
    pub next : h.due ≡ first_due all.due
    pub few : h.count ≤ area_size
    pub inside : unwrap_or h.due 0 ≤ length j

  -- by what the room that is left takes of what is due
  done : (h : Handed) (left : List ℕ) (ps : List Piece) (es : List Change) → fill room (due_at s (changes_at phandle j at)) ≡ record { pieces = ps; due = es }
      → left ≡ sets area to (pieces_bytes ps) → h.count ≡ count + length ps → h.due ≡ first_due es → h.count ≤ area_size → unwrap_or h.due 0 ≤ length j → Done h left
  done h left ps es f a b d few inside =
      record {
        stored = a ∙ (rw f at w.stored);
        counted = b ∙ (rw f at w.number);
        next = d ∙ ap first_due (rw f at w.rest);
        few = few;
        inside = inside;
      }

  pub writing_end : length j ≤ at → Done (record { count = count; due = None }) area
  unfolding fill due_at pieces_bytes
  writing_end h =
      done (record { count = count; due = None }) area [] [] (rw (changes_end phandle j at h)) refl (omega arith) refl (omega (arith, w.filled, w.few)) (omega arith)

  -- a change stands here
  module _ (inside : at < length j) where
    pub holds : HoldsProperty j at
    holds = record { inside = omega arith; good = of_property phandle j at (omega arith) (good_here_lem w.onward inside) (w.found inside) }

    abbrev next : ℕ
    next = at + size_of (drop at j)

    first : changes_at phandle j at ≡ change_at j at ∷ changes_at phandle j next
    first = changes_step phandle j at inside (good_here_lem w.onward inside) ∙ rw (w.found inside)

    pub first_within : Within s (change_at j at)
    first_within = subst (FirstWithin s) first w.within

    abbrev c : Change
    c = due_of s (change_at j at)

    due_is : due_at s (changes_at phandle j at) ≡ c ∷ changes_at phandle j next
    due_is = ap (due_at s) first ∙ due_first s (change_at j at) (changes_at phandle j next) first_within

    -- it does not fit whole: a part of it goes, or nothing
    module _ (h : Handed) (left : List ℕ) (over : room < whole c) (told : h ≡ last_handed (portion_at j at s) room count)
        (stored : left ≡ sets area to (last_bytes j (portion_at j at s) room)) where
      abbrev later : List Change
      later = changes_at phandle j next

      abbrev n : ℕ
      n = room - header c

      last_part : ltb (header c) room ≡ true → Done h left
      unfolding pieces_bytes
      last_part b =
          let d = facts j at s holds first_within in
          let k = ltb-true _ _ b in
          let is : h ≡ record { count = count + 1; due = Some (c.start + n) } = told ∙ rw b in
          done h left (partly room c later ∷ []) (from (cut room c later) c ∷ later) (ap (fill room) due_is ∙ fill_part room c later k over)
          (stored ∙ rw (b, append-nil (piece_bytes (partly room c later))) (ap (sets area to) (piece_part j at s holds first_within n (omega arith))))
          (ap (λ (r : Handed). r.count) is) (ap (λ (r : Handed). r.due) is)
          (rw is (omega (arith, w.filled, w.few))) (rw is (omega (arith, d.ends, record_fits j at holds)))

      last_none : ltb (header c) room ≡ false → Done h left
      unfolding pieces_bytes
      last_none b =
          let d = facts j at s holds first_within in
          let is : h ≡ record { count = count; due = Some c.at } = told ∙ rw b in
          done h left [] (c ∷ later) (ap (fill room) due_is ∙ fill_none room c later (ltb-false _ _ b) over)
          (stored ∙ rw b) (ap (λ (r : Handed). r.count) is ∙ omega arith) (ap (λ (r : Handed). r.due) is)
          (rw is (omega (arith, w.filled, w.few))) (rw is (omega (arith, d.inside, d.ends, record_fits j at holds)))

      last_there : Done h left
      last_there = decide (ltb (header c) room) last_part last_none

    -- by what the code read of it
    module _ (p : Portion) (e : p ≡ portion_at j at s) where
      pub portion_fits : (p.name + p.name_length ≤ length j) × (p.value + p.length ≤ length j) × (p.end ≤ length j) × (at + 9 + p.name_length + p.length ≤ p.end)
      portion_fits =
          let d = facts j at s holds first_within in
          let n = ap length d.name in
          let fits = record_fits j at holds in
          rw e (omega (arith, d.ends, d.behind, n), omega (arith, d.ends), fits, omega (arith, d.ends, d.behind, n))

      pub portion_onward : GoodFrom j p.end
      portion_onward = rw e (good_behind w.onward inside)

      -- it goes whole
      pub writing_next : (taken next-at : ℕ) → taken ≡ p.name_length + 5 + p.length → taken ≤ room → Next phandle j p.end next-at
          → Writing start all phandle s j (sets area to (stored_bytes j p (last_descriptor p) p.length)) next-at (to + taken) (count + 1)
      unfolding pieces_bytes
      writing_next taken next-at t h n =
          let d = facts j at s holds first_within in
          let later = changes_at phandle j next in
          let named : p.name_length ≡ length c.name = ap (λ (q : Portion). q.name_length) e in
          let long : p.length ≡ length c.value = ap (λ (q : Portion). q.length) e in
          let ends : p.end ≡ next = ap (λ (q : Portion). q.end) e in
          let more = ap (fill room) due_is ∙ fill_whole room c later (omega arith) in
          let reach : s ≤ next-at = omega (arith, d.reached, n.forward) in
          let after : due_at s (changes_at phandle j next-at) ≡ later =
          due_later phandle s next-at (records (drop next-at j)) reach ∙ sym (ap (changes_at phandle j) (sym ends) ∙ n.same) in
          let left : area_size - (to + taken) ≡ room - whole c = omega arith in
          let bytes : stored_bytes j p (last_descriptor p) p.length ≡ piece_bytes (wholly room c later) = rw e (piece_whole j at s holds first_within) in
          let rest : List Piece = (fill (room - whole c) later).pieces in
          record {
            onward = n.onward;
            found = n.found;
            within = within_later phandle s next-at (records (drop next-at j)) reach;
            sized = length-sets area to (stored_bytes j p (last_descriptor p) p.length) ∙ w.sized;
            filled = omega (arith, w.filled);
            few = omega (arith, w.few);
            number = rw (left, after) (omega (arith, ap (λ (f : Filled). length f.pieces) more, w.number));
            rest = rw (left, after) (sym (ap (λ (f : Filled). f.due) more) ∙ w.rest);
            stored = rw (left, after, bytes)
                (sets_behind area to (to + taken) (piece_bytes (wholly room c later)) (pieces_bytes rest) (omega (arith, piece_length (wholly room c later)))
                ∙ ap (λ (f : Filled). sets area to (pieces_bytes f.pieces)) (sym more) ∙ w.stored);
          }

      -- it does not
      pub writing_last : (h : Handed) (left : List ℕ) → room < p.name_length + 5 + p.length → h ≡ last_handed p room count → left ≡ sets area to (last_bytes j p room) → Done h left
      writing_last h left o f g = last_there h left (rw e at o) (rw e at f) (rw e at g)

-- what is due at a state
pub handed_out : {phandle s : ℕ} {j start area : List ℕ} {at to count : ℕ} (w : Writing start (fill area_room (due_at s (changes phandle j))) phandle s j area at to count)
    (h : Handed) (left : List ℕ) → Done w h left → HandsOut phandle s j start left h
handed_out w h left d = record { stored = d.stored; counted = d.counted; next = d.next; few = d.few; inside = d.inside }
