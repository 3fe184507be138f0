-- One pass over the journal: what is known of a node's session when the pass has come to a place.
use mathlib.Core.Path.{◌≡◌, refl, sym, subst, ◌∙◌}
use mathlib.Core.Bool.{Bool, true, false, cond, ◌&&◌, ◌||◌, or-true, or-false, or_assoc, false≢true}
use mathlib.Core.List.{List, [], ◌∷◌}
use mathlib.Core.Logic.{◌⊎◌, inl, inr, ⊎_elim, ⊎_map}
use Prim.Native.Nat.{ℕ, zero, suc, ◌+◌, ◌-◌, ◌≤◌, ◌<◌}
use native.Mathlib.Omega.{arith}
use lib.Dec.{eqb}
use lib.ListN.{length, drop}
use borrow.Author.Tests.{eqb-true, le-leb, lt-leb}
use Rattle.words.proofs.Choice.{choose}
use Rattle.std.specs.Prelude.{Option, Some, None, Err, is_some, ok_or}
use Rattle.std.specs.Bool.{then_some}
use Rattle.std.proofs.lemmas.Option.{cond_some, none-some, same_Some}
use Rattle.records.specs.Records.{kind_of, size_of, first_record, records, all_good, size_limit}
use Rattle.records.proofs.Steps.{good_step, bad_step, none_good, formed, not_formed, oversized}
use Rattle.journal.specs.Journal.{good_record, well_formed}
use Rattle.journal.specs.Terms.{node_here}
use Rattle.journal.specs.Holding.{good_here, property_here, property_in, held_at}
use Rattle.journal.specs.declared.property.PropertyRecord.{PropertyRecord}
use Rattle.journal.proofs.Given.{cond_none}
use Rattle.journal.proofs.PropertyLaws.{property_frame_lem, held_other, held_property}
use Rattle.journal.proofs.RecordLaws.{good_kind}
use Rattle.journal.proofs.Sizes.{sized_here, kind_read, phandle_read}
use Rattle.journal.proofs.GoodLaws.{node_good, property_good, neither_good}
use Rattle.properties.specs.declared.walk.Walk.{Walk}
use Rattle.properties.specs.Changes.{Change, change_of, is_of, changes, stop, due_at, is_due}
use Rattle.properties.specs.Filling.{area_room, header}
use Rattle.properties.specs.Session.{cuts, begins, stops, room_after, boundaries, states, member}
use Rattle.properties.specs.declared.following.Refusal.TheVariants.{Carried}
use Rattle.properties.specs.Inner.Following.{walked_over, walked_past, is_carried, FirstWithin, Resumes, FollowFinds}
use Rattle.properties.proofs.Offsets.{due_past}
use Rattle.properties.proofs.Members.{member_append}
use Rattle.properties.proofs.Steps.{ChangeStands, extent_in, change_good, changes_at, changes_end, changes_step, of_property}

-- ---- a state in one change is its record's offset, or lies in its value

either : (a b : Bool) → (a || b) ≡ true → (a ≡ true) ⊎ (b ≡ true)
either true b e = inl e
either false b e = inr e

cuts_within : (f r v l s : ℕ) → member s (cuts f r v l) ≡ true → (v ≤ s) × (s < v + l)
unfolding cuts member
cuts_within f r v zero s e = absurd (false≢true e)
cuts_within f zero v (suc l) s e =
    ⊎_elim
    (λ (q : eqb s v ≡ true). (omega (arith, eqb-true s v q), omega (arith, eqb-true s v q)))
    (λ (q : member s (cuts f (f - 1) (suc v) l) ≡ true). let k = cuts_within f (f - 1) (suc v) l s q in (omega (arith, k), omega (arith, k)))
    (either (eqb s v) _ e)
cuts_within f (suc r) v (suc l) s e = let k = cuts_within f r (suc v) l s e in (omega (arith, k), omega (arith, k))

first_within : (t : Bool) (at s : ℕ) → member s (cond t [] (at ∷ [])) ≡ true → s ≡ at
unfolding member
first_within true at s e = absurd (false≢true e)
first_within false at s e = eqb-true s at (sym (or-false (eqb s at)) ∙ e)

pub stops_within : (room h at v l s : ℕ) → member s (stops room h at v l) ≡ true → (s ≡ at) ⊎ ((v ≤ s) × (s < v + l))
unfolding stops
stops_within room h at v l s e =
    let t = begins room h l in
    ⊎_map (first_within t at s) (cuts_within _ _ v l s) (either _ _ (sym (member_append s (cond t [] (at ∷ [])) _) ∙ e))

-- ---- what a pass knows at a place

-- where the session goes on at the state, when the pass has come to `at`
pub record GoesOn (phandle s : ℕ) (j : List ℕ) (at place : ℕ) : Type 0 where
  pub inside : place ≤ length j
  pub good : all_good good_record (records (drop place j)) ≡ all_good good_record (records (drop at j))
  pub due : due_at s (changes phandle j) ≡ due_at s (changes_at phandle j place)
  pub within : FirstWithin s (changes_at phandle j place)

-- what was found so far, and what the changes from `at` on give, are what all changes give
pub record Passed (phandle s : ℕ) (j : List ℕ) (at : ℕ) (w : Walk) : Type 0 where
  pub inside : at ≤ length j
  pub good : all_good good_record (records j) ≡ all_good good_record (records (drop at j))
  pub any : is_due (changes phandle j) ≡ (w.any || is_due (changes_at phandle j at))
  pub found : member s (states (changes phandle j)) ≡ (is_some w.place || member s (boundaries w.room (changes_at phandle j at)))
  pub due : at ≤ s → due_at s (changes phandle j) ≡ due_at s (changes_at phandle j at)
  pub place : (p : ℕ) → w.place ≡ Some p → GoesOn phandle s j at p

-- a place that is told only where a test holds, or else is another
told_some : (t : Bool) (x : ℕ) → is_some (then_some t x) ≡ t
told_some true x = refl
told_some false x = refl

told_where : (t : Bool) (x p : ℕ) → then_some t x ≡ Some p → (t ≡ true) × (x ≡ p)
told_where true x p e = (refl, same_Some x p e)
told_where false x p e = absurd (none-some p e)

told_else : (t : Bool) (x : ℕ) (o : Option ℕ) → is_some (cond t (Some x) o) ≡ (is_some o || t)
told_else true x o = sym (or-true (is_some o))
told_else false x o = sym (or-false (is_some o))

pub pass_start : (phandle s : ℕ) (j : List ℕ) (p : Option ℕ) → p ≡ then_some (eqb s 0) 0 → Passed phandle s j 0 (record { room = area_room; any = false; place = p })
unfolding states member
pass_start phandle s j p e = record {
  inside = omega arith;
  good = refl;
  any = refl;
  found = rw (e, told_some (eqb s 0) 0);
  due = λ h. refl;
  place = λ q h. let told = told_where (eqb s 0) 0 q (sym e ∙ h) in
      subst (λ (n : ℕ). GoesOn phandle s j 0 n) told.1
      (record { inside = omega arith; good = refl; due = refl; within = first (eqb-true s 0 told.0) (changes_at phandle j 0) });
}
  where
    first : s ≡ 0 → (cs : List Change) → FirstWithin s cs
    first z [] = tt
    first z (c ∷ cs) = inl (omega arith)

-- ---- past a good record

module _ {phandle s : ℕ} {j : List ℕ} {at : ℕ} {w : Walk} (g : Passed phandle s j at w) (more : at < length j) (whole : good_here j at ≡ true) where
  abbrev here : List ℕ
  here = first_record (drop at j)

  abbrev next : ℕ
  next = at + size_of (drop at j)

  abbrev later : List Change
  later = changes_at phandle j next

  same_good : all_good good_record (records (drop at j)) ≡ all_good good_record (records (drop next j))
  same_good = good_step good_record j at more whole

  -- a place that was found before stays
  place_on : {place : ℕ} → GoesOn phandle s j at place → GoesOn phandle s j next place
  place_on p = record { inside = p.inside; good = p.good ∙ same_good; due = p.due; within = p.within }

  -- it is none of the node's
  module _ (o : is_of phandle here ≡ false) where
    same_changes : changes_at phandle j at ≡ later
    same_changes = changes_step phandle j at more whole ∙ rw o

    pass_other : Passed phandle s j next w
    pass_other = record {
      inside = (sized_here j at whole).1;
      good = g.good ∙ same_good;
      any = g.any ∙ rw same_changes;
      found = g.found ∙ rw same_changes;
      due = λ h. g.due (omega arith) ∙ rw same_changes;
      place = λ p e. place_on (g.place p e);
    }

  -- it holds a change of the node's
  module _ (o : is_of phandle here ≡ true) where
    abbrev change : Change
    change = change_of at here

    abbrev is_stop : Bool
    is_stop = member s (stops w.room (header change) at change.start (length change.value))

    stands : ChangeStands j at change
    stands = change_good j at (omega arith) (of_property phandle j at (omega arith) whole o)

    first_change : changes_at phandle j at ≡ change ∷ later
    first_change = changes_step phandle j at more whole ∙ rw o

    found_next : (is_some w.place || member s (boundaries w.room (change ∷ later)))
        ≡ (is_some (cond is_stop (Some at) w.place) || member s (boundaries (room_after w.room (header change) (length change.value)) later))
    unfolding boundaries
    found_next =
        let ends = stops w.room (header change) at change.start (length change.value) in
        let rest = boundaries (room_after w.room (header change) (length change.value)) later in
        rw (member_append s ends rest, told_else is_stop at w.place) (sym (or_assoc (is_some w.place) is_stop (member s rest)))

    place_here : is_stop ≡ true → GoesOn phandle s j next at
    place_here e =
        let lies = stops_within _ _ _ _ _ s e in
        record {
          inside = omega arith;
          good = same_good;
          due = g.due (⊎_elim (λ (q : s ≡ at). omega arith) (λ (q : (change.start ≤ s) × (s < stop change)). omega (arith, q, stands.good.inside)) lies);
          within = rw first_change (⊎_map (λ (q : s ≡ at). omega arith) (λ (q : (change.start ≤ s) × (s < stop change)). q) lies);
        }

    place_next : (t : Bool) → is_stop ≡ t → (p : ℕ) → cond t (Some at) w.place ≡ Some p → GoesOn phandle s j next p
    place_next true e p f = subst (λ (n : ℕ). GoesOn phandle s j next n) (same_Some at p f) (place_here e)
    place_next false e p f = place_on (g.place p f)

    pass_change : Passed phandle s j next (walked_over w (extent_in change) s)
    unfolding walked_over
    pass_change = record {
      inside = (sized_here j at whole).1;
      good = g.good ∙ same_good;
      any = g.any ∙ rw first_change (or-true w.any);
      found = g.found ∙ rw first_change found_next;
      due = λ h. g.due (omega arith) ∙ rw first_change (due_past s change later (omega (arith, sized_here j at whole)) (omega (arith, stands.ends)));
      place = λ p e. place_next is_stop refl p e;
    }

  -- ---- by what the code finds

  node_of : node_here j at ≡ true → is_of phandle here ≡ false
  unfolding is_of
  node_of n = rw (kind_read j at whole, lt-leb 5 (kind_of (drop at j)) (omega (arith, (good_kind j at n).high)))

  pass_node : node_here j at ≡ true → Passed phandle s j next w
  pass_node n = pass_other (node_of n)

  module _ (p : property_here j at ≡ true) where
    property_of : is_of phandle here ≡ eqb (property_in j at).phandle phandle
    unfolding is_of
    property_of =
        let k = (property_frame_lem j at (omega arith) p).low in
        rw (kind_read j at whole, phandle_read j at whole, le-leb 5 (kind_of (drop at j)) k)

    pass_property : Passed phandle s j next (walked_past w at (property_in j at) phandle s)
    pass_property =
        choose (eqb (property_in j at).phandle phandle) (Passed phandle s j next)
        (λ e. let o = property_of ∙ e in rw (stands o).extent (pass_change o))
        (λ e. pass_other (property_of ∙ e))

-- what the code is told of the record of a property at a place
pub record Told (j : List ℕ) (at : ℕ) (p : PropertyRecord) : Type 0 where
  pub stands : property_here j at ≡ true
  pub is : p ≡ property_in j at
  pub within : 9 + p.name_length ≤ p.size
  pub short : p.name_length ≤ 31
  pub fits : at + p.size ≤ length j

pub told : (j : List ℕ) (at : ℕ) (h : Option PropertyRecord) (p : PropertyRecord) → at ≤ length j → h ≡ Some p → h ≡ held_at j at → Told j at p
told j at h p inside e q =
    let both = held_property j at h p e q in
    let c = change_good j at inside both.0 in
    record {
      stands = both.0;
      is = both.1;
      within = rw both.1 c.within;
      short = rw both.1 c.good.short;
      fits = rw both.1 (sized_here j at (property_good j at both.0)).1;
    }

-- the size that the code is told of a record of a node, where there is one
module _ (j : List ℕ) (at : ℕ) (v : Option ℕ) (sized : v ≡ cond (node_here j at) (Some (size_of (drop at j))) None) where
  none_sized : v ≡ None → node_here j at ≡ false
  none_sized e = cond_none (node_here j at) (size_of (drop at j)) (sym sized ∙ e)

  some_sized : (n : ℕ) → v ≡ Some n → (node_here j at ≡ true) × (size_of (drop at j) ≡ n)
  some_sized n e = cond_some (node_here j at) (size_of (drop at j)) n (sym sized ∙ e)

  pub node_fits : (n : ℕ) → v ≡ Some n → (0 < n) × (at + n ≤ length j)
  node_fits n e = let k = some_sized n e in let s = sized_here j at (node_good j at k.0) in (omega (arith, k.1, s), omega (arith, k.1, s))

module _ {phandle s : ℕ} {j : List ℕ} {at : ℕ} {w : Walk} (g : Passed phandle s j at w) (more : at < length j) where
  pub pass_told : (p : PropertyRecord) (v : Walk) → Told j at p → v ≡ walked_past w at p phandle s → Passed phandle s j (at + p.size) v
  pass_told p v t e =
      let next = pass_property g more (property_good j at t.stands) t.stands in
      rw (e, t.is) next

  pub pass_sized : (v : Option ℕ) → v ≡ cond (node_here j at) (Some (size_of (drop at j))) None → (n : ℕ) → v ≡ Some n → Passed phandle s j (at + n) w
  pass_sized v sized n e =
      let k = some_sized j at v sized n e in
      rw (← k.1) (pass_node g more (node_good j at k.0) k.0)

  -- neither a good record of a property nor one of a node stands at the place
  pub pass_bad : (h : Option PropertyRecord) (v : Option ℕ) → h ≡ None → h ≡ held_at j at → v ≡ cond (node_here j at) (Some (size_of (drop at j))) None
      → v ≡ None → well_formed j ≡ false
  unfolding well_formed
  pass_bad h v e q sized z =
      not_formed size_limit good_record j (g.good ∙ bad_step good_record j at more (neither_good j at (none_sized j at v sized z) (held_other j at h e q)))

-- ---- how a pass ends

module _ {phandle s : ℕ} {j : List ℕ} {at : ℕ} {w : Walk} (g : Passed phandle s j at w) where
  module _ (end : length j ≤ at) where
    all_good_lem : all_good good_record (records (drop at j)) ≡ true
    all_good_lem = none_good good_record j at end

    pass_formed : length j ≤ size_limit → well_formed j ≡ true
    unfolding well_formed
    pass_formed h = formed size_limit good_record j h (g.good ∙ all_good_lem)

    pass_carried : is_carried phandle s j ≡ (w.any && is_some w.place)
    unfolding boundaries member
    pass_carried =
        let none = changes_end phandle j at end in
        rw (g.any, g.found, none, or-false w.any, or-false (is_some w.place))

    pass_resumes : (place : ℕ) → w.place ≡ Some place → Resumes phandle s j place
    pass_resumes place e = let p = g.place place e in record { inside = p.inside; good = p.good ∙ all_good_lem; due = p.due; within = p.within }

    -- no change was met; or where the session goes on is told, where it does
    pub pass_none : length j ≤ size_limit → w.any ≡ false → FollowFinds phandle s j (Err Carried)
    pass_none h e = (pass_formed h, pass_carried ∙ rw e)

    pub pass_ends : length j ≤ size_limit → w.any ≡ true → FollowFinds phandle s j (ok_or w.place Carried)
    pass_ends h e = go w.place refl
      where
        go : (o : Option ℕ) → w.place ≡ o → FollowFinds phandle s j (ok_or o Carried)
        go None p = (pass_formed h, pass_carried ∙ rw (e, p))
        go (Some place) p = (pass_formed h, pass_carried ∙ rw (e, p), pass_resumes place p)

pub pass_oversized : (j : List ℕ) → size_limit < length j → well_formed j ≡ false
unfolding well_formed
pass_oversized j h = oversized size_limit good_record j h
