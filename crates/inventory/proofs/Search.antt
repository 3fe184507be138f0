-- The search for the next entry of a flag and type, one record after the other.
use mathlib.Core.Path.{◌≡◌, refl, sym, ap, ◌∙◌}
use mathlib.Core.Bool.{Bool, true, false, cond, ◌&&◌, not, or-true}
use mathlib.Core.List.{List, [], ◌∷◌}
use Prim.Native.Nat.{ℕ, zero, suc, ◌+◌, ◌<◌, ◌≤◌}
use native.Mathlib.Omega.{arith}
use lib.ListN.{length, drop}
use Rattle.words.proofs.Choice.{decide, and_left, and_right}
use Rattle.records.specs.Records.{size_of, first_record, records, whole, all_good}
use Rattle.records.proofs.Choosing.{each_record, chosen_here, chosen_later, still_inside}
use Rattle.records.proofs.Steps.{judge_step, records-step}
use Rattle.inventory.specs.Inventory.{good_head, good_record}
use Rattle.inventory.specs.Inner.Judging.{Readable}
use Rattle.inventory.specs.Listing.{entry_of, matches}
use Rattle.inventory.specs.Inner.Located.{located_at}
use Rattle.inventory.specs.Claims.Search.{next_place, good_for}
use Rattle.inventory.specs.Claims.Scanning.{ahead, GoodFrom}
use Rattle.inventory.proofs.RecordLaws.{record_size_lem, head_readable}

-- ---- what the search asks of the records

-- where every record is good, every one is good for the search
pub all_good_for : (flag type : ℕ) (rs : List (List ℕ)) → all_good good_record rs ≡ true → all_good (good_for flag type) rs ≡ true
unfolding all_good good_record good_for
all_good_for flag type [] g = refl
all_good_for flag type (r ∷ rs) g =
    let here = and_left (whole r && good_record r) _ g in
    let good = and_right (whole r) _ here in
    rw (and_left (whole r) _ here, and_left (good_head r) _ good, and_right (good_head r) _ good, or-true (not (matches flag type r)))
    (all_good_for flag type rs (and_right (whole r && good_record r) _ g))

-- a record that stands where good ones do can be read, and good ones stand behind it
module _ {flag type at : ℕ} {inventory : List ℕ} (g : GoodFrom flag type inventory at) (inside : at < length inventory) where
  abbrev good_here : Bool
  good_here = whole (first_record (drop at inventory)) && good_for flag type (first_record (drop at inventory))

  judged : (good_here && all_good (good_for flag type) (records (drop (at + size_of (drop at inventory)) inventory))) ≡ true
  judged = sym (judge_step (good_for flag type) inventory at inside) ∙ g.good

  pub readable_here : Readable inventory at
  unfolding good_for
  readable_here = head_readable inventory at _ (and_left good_here _ judged)

  pub behind : GoodFrom flag type inventory (at + size_of (drop at inventory))
  behind = record { inside = readable_here.inside; good = and_right good_here _ judged }

-- ---- one record after the other

-- The record here is the next one of the flag and type from a place on: it can be read, good ones stand behind it, and of the entries from that place on its own is the first.
pub record NextMatch (flag type : ℕ) (inventory : List ℕ) (from at : ℕ) : Type 0 where
  pub readable : Readable inventory at
  pub onward : GoodFrom flag type inventory (at + (located_at inventory at).size)
  pub first : ahead flag type inventory from ≡ entry_of (first_record (drop at inventory)) ∷ ahead flag type inventory (at + (located_at inventory at).size)

-- A search has come from a place to another: good records stand from there on, their entries are those from where it began, at least one, and the next place is one.
pub record Sought (flag type : ℕ) (inventory : List ℕ) (from at : ℕ) : Type 0 where
  pub onward : GoodFrom flag type inventory at
  pub some : 0 < length (ahead flag type inventory from)
  pub same : ahead flag type inventory from ≡ ahead flag type inventory at
  pub next : next_place flag type from (records (drop from inventory)) ≡ next_place flag type at (records (drop at inventory))

module _ {flag type from at : ℕ} {inventory : List ℕ} (t : Sought flag type inventory from at) where
  abbrev here : List ℕ
  here = first_record (drop at inventory)

  abbrev size : ℕ
  size = size_of (drop at inventory)

  -- no entry stands at the end
  at_record : at < length inventory
  at_record = still_inside (matches flag type) entry_of each_record inventory at (rw t.same at t.some)

  pub record_sought : Readable inventory at
  record_sought = readable_here t.onward at_record

  -- the next place by the record here
  next_here : next_place flag type from (records (drop from inventory)) ≡ cond (matches flag type here) at (next_place flag type (at + size) (records (drop (at + size) inventory)))
  unfolding next_place
  next_here =
      let rest = records (drop (at + size) inventory) in
      t.next ∙ rw (records-step inventory at at_record) (ap (λ (n : ℕ). cond (matches flag type here) at (next_place flag type (at + n) rest)) (record_size_lem inventory at record_sought))

  -- past a record of another flag or type
  pub sought_step : (n : ℕ) → n ≡ size → matches flag type here ≡ false → Sought flag type inventory from (at + n)
  sought_step n e h =
      let same = t.same ∙ chosen_later (matches flag type) entry_of each_record inventory at at_record h in
      rw e (record { onward = behind t.onward at_record; some = t.some; same = same; next = next_here ∙ rw h })

  -- at a record of the flag and type
  module _ (h : matches flag type here ≡ true) where
    pub sought_place : at ≡ next_place flag type from (records (drop from inventory))
    sought_place = sym (next_here ∙ rw h)

    sought_found : NextMatch flag type inventory from at
    sought_found = record { readable = record_sought; onward = behind t.onward at_record; first = t.same ∙ chosen_here (matches flag type) entry_of each_record inventory at at_record h }

-- the whole search
module _ {flag type from : ℕ} {inventory : List ℕ} where
  pub sought_start : GoodFrom flag type inventory from → 0 < length (ahead flag type inventory from) → Sought flag type inventory from from
  sought_start g s = record { onward = g; some = s; same = refl; next = refl }

  found_from : (n at : ℕ) → length inventory ≤ at + n → Sought flag type inventory from at → NextMatch flag type inventory from (next_place flag type from (records (drop from inventory)))
  found_from zero at l t = absurd (omega (arith, at_record t))
  found_from (suc n) at l t = decide (matches flag type (first_record (drop at inventory)))
      (λ h. rw (← sought_place t h) (sought_found t h))
      (λ h. found_from n (at + size_of (drop at inventory)) (omega arith) (sought_step t _ refl h))

  pub next_match : GoodFrom flag type inventory from → 0 < length (ahead flag type inventory from) → NextMatch flag type inventory from (next_place flag type from (records (drop from inventory)))
  next_match g s = found_from (length inventory) from (omega arith) (sought_start g s)
