-- The search for the next record of a node's changes, one record after the other.
use mathlib.Core.Path.{◌≡◌, refl, sym, ap, ◌∙◌}
use mathlib.Core.Bool.{true, false, cond}
use mathlib.Core.List.{List}
use Prim.Native.Nat.{ℕ, zero, suc, ◌+◌, ◌<◌, ◌≤◌}
use native.Mathlib.Omega.{arith}
use lib.Dec.{leb}
use lib.ListN.{length, drop}
use borrow.Author.Tests.{leb-true, leb-false}
use Rattle.words.proofs.Choice.{decide, and_left, and_right}
use Rattle.records.specs.Records.{size_of, first_record, records}
use Rattle.records.proofs.Steps.{judge_step, records-step, records_end}
use Rattle.journal.specs.Journal.{good_record}
use Rattle.journal.specs.Holding.{good_here}
use Rattle.journal.proofs.Sizes.{sized_here}
use Rattle.properties.specs.Changes.{is_of, changes_from}
use Rattle.properties.specs.Inner.Writing.{GoodFrom, next_change}
use Rattle.properties.proofs.Steps.{record_size_lem, changes_step}

-- ---- one record

module _ {j : List ℕ} {at : ℕ} (g : GoodFrom j at) (inside : at < length j) where
  abbrev size : ℕ
  size = size_of (drop at j)

  abbrev here : List ℕ
  here = first_record (drop at j)

  abbrev later : List (List ℕ)
  later = records (drop (at + size) j)

  pub good_here_lem : good_here j at ≡ true
  good_here_lem = and_left _ _ (sym (judge_step good_record j at inside) ∙ g.good)

  pub good_behind : GoodFrom j (at + size)
  good_behind = record { inside = (sized_here j at good_here_lem).1; good = and_right (good_here j at) _ (sym (judge_step good_record j at inside) ∙ g.good) }

  next_here : (phandle : ℕ) → next_change phandle at (records (drop at j)) ≡ cond (is_of phandle here) at (next_change phandle (at + size) later)
  unfolding next_change
  next_here phandle = ap (next_change phandle at) (records-step j at inside) ∙ rw (record_size_lem j at good_here_lem)

-- ---- one record after the other

-- A search has come from a place to another: the changes from there on are those from where it began, and so is the next place.
pub record Sought (phandle : ℕ) (j : List ℕ) (from at : ℕ) : Type 0 where
  pub onward : GoodFrom j at
  pub forward : from ≤ at
  pub same : changes_from phandle from (records (drop from j)) ≡ changes_from phandle at (records (drop at j))
  pub next : next_change phandle from (records (drop from j)) ≡ next_change phandle at (records (drop at j))

-- The next place: no change stands before it, and one stands there where it is not the end.
pub record Next (phandle : ℕ) (j : List ℕ) (from at : ℕ) : Type 0 where
  pub onward : GoodFrom j at
  pub forward : from ≤ at
  pub same : changes_from phandle from (records (drop from j)) ≡ changes_from phandle at (records (drop at j))
  pub found : at < length j → is_of phandle (first_record (drop at j)) ≡ true

pub sought_start : {phandle from : ℕ} {j : List ℕ} → GoodFrom j from → Sought phandle j from from
sought_start g = record { onward = g; forward = omega arith; same = refl; next = refl }

module _ {phandle from at : ℕ} {j : List ℕ} (t : Sought phandle j from at) where
  -- past another record
  pub sought_step : (n : ℕ) → n ≡ size_of (drop at j) → at < length j → is_of phandle (first_record (drop at j)) ≡ false → Sought phandle j from (at + n)
  sought_step n e inside h =
      let g = t.onward in
      rw e
      (record {
        onward = good_behind g inside;
        forward = omega (arith, t.forward);
        same = t.same ∙ changes_step phandle j at inside (good_here_lem g inside) ∙ rw h;
        next = t.next ∙ next_here g inside phandle ∙ rw h;
      })

  -- at one
  pub sought_here : at < length j → is_of phandle (first_record (drop at j)) ≡ true → at ≡ next_change phandle from (records (drop from j))
  sought_here inside h = sym (t.next ∙ next_here t.onward inside phandle ∙ rw h)

  -- at the end
  pub sought_end : length j ≤ at → at ≡ next_change phandle from (records (drop from j))
  unfolding next_change
  sought_end h = sym (t.next ∙ ap (next_change phandle at) (records_end j at h))

-- the whole search
module _ {phandle from : ℕ} {j : List ℕ} where
  ended : {at : ℕ} → Sought phandle j from at → (at < length j → is_of phandle (first_record (drop at j)) ≡ true) → Next phandle j from at
  ended t f = record { onward = t.onward; forward = t.forward; same = t.same; found = f }

  found_from : (n at : ℕ) → length j ≤ at + n → Sought phandle j from at → Next phandle j from (next_change phandle from (records (drop from j)))
  found_from zero at l t = rw (← sought_end t (omega arith)) (ended t (λ h. absurd (omega arith)))
  found_from (suc n) at l t =
      decide (leb (length j) at)
      (λ h. let e = leb-true _ _ h in rw (← sought_end t e) (ended t (λ k. absurd (omega arith))))
      (λ h. let e = leb-false _ _ h in
      decide (is_of phandle (first_record (drop at j)))
      (λ k. rw (← sought_here t e k) (ended t (λ _. k)))
      (λ k. found_from n (at + size_of (drop at j)) (omega arith) (sought_step t _ refl e k)))

  pub next_found : (at : ℕ) → GoodFrom j from → at ≡ next_change phandle from (records (drop from j)) → Next phandle j from at
  next_found at g e = rw e (found_from (length j) from (omega arith) (sought_start g))
