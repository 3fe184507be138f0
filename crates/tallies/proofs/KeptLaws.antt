-- The tallies are kept: by a part put behind the bytes in use, by clearing, and along any list of operations that keep them.
use mathlib.Core.Path.{◌≡◌, refl, sym, ap, ◌∙◌}
use mathlib.Core.Bool.{Bool, true, true≢false}
use mathlib.Core.List.{List, [], ◌∷◌, ◌++◌}
use mathlib.Core.Logic.{⊎_elim}
use Prim.Native.Nat.{ℕ, ◌+◌, ◌≤◌, ◌<◌}
use native.Mathlib.Omega.{arith}
use lib.ListN.{length, take, drop, length-append}
use lib.Seq.{sets, length-sets, sets-eq, take_at, length-take-le}
use borrow.Author.Tests.{le-leb}
use Rattle.std.specs.Prelude.{Some, None}
use Rattle.words.proofs.Stores.{sets_before, sets_after}
use Rattle.journal.specs.Journal.{well_formed}
use Rattle.journal.proofs.Joins.{well_formed_join, none_formed, one_formed}
use Rattle.tallies.specs.declared.keeping.Tallied.{Tallied}
use Rattle.tallies.specs.declared.keeping.Refusal.TheVariants.{Unfit}
use Rattle.tallies.specs.declared.tallies.Tallies.{Tallies}
use Rattle.tallies.specs.Tallies.{recount_of, tally_sum}
use Rattle.tallies.specs.Keeping.{Left, fits, one_record, attached}
use Rattle.tallies.specs.Sessions.{Standing, in_use, fresh, left_as}
use Rattle.tallies.specs.Claims.Sessions.{Counted, OnlyAppends, Keeps, Continues, Turn, standing, Session}
use Rattle.tallies.specs.Claims.Tallies.{TalliesKept, AppendKeeps, JoinKeeps, ClearKeeps, KeptIsFit}
use Rattle.tallies.proofs.Joins.{recount_none, recount_join, recount_within}
use Rattle.tallies.proofs.Outcomes.{grown, came, attach_judged, done_room, by_outcome}

-- ---- a part put behind the bytes in use

-- the bytes in use afterwards
pub use_grown : (buffer part : List ℕ) (used : ℕ) → used + length part ≤ length buffer → take (used + length part) (sets buffer used part) ≡ take used buffer ++ part
use_grown buffer part used h =
    let n : length (take used buffer ++ part) ≡ used + length part = length-append (take used buffer) part ∙ rw (length-take-le used buffer (omega arith)) in
    ap (take (used + length part)) (sets-eq part buffer used h) ∙ take_at (take used buffer ++ part) (drop (used + length part) buffer) (used + length part) n

module _ (part : List ℕ) (good : Bool) where
  abbrev pub attaching : Standing → Standing
  attaching s = left_as (attached s.buffer s.journal part good)

  attach_only : (s : Standing) → OnlyAppends s (attaching s)
  attach_only s = by_outcome s.buffer s.journal part good (λ (x : Left). OnlyAppends s (left_as x))
      (λ e. record {
        size = length-sets s.buffer s.journal.used part;
        others = λ i o. ⊎_elim
            (λ (h : i < s.journal.used). sets_before part s.buffer s.journal.used i h)
            (λ (h : s.journal.used + length part ≤ i). sets_after part s.buffer s.journal.used i h)
            o;
      })
      (record { size = refl; others = λ i o. refl })

  -- whatever judges the part: where it says good, the part is a well-formed journal
  module _ (sound : good ≡ true → well_formed part ≡ true) where
    grown_counted : (s : Standing) → Counted s → came s.buffer s.journal part good ≡ None → Counted (left_as (grown s.buffer s.journal part good))
    grown_counted s k e =
        let used = s.journal.used in
        let room = done_room s.buffer s.journal part good e in
        let now = use_grown s.buffer part used room.inside in
        let long : length (in_use s) ≡ used = length-take-le used s.buffer k.inside in
        record {
          inside = rw length-sets room.inside;
          well_formed_claim = ap well_formed now ∙ well_formed_join (in_use s) part k.well_formed_claim (sound room.fine) (rw long room.limited);
          tallies = ap (λ (t : Tallies). tally_sum t (recount_of part)) k.tallies ∙ sym (recount_join (in_use s) part k.well_formed_claim) ∙ ap recount_of (sym now);
        }

    pub attach_keeps : Keeps attaching
    attach_keeps = record { only_appends = attach_only; counted = λ s k. by_outcome s.buffer s.journal part good (λ (x : Left). Counted (left_as x)) (grown_counted s k) k }

pub append_keeps : AppendKeeps
unfolding one_record
append_keeps r = attach_keeps r (one_record r) (one_formed r)

pub join_keeps : JoinKeeps
join_keeps part = attach_keeps part (well_formed part) (λ e. e)

-- ---- an empty journal

pub fresh_counted : (buffer : List ℕ) → Counted (fresh buffer)
fresh_counted buffer = record { inside = omega arith; well_formed_claim = none_formed; tallies = sym recount_none }

pub clear_keeps : ClearKeeps
clear_keeps = record { only_appends = λ s. record { size = refl; others = λ i o. refl }; counted = λ s k. fresh_counted s.buffer }

-- ---- operations one after the other

found_counted : (left found : Standing) → Continues left found → Counted left → Counted found
found_counted left found c k =
    let used : found.journal.used ≡ left.journal.used = ap (λ (t : Tallied). t.used) c.journal in
    record {
      inside = omega (arith, c.size, k.inside);
      well_formed_claim = ap well_formed c.bytes ∙ k.well_formed_claim;
      tallies = ap (λ (t : Tallied). t.tallies) c.journal ∙ k.tallies ∙ ap recount_of (sym c.bytes);
    }

kept_along : (s : Standing) (ts : List (Turn Standing)) → Counted s → Session s ts → Counted (standing s ts)
unfolding standing
kept_along s [] k p = k
kept_along s (t ∷ ts) k p = kept_along (t.operation t.found) ts (p.1.0.counted t.found (found_counted s t.found p.0 k)) p.1.1

pub tallies_kept : TalliesKept
tallies_kept buffer ts p = kept_along (fresh buffer) ts (fresh_counted buffer) p

-- ---- over tallies that are kept nothing is unfit

pub counted_fits : (s : Standing) → Counted s → fits (length s.buffer) s.journal ≡ true
unfolding fits
counted_fits s k =
    let used = s.journal.used in
    rw (k.tallies, le-leb used (length s.buffer) k.inside) (recount_within used (in_use s) (omega (arith, length-take-le used s.buffer k.inside)))

-- whatever the part, and however it is judged
pub attach_is_fit : (s : Standing) → Counted s → (part : List ℕ) (good : Bool) → came s.buffer s.journal part good ≡ Some Unfit → ⊥
attach_is_fit s k part good e = true≢false (sym (counted_fits s k) ∙ (attach_judged s.buffer s.journal part good).unfit.0 e)

pub kept_is_fit : KeptIsFit
kept_is_fit s k r = attach_is_fit s k r (one_record r)
