-- What comes of a part put behind the bytes in use: each outcome exactly when, and what it leaves.
use mathlib.Core.Path.{◌≡◌, refl, sym, ap, ◌∙◌}
use mathlib.Core.Bool.{Bool, true, false, cond}
use mathlib.Core.List.{List}
use Prim.Native.Nat.{ℕ, ◌+◌, ◌≤◌}
use lib.Dec.{leb}
use lib.ListN.{length}
use lib.Seq.{sets}
use borrow.Author.Tests.{leb-true}
use Rattle.std.specs.Prelude.{Option, Some, None, is_none}
use Rattle.words.specs.Claims.Exactly.{Exactly}
use Rattle.words.proofs.Choice.{decide, and_left, and_right}
use Rattle.records.specs.Records.{size_limit}
use Rattle.tallies.specs.declared.keeping.Tallied.{Tallied}
use Rattle.tallies.specs.declared.keeping.Refusal.{Refusal}
use Rattle.tallies.specs.declared.keeping.Refusal.TheVariants.{Malformed, NoRoom, Unfit}
use Rattle.tallies.specs.Tallies.{recount_of, tally_sum}
use Rattle.tallies.specs.Keeping.{Left, fits, has_room, outcome_of, attached}

-- by three tests: the use and its tallies fit, the part is good, and there is room
pub record Judged (fit good room : Bool) (o : Option Refusal) : Type 0 where
  pub unfit : Exactly (o ≡ Some Unfit) (fit ≡ false)
  pub malformed : (o ≡ Some Unfit → ⊥) → Exactly (o ≡ Some Malformed) (good ≡ false)
  pub no_room : (o ≡ Some Unfit → ⊥) → good ≡ true → Exactly (o ≡ Some NoRoom) (room ≡ false)
  pub otherwise : (o ≡ Some Unfit → ⊥) → (o ≡ Some Malformed → ⊥) → (o ≡ Some NoRoom → ⊥) → o ≡ None
  pub done : is_none o ≡ true → (good ≡ true) × (room ≡ true)

judged : (fit good room : Bool) → Judged fit good room (cond fit (cond good (cond room None (Some NoRoom)) (Some Malformed)) (Some Unfit))
judged true true true = record { unfit = (λ e. cc, λ e. cc); malformed = λ u. (λ e. cc, λ e. cc); no_room = λ u g. (λ e. cc, λ e. cc); otherwise = λ u m n. refl; done = λ e. (refl, refl) }
judged true true false = record { unfit = (λ e. cc, λ e. cc); malformed = λ u. (λ e. cc, λ e. cc); no_room = λ u g. (λ e. refl, λ e. refl); otherwise = λ u m n. absurd (n refl); done = λ e. (refl, cc) }
judged true false room = record { unfit = (λ e. cc, λ e. cc); malformed = λ u. (λ e. refl, λ e. refl); no_room = λ u g. (λ e. cc, λ e. cc); otherwise = λ u m n. absurd (m refl); done = λ e. (cc, cc) }
judged false good room = record { unfit = (λ e. refl, λ e. refl); malformed = λ u. absurd (u refl); no_room = λ u g. absurd (u refl); otherwise = λ u m n. absurd (u refl); done = λ e. (cc, cc) }

refused_lem : (o : Option Refusal) → (o ≡ None → ⊥) → is_none o ≡ false
refused_lem None n = absurd (n refl)
refused_lem (Some r) n = refl

pub room_told : (size used more : ℕ) → has_room size used more ≡ true → (used + more ≤ size) × (used + more ≤ size_limit)
unfolding has_room
room_told size used more e = (leb-true _ _ (and_left _ _ e), leb-true _ _ (and_right (leb (used + more) size) _ e))

module _ (buffer : List ℕ) (t : Tallied) (part : List ℕ) (good : Bool) where
  abbrev outcome : Option Refusal
  outcome = outcome_of (length buffer) t (length part) good

  -- what is left where the part is put, and where it is not
  abbrev pub grown : Left
  grown = record { buffer = sets buffer t.used part; next = record { used = t.used + length part; tallies = tally_sum t.tallies (recount_of part) }; outcome = outcome }

  abbrev pub kept : Left
  kept = record { buffer = buffer; next = t; outcome = outcome }

  is_grown : is_none outcome ≡ true → attached buffer t part good ≡ grown
  unfolding attached
  is_grown e = rw e

  is_kept : is_none outcome ≡ false → attached buffer t part good ≡ kept
  unfolding attached
  is_kept e = rw e

  abbrev pub came : Option Refusal
  came = (attached buffer t part good).outcome

  came_is : came ≡ outcome
  came_is = decide (is_none outcome) (λ e. ap (λ (x : Left). x.outcome) (is_grown e)) (λ e. ap (λ (x : Left). x.outcome) (is_kept e))

  pub attach_judged : Judged (fits (length buffer) t) good (has_room (length buffer) t.used (length part)) came
  unfolding outcome_of
  attach_judged = rw came_is (judged (fits (length buffer) t) good (has_room (length buffer) t.used (length part)))

  pub attach_done : came ≡ None → attached buffer t part good ≡ grown
  attach_done e = is_grown (ap is_none (sym came_is ∙ e))

  pub attach_refused : (came ≡ None → ⊥) → attached buffer t part good ≡ kept
  attach_refused n = is_kept (refused_lem outcome (λ e. n (came_is ∙ e)))

  -- a part that is put is good, and has room in the buffer and in a journal
  pub record Room : Type 0 where
    pub fine : good ≡ true
    pub inside : t.used + length part ≤ length buffer
    pub limited : t.used + length part ≤ size_limit

  pub done_room : came ≡ None → Room
  done_room e =
      let d = attach_judged.done (ap is_none e) in
      let r = room_told (length buffer) t.used (length part) d.1 in
      record { fine = d.0; inside = r.0; limited = r.1 }

  -- a statement about what is left, from either end
  pub by_outcome : (P : Left → Type 0) → (came ≡ None → P grown) → P kept → P (attached buffer t part good)
  by_outcome P done refused = decide (is_none outcome) (λ e. rw (is_grown e) (done (came_is ∙ is_none_lem outcome e))) (λ e. rw (is_kept e) refused)
    where
      is_none_lem : (o : Option Refusal) → is_none o ≡ true → o ≡ None
      is_none_lem None e = refl
      is_none_lem (Some r) e = cc
