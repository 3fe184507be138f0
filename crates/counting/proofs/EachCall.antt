-- A call that gives a status, with a token of the four, is counted in one row; every other call in none.
use mathlib.Core.Path.{◌≡◌, refl, sym, ap, ◌∙◌}
use mathlib.Core.Bool.{true, false, true≢false}
use mathlib.Core.Logic.{◌⊎◌, ⊎_elim}
use Prim.Native.Nat.{ℕ, ◌+◌, ◌*◌, ◌-◌, ◌<◌, ◌≤◌}
use native.Mathlib.Omega.{arith}
use Rattle.words.specs.Numbers.{be32}
use Rattle.calls.specs.declared.status.Status.{Status}
use Rattle.calls.specs.declared.status.Status.TheVariants.{Done, Again, Malformed, Parameter, Changed, AlreadyRegistered, DumpActive}
use Rattle.calls.specs.Status.{is_given, status_word}
use Rattle.calls.specs.Buffer.{token, status_at, Found, Left, outcome, call_of}
use Rattle.calls.proofs.Heads.{number_is}
use Rattle.calls.proofs.Calls.{status_word_lem}
use Rattle.counting.specs.declared.counts.Counts.{Counts}
use Rattle.counting.specs.Counts.{place_of, counted_in, handed_out, counted}
use Rattle.counting.specs.Claims.Counts.{place_in, EachCallCounted}
use Rattle.counting.proofs.Ways.{counted_not, counted_is}
use Rattle.counting.proofs.OwnBuffer.{word_kept}
use Rattle.counting.proofs.MonthClaims.{known}

place_is : (s : Status) → place_of (status_word s) ≡ place_in s
unfolding place_of
place_is Done = refl
place_is Again = refl
place_is Malformed = refl
place_is Parameter = refl
place_is Changed = refl
place_is AlreadyRegistered = refl
place_is DumpActive = refl

module _ (f : Found) (c : Counts) where
  abbrev x : Left
  x = call_of f

  abbrev t : ℕ
  t = token f.args

  abbrev after : Counts
  after = counted c x.number x.args x.memory

  token_kept : token x.args ≡ t
  token_kept = word_kept f 0 (omega arith)

  place_kept : status_at x.args ≡ status_at f.args
  place_kept = rw (word_kept f 4 (omega arith))

  in_one : is_given x.number ≡ true → 1 ≤ t → t ≤ 4
      → (s : Status) × ((be32 x.args (status_at f.args) ≡ status_word s) × (after ≡ counted_in c (7 * (t - 1) + place_in s) (handed_out (status_word s) x.args x.memory)))
  in_one g l h =
      let s = (outcome f).status in
      let word : be32 x.args (status_at f.args) ≡ status_word s = status_word_lem f (ap is_given (sym (number_is f)) ∙ g) in
      let place : place_of (be32 x.args (status_at x.args)) ≡ place_in s = rw (place_kept, word) (place_is s) in
      let is = counted_is x.args x.memory c x.number g (omega (arith, token_kept)) (omega (arith, token_kept)) (omega (arith, place, place_is s, (known s).0)) in
      (s, (word, is ∙ rw (place, token_kept, place_kept, word)))

  in_none : (is_given x.number ≡ false) ⊎ ((t ≡ 0) ⊎ (4 < t)) → after ≡ c
  in_none h = sym (counted_not x.args x.memory c x.number (λ g l m _. ⊎_elim (λ e. true≢false (sym g ∙ e)) (λ o. ⊎_elim (λ e. omega (arith, token_kept)) (λ e. omega (arith, token_kept)) o) h))

pub each_call_counted : EachCallCounted
each_call_counted f c = (in_one f c, in_none f c)
