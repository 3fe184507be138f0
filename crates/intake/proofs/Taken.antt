-- Laws of the states that are taken.
use mathlib.Core.Path.{◌≡◌, refl}
use mathlib.Core.Bool.{Bool, true, false, not, false≢true}
use mathlib.Core.List.{List}
use Prim.Native.Nat.{ℕ, ◌≤◌}
use native.Mathlib.Omega.{arith}
use lib.Dec.{leb, eqb}
use lib.ListN.{length, take}
use borrow.Author.Tests.{leb-true, le-leb, eqb-true, eq-eqb}
use Rattle.std.specs.Prelude.{Option, Some, None, is_some}
use Rattle.words.specs.Claims.Exactly.{Exactly}
use Rattle.words.proofs.Choice.{and_left, and_right}
use Rattle.records.specs.Cutting.{ripe}
use Rattle.records.proofs.Due.{nothing_raw}
use Rattle.tallies.specs.declared.keeping.Refusal.{Refusal}
use Rattle.tallies.specs.declared.keeping.Refusal.TheVariants.{Malformed, NoRoom, Unfit}
use Rattle.tallies.specs.Keeping.{fits}
use Rattle.intake.specs.Taking.{good_front}
use Rattle.intake.specs.States.{rests_at, ready_for}
use Rattle.intake.specs.Claims.States.{ReadyExactly}

-- a test and what tells its opposite
pub none_told : (t n : Bool) → t ≡ not n → n ≡ not t
none_told t true e = rw e
none_told t false e = rw e

-- ---- held bytes, by the fault

-- what is asked of them: inside the store, no record yet, and none with a fault
record Rests (fault : Option Refusal) (held : ℕ) (store : List ℕ) : Type 0 where
  inside : held ≤ length store
  raw : ripe good_front (take held store) ≡ false
  quiet : is_some fault ≡ true → held ≡ 0
  real : fault ≡ Some Unfit → ⊥

not-true : (t : Bool) → not t ≡ true → t ≡ false
not-true true e = absurd (false≢true e)
not-true false e = refl

-- with nothing held they are no record
none_held : (store : List ℕ) (held : ℕ) → held ≡ 0 → ripe good_front (take held store) ≡ false
none_held store held z = rw z (nothing_raw good_front)

-- behind a fault of a stream nothing is held
faulted : (fault : Option Refusal) (held : ℕ) (store : List ℕ) → is_some fault ≡ true → (fault ≡ Some Unfit → ⊥) → Exactly (eqb held 0 ≡ true) (Rests fault held store)
faulted fault held store d real =
    (λ e. let z = eqb-true held 0 e in record { inside = omega arith; raw = none_held store held z; quiet = λ _. z; real = real }, λ r. eq-eqb held 0 (r.quiet d))

rests : (fault : Option Refusal) (held : ℕ) (store : List ℕ) → Exactly (rests_at fault held store ≡ true) (Rests fault held store)
rests None held store = (
  λ e. record { inside = leb-true held (length store) (and_left _ _ e); raw = not-true _ (and_right (leb held (length store)) _ e); quiet = λ d. cc; real = λ d. cc },
  λ r. rw (le-leb held (length store) r.inside, r.raw),
)
rests (Some Malformed) held store = faulted (Some Malformed) held store refl (λ d. cc)
rests (Some NoRoom) held store = faulted (Some NoRoom) held store refl (λ d. cc)
rests (Some Unfit) held store = (λ e. absurd (false≢true e), λ r. absurd (r.real refl))

pub ready_exactly : ReadyExactly
unfolding ready_for
ready_exactly buffer store i room =
    let n = i.place.number in
    let fit = fits (length buffer) i.place.journal in
    let e = rests i.place.fault i.held store in (
      λ h.
          let r = e.0 (and_right fit _ (and_right (leb 1 n) _ h)) in
          record { room = room; inside = r.inside; raw = r.raw; quiet = r.quiet; numbered = leb-true 1 n (and_left (leb 1 n) _ h); fit = and_left fit _ (and_right (leb 1 n) _ h); real = r.real },
      λ r. rw (le-leb 1 n r.numbered, r.fit) (e.1 (record { inside = r.inside; raw = r.raw; quiet = r.quiet; real = r.real })),
    )
