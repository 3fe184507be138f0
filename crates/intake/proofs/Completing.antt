-- Laws of the store: what a burst puts after the held bytes of a record.
use mathlib.Core.Path.{◌≡◌, refl, sym, ap, ◌∙◌}
use mathlib.Core.Bool.{◌&&◌}
use mathlib.Core.List.{List, ◌++◌}
use Prim.Native.Nat.{ℕ, ◌+◌, ◌-◌, ◌<◌, ◌≤◌, min}
use native.Mathlib.Omega.{arith}
use lib.Dec.{leb, ltb, eqb}
use lib.ListN.{length, take, drop, length-take, take-append-drop}
use lib.Seq.{sets, sets-eq, take-add, take-length, take-take, length-take-le}
use borrow.Author.Tests.{ltb-true, leb-true, leb-false, lt-ltb, le-leb, eqb-false, eq-eqb, ne_eqb}
use Rattle.words.proofs.Choice.{choose, decide, and_left, and_right}
use Rattle.words.proofs.Stores.{sets_behind, sets_swap, sets_over}
use Rattle.records.specs.Cutting.{due}
use Rattle.intake.specs.Taking.{good_front}
use Rattle.intake.specs.Bursts.{completed}
use Rattle.intake.specs.Inner.Terms.{finished}

-- ---- stores over stores

-- a list's own front stored again
pub sets_back : (l : List ℕ) (n : ℕ) → n ≤ length l → l ≡ sets l 0 (take n l)
sets_back l n h =
    let k : n ≡ 0 + length (take n l) = omega (arith, length-take-le n l h) in
    sym (sets-eq (take n l) l 0 (omega arith) ∙ ap (λ (m : ℕ). take n l ++ drop m l) (sym k) ∙ take-append-drop n l)

-- the front of what was stored, stored again
sets_front : (us vs l : List ℕ) (i : ℕ) → sets (sets l i (us ++ vs)) i us ≡ sets l i (us ++ vs)
sets_front us vs l i =
    let both = sets_behind l i (i + length us) us vs refl in
    ap (λ (m : List ℕ). sets m i us) (sym both) ∙ sets_swap us vs (sets l i us) i (i + length us) (omega arith)
    ∙ ap (λ (m : List ℕ). sets m (i + length us) vs) (sets_over us us l i (omega arith)) ∙ both

sets_less : (l b : List ℕ) (i m n : ℕ) → m ≤ n → sets (sets l i (take n b)) i (take m b) ≡ sets l i (take n b)
sets_less l b i m n h =
    let k : n ≡ m + (n - m) = omega arith in
    rw (k, take-add) (sets_front (take m b) (take (n - m) (drop m b)) l i)

take_least : (k n : ℕ) (l : List ℕ) → k ≡ min n (length l) → take k l ≡ take n l
take_least k n l e = sym (sym (take-length (take n l)) ∙ ap (λ (m : ℕ). take m (take n l)) (length-take n l ∙ sym e) ∙ take-take k n l (omega arith))

-- ---- the store of a held record

module _ (store : List ℕ) (n : ℕ) (bytes : List ℕ) where
  abbrev missing : ℕ
  missing = due good_front (take n store ++ bytes) - n

  pub finished_none : n ≡ 0 → finished store n bytes ≡ store
  unfolding finished
  finished_none z = rw (eq-eqb n 0 z)

  pub completed_none : n ≡ 0 → completed store n bytes ≡ store
  unfolding completed
  completed_none z = rw (eq-eqb n 0 z)

  pub finished_some : (n ≡ 0 → ⊥) → (k : ℕ) (after : List ℕ) → k ≡ min missing (length bytes) → after ≡ sets store n (take k bytes)
      → after ≡ finished store n bytes
  unfolding finished
  finished_some z k after m e = rw (ne_eqb n 0 z) (e ∙ ap (sets store n) (take_least k missing bytes m))

  -- with no bytes put there to judge it
  pub completed_far : ((n ≡ 0 → ⊥) → n < 18 → 18 ≤ length bytes → ⊥) → finished store n bytes ≡ completed store n bytes
  unfolding finished completed
  completed_far far = decide (eqb n 0) (λ e. rw e) (λ e. rw e (ap (λ (k : ℕ). sets store n (take k bytes))
      (choose (ltb n 18 && (leb 18 (length bytes) && leb missing 18)) (λ (k : ℕ). missing ≡ k)
      (λ t. absurd (far (eqb-false n 0 e) (ltb-true n 18 (and_left _ _ t)) (leb-true 18 (length bytes) (and_left _ _ (and_right (ltb n 18) _ t)))))
      (λ _. refl))))

  -- with 18 bytes put there
  module _ (some : n ≡ 0 → ⊥) (low : n < 18) (long : 18 ≤ length bytes) (after : List ℕ) (e : after ≡ sets store n (take 18 bytes)) where
    pub completed_near : missing ≤ 18 → after ≡ completed store n bytes
    unfolding completed
    completed_near h = rw (ne_eqb n 0 some, lt-ltb n 18 low, le-leb 18 (length bytes) long, le-leb missing 18 h) e

    pub finished_near : take n after ≡ take n store → finished after n bytes ≡ completed store n bytes
    unfolding finished completed
    finished_near front = rw (ne_eqb n 0 some, front, e, lt-ltb n 18 low, le-leb 18 (length bytes) long) (decide (leb missing 18)
        (λ h. rw h (sets_less store bytes n missing 18 (leb-true missing 18 h)))
        (λ h. rw h (sets_over (take 18 bytes) (take missing bytes) store n
        (omega (arith, leb-false missing 18 h, length-take 18 bytes, length-take missing bytes)))))
