-- Laws of the buffer of held bytes, and of an end.
use mathlib.Core.Path.{◌≡◌, refl, sym, ap, ◌∙◌}
use mathlib.Core.Bool.{Bool, true, false, not, true≢false, false≢true}
use mathlib.Core.List.{List, [], ◌∷◌, ◌++◌}
use Prim.Native.Nat.{ℕ, suc, ◌+◌, ◌-◌, ◌<◌, ◌≤◌, min}
use native.Mathlib.Omega.{arith}
use lib.Dec.{eqb}
use lib.ListN.{length, take, drop, set, length-take, take-append-drop}
use lib.Seq.{sets, sets-eq, drop-set-lt, take-length, take-take, length-take-le}
use borrow.Author.Tests.{eq-eqb, ne_eqb}
use Rattle.words.proofs.Choice.{decide}
use Rattle.records.specs.Cutting.{due}
use Rattle.trace.specs.declared.report.Report.{Report}
use Rattle.trace.specs.declared.report.Report.TheVariants.{Agreed, Differs, Malformed}
use Rattle.trace.specs.Trace.{good_frame}
use Rattle.trace.specs.Playing.{is_over}
use Rattle.trace.proofs.Reader.{due_most}
use Rattle.replay.specs.Feeding.{completed, end_of}

-- ---- the buffer of held bytes

pub drop_sets : (vs l : List ℕ) (i k : ℕ) → i + length vs ≤ k → drop k (sets l i vs) ≡ drop k l
drop_sets [] l i k h = refl
drop_sets (v ∷ vs) l i k h = drop_sets vs (set l i v) (suc i) k (omega arith) ∙ drop-set-lt k l i v (omega arith)

-- its own front stored again
pub sets_back : (l : List ℕ) (n : ℕ) → n ≤ length l → l ≡ sets l 0 (take n l)
sets_back l n h =
    let k : n ≡ 0 + length (take n l) = omega (arith, length-take-le n l h) in
    sym (sets-eq (take n l) l 0 (omega arith) ∙ ap (λ (m : ℕ). take n l ++ drop m l) (sym k) ∙ take-append-drop n l)

take_least : (k n : ℕ) (l : List ℕ) → k ≡ min n (length l) → take k l ≡ take n l
take_least k n l e = sym (sym (take-length (take n l)) ∙ ap (λ (m : ℕ). take m (take n l)) (length-take n l ∙ sym e) ∙ take-take k n l (omega arith))

module _ (held : List ℕ) (n : ℕ) (bytes : List ℕ) where
  pub completed_none : n ≡ 0 → completed held n bytes ≡ held
  unfolding completed
  completed_none z = rw (eq-eqb n 0 z)

  pub completed_some : (n ≡ 0 → ⊥) → (k : ℕ) (after : List ℕ) → k ≡ min (due good_frame (take n held ++ bytes) - n) (length bytes) → after ≡ sets held n (take k bytes) → after ≡ completed held n bytes
  unfolding completed
  completed_some z k after m e = rw (ne_eqb n 0 z) (e ∙ ap (sets held n) (take_least k _ bytes m))

  pub completed_behind : n < 4104 → drop 4104 (completed held n bytes) ≡ drop 4104 held
  unfolding completed
  completed_behind l = decide (eqb n 0) (λ e. rw e)
      (λ e. let d = due good_frame (take n held ++ bytes) in rw e (drop_sets (take (d - n) bytes) held n 4104 (omega (arith, due_most (take n held ++ bytes), length-take (d - n) bytes))))

-- ---- the end

module _ (report : Report) (records : ℕ) (waits : Bool) (held : ℕ) where
  pub end_over : not (is_over report) ≡ false → report ≡ end_of report records waits held
  unfolding end_of
  end_over e = go report e
    where
      go : (r : Report) → not (is_over r) ≡ false → r ≡ end_of r records waits held
      go (Agreed calls) f = absurd (true≢false f)
      go (Differs c k) f = refl
      go (Malformed n) f = refl

  pub end_waits : not (is_over report) ≡ true → waits ≡ true → Malformed records ≡ end_of report records waits held
  unfolding end_of
  end_waits e w = go report e
    where
      go : (r : Report) → not (is_over r) ≡ true → Malformed records ≡ end_of r records waits held
      go (Agreed calls) f = rw w
      go (Differs c k) f = absurd (false≢true f)
      go (Malformed n) f = absurd (false≢true f)

  pub end_held : not (is_over report) ≡ true → waits ≡ false → (held ≡ 0 → ⊥) → Malformed (records + 1) ≡ end_of report records waits held
  unfolding end_of
  end_held e w h = go report e
    where
      go : (r : Report) → not (is_over r) ≡ true → Malformed (records + 1) ≡ end_of r records waits held
      go (Agreed calls) f = rw (w, ne_eqb held 0 h)
      go (Differs c k) f = absurd (false≢true f)
      go (Malformed n) f = absurd (false≢true f)

  pub end_clean : not (is_over report) ≡ true → waits ≡ false → held ≡ 0 → report ≡ end_of report records waits held
  unfolding end_of
  end_clean e w h = go report e
    where
      go : (r : Report) → not (is_over r) ≡ true → r ≡ end_of r records waits held
      go (Agreed calls) f = rw (w, eq-eqb held 0 h)
      go (Differs c k) f = absurd (false≢true f)
      go (Malformed n) f = absurd (false≢true f)
