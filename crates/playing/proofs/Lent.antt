-- The reader with its lent buffer: it stays stopped, its states are those of the reader of a trace, and at a difference our buffer stands at the front.
use mathlib.Core.Path.{◌≡◌, refl, sym, ap, ◌∙◌}
use mathlib.Core.Bool.{true, false, ◌&&◌, not, and-false}
use mathlib.Core.List.{List}
use mathlib.Core.Logic.{⊎_elim}
use Prim.Native.Nat.{ℕ, ◌+◌, ◌≤◌}
use native.Mathlib.Omega.{arith}
use lib.Dec.{leb}
use lib.ListN.{length, take}
use lib.Seq.{sets}
use borrow.Author.Tests.{le-leb, lt-leb, ne_eqb}
use Rattle.words.specs.Numbers.{le}
use Rattle.words.proofs.Choice.{choose, decide}
use Rattle.records.specs.Records.{kind_of}
use Rattle.records.specs.Cutting.{Sticky}
use Rattle.calls.specs.Buffer.{found}
use Rattle.calls.proofs.Confined.{demand1}
use Rattle.trace.specs.Trace.{is_after, is_good}
use Rattle.trace.specs.Playing.{Platform, stopped, called, step}
use Rattle.trace.proofs.First.{fault_not}
use Rattle.playing.specs.Lent.{Lent, lent_step, lender}
use Rattle.playing.specs.Claims.Lent.{OursStands, EachLent}
use Rattle.playing.proofs.Parts.{stored_front}

module _ (p : Platform) where
  pub lender_sticky : Sticky (lender p)
  unfolding lent_step step
  lender_sticky x r e = rw e

  pub state_step : (x : Lent) (r : List ℕ) → step p x.state r ≡ (lent_step p x r).state
  unfolding lent_step
  state_step x r = refl

-- only a 33 that comes where a 32 waits makes a difference
pub ours_stands : OursStands
unfolding lent_step step
ours_stands p x r before number offset going waits inside =
    let s = x.state in
    let ours = (called p s before).args in
    let size : length ours ≡ length before = (demand1 (found before s.memory p.journal p.inventory p.edition s.registration s.reading)).args_length in
    rw (going, waits)
    (decide (leb (s.records + 1) 4_294_967_295 && is_good r)
    (λ t. rw t
    (decide (is_after (kind_of r))
    (λ a. rw a (λ _. ap (λ (n : ℕ). take n (sets x.args 0 ours)) (sym size) ∙ stored_front ours x.args (omega (arith, size))))
    (λ a. rw a (λ e. absurd (fault_not _ e)))))
    (λ t. rw t (λ e. absurd (fault_not _ e))))

pub each_lent : EachLent
unfolding lent_step kind_of
each_lent p x r =
    let s = x.state in
    let go = not (stopped s) && (leb (s.records + 1) 4_294_967_295 && is_good r) in
    record {
      steps = refl;
      waits = λ going few good w k. rw (going, le-leb (s.records + 1) 4_294_967_295 (omega arith), good, w, k);
      calls = λ b going few good w k. rw (going, le-leb (s.records + 1) 4_294_967_295 (omega arith), good, w, k);
      unasked = λ w n. choose go (λ (a : List ℕ). a ≡ x.args) (λ _. rw (w, ne_eqb (le 2 r 2) 32 n)) (λ _. refl);
      unanswered = λ b w n. choose go (λ (a : List ℕ). a ≡ x.args) (λ _. rw (w, ne_eqb (le 2 r 2) 33 n)) (λ _. refl);
      stays = λ o. ⊎_elim (λ (h : stopped s ≡ true). rw h)
          (λ o. ⊎_elim (λ (h : 4_294_967_295 ≤ s.records). simp (lt-leb (s.records + 1) 4_294_967_295 (omega arith), and-false)) (λ (h : is_good r ≡ false). simp (h, and-false)) o) o;
    }
