-- What a feed keeps.
use mathlib.Core.Path.{◌≡◌, refl, ◌∙◌}
use Prim.Native.Nat.{ℕ, suc, ◌-◌}
use native.Mathlib.Omega.{arith}
use borrow.Author.Tests.{ne_eqb}
use Rattle.replay.specs.Feeding.{completed}
use Rattle.draugsten_replay.specs.Feeding.{flat_end_of}
use Rattle.draugsten_replay.specs.Claims.Feeding.{FeedsExactly}

suc_sub_one : (n : ℕ) → suc n - 1 ≡ n
suc_sub_one n = omega arith

pub feeds_exactly : FeedsExactly
unfolding flat_end_of completed
feeds_exactly =
    record {
      kept = λ journal inventory held args memory bytes heldThen argsThen memoryThen f r feeds. (λ n. (feeds.number, feeds.refused n), (feeds.behind, feeds.stopped));
      taken = λ journal inventory held args memory bytes heldThen argsThen memoryThen f r feeds z. (feeds.given z, feeds.lent z, feeds.again z, feeds.edition);
      held_too = λ journal inventory held args memory bytes heldThen argsThen memoryThen f r feeds z. (feeds.number ∙ z, feeds.whole z);
      completes = λ p held bytes n. (refl, λ some. rw (ne_eqb n 0 (λ z. omega arith)));
      over = λ journal inventory edition. refl;
      comes = λ held args memory f. (refl, refl, refl, refl, refl, refl, (λ e. rw e), (λ n e. rw (e, ne_eqb (suc n) 0 (λ z. omega arith), suc_sub_one n)));
      lent_from = λ held args memory f. refl;
      looked_at = λ held args f. refl;
      stops = λ n k. (refl, (refl, refl));
      lends = λ p x r. refl;
      not_taken = λ f e. rw e;
    }
