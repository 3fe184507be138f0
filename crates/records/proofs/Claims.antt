-- The claims about records in turn and about bursts hold.
use mathlib.Core.Path.{◌≡◌, refl, sym, ap, ◌∙◌}
use mathlib.Core.Bool.{Bool, true, false, ◌&&◌, and-false}
use mathlib.Core.List.{List, []}
use mathlib.Core.Logic.{⊎_elim}
use Prim.Native.Nat.{ℕ, ◌+◌, ◌≤◌, ◌<◌}
use native.Mathlib.Omega.{arith}
use lib.Dec.{leb}
use lib.ListN.{length, drop}
use borrow.Author.Tests.{le-leb, lt-leb, eq-eqb}
use Rattle.records.specs.Records.{length_of, kind_of, size_of, first_record, records, whole, all_good}
use Rattle.records.specs.Cutting.{due, ripe, Reader, start, fed, Sticky}
use Rattle.records.specs.Claims.Records.{FirstExactly, RecordsInTurn, FedExactly}
use Rattle.records.proofs.Due.{ripe_due, due_ripe, short_raw}
use Rattle.records.proofs.Feeding.{fed_append, fed_held, fed_first, fed_stopped}
use Rattle.records.proofs.Steps.{formed, formed_good, formed_within, none_good}
use Rattle.records.proofs.Whole.{records_front, records_none, whole_front, whole_size}

-- what the records of a buffer are judged, by its first
judge_front : (good : List ℕ → Bool) (b : List ℕ) → 1 ≤ length b
    → all_good good (records b) ≡ ((whole (first_record b) && good (first_record b)) && all_good good (records (drop (size_of b) b)))
unfolding all_good
judge_front good b h = ap (all_good good) (records_front b h)

each : (good : List ℕ → Bool) (b : List ℕ) → 1 ≤ length b → FirstExactly good b (length_of b)
each good b h = record {
  cut = λ l f. records_front b h;
  cut_anywhere = records_front b h;
  first = λ l f. judge_front good b h ∙ rw (whole_front b, le-leb 2 (length_of b) l, le-leb (size_of b) (length b) f);
  no_record = ⊎_elim
      (λ (l : length_of b < 2). judge_front good b h ∙ rw (whole_front b, lt-leb 2 (length_of b) l))
      (λ (l : length b < length_of b + 2). judge_front good b h ∙ rw (whole_front b, lt-leb (size_of b) (length b) l, and-false (leb 2 (length_of b))));
}

-- a whole record by its length
whole_is : (r : List ℕ) → (2 ≤ length_of r) × (length r ≡ length_of r + 2) → whole r ≡ true
unfolding whole
whole_is r h = rw (le-leb 2 (length_of r) h.0, eq-eqb (length r) (size_of r) h.1)

pub records_in_turn : RecordsInTurn
unfolding length_of kind_of
records_in_turn = record {
  frame = λ b. (refl, (refl, refl));
  none = λ good. none_good good [] 0 (omega arith);
  nothing = records_none;
  each = each;
  alone = λ r. (whole_size r, whole_is r);
  limited = λ good limit b. (λ w. (formed_within limit good b w, formed_good limit good b w), λ h. formed limit good b h.0 h.1);
}

-- bytes that make no record are held
module _ {S : Type 0} (R : Reader S) (sticky : Sticky R) where
  unfinished : (s : S) (b : List ℕ) → R.stopped s ≡ false → ripe R.good b ≡ false → fed R (start s) b ≡ record { state = s; held = b }
  unfinished s b going raw = fed_held R sticky s [] b going (short_raw R.good b raw)

  pub fed_exactly : FedExactly R
  unfolding due length_of kind_of
  fed_exactly = record {
    held_first = λ s held b going raw. rw (sym (unfinished s held going raw)) (fed_append R sticky (start s) held b);
    unfinished = unfinished;
    complete = λ s b all. fed_first R sticky b s (due_ripe R.good b all);
    over = λ w b e. fed_stopped R sticky w b e;
    due_is = λ b. refl;
    ripe_is = λ b. (due_ripe R.good b, ripe_due R.good b);
  }
