-- What is claimed of an intake: the laws of cutting over any reader, for this one, and what bursts leave of the journal.
use mathlib.Core.Path.{◌≡◌, refl, ap, ◌∙◌}
use mathlib.Core.Bool.{true, false, cond, and-false}
use mathlib.Core.List.{List, [], ◌∷◌, ◌++◌}
use mathlib.Core.Logic.{⊎_elim}
use Prim.Native.Nat.{ℕ, zero, suc, ◌+◌, ◌-◌, ◌≤◌, ◌<◌}
use native.Mathlib.Omega.{arith}
use lib.Dec.{leb, eqb}
use lib.ListN.{length, take, drop, length-drop}
use borrow.Author.Tests.{leb-true, leb-false, le-leb, lt-leb, lt-ltb, le-ltb, eq-eqb, ne_eqb}
use Rattle.words.specs.Numbers.{le}
use Rattle.words.proofs.Choice.{decide, and_left, and_right}
use Rattle.records.specs.Records.{length_of, kind_of, size_of, first_record, records, whole, all_good}
use Rattle.records.specs.Cutting.{due, standing, start, fed}
use Rattle.records.proofs.Due.{due_least}
use Rattle.records.proofs.Claims.{fed_exactly}
use Rattle.records.proofs.Feeding.{any_cutting, standing_start, fed_append, fed_stopped, fed_first, fed_held}
use Rattle.records.proofs.Whole.{fine, first_good, later_good, as_records}
use Rattle.journal.specs.Journal.{good_record}
use Rattle.intake.specs.Taking.{good_front, Taking, stopped, step, reader}
use Rattle.intake.specs.Bursts.{stands_at, completed}
use Rattle.intake.specs.Claims.Intake.{AnyCutting, BurstsJoin, arrived, RecordByRecord, GoodOnes, EachJudged, StopsForGood, BurstKeeps, EachStore, IntakeClaims}
use Rattle.intake.proofs.Readings.{intake_readings}
use Rattle.intake.proofs.Fronts.{front_exactly, due_size, due_four, good_front_lem, bad_front}
use Rattle.intake.proofs.Steps.{sticky, bad_stops, bad_malformed, going, not_done, each_step, run_grows}
use Rattle.intake.proofs.Standings.{each_end, end_tells, start_ready}

every_cutting : AnyCutting
every_cutting s bs = any_cutting reader sticky (start s) (standing_start reader s) bs

bursts_join : BurstsJoin
bursts_join w a b = fed_append reader sticky w a b

stops_for_good : StopsForGood
stops_for_good s b n = fed_stopped reader sticky (start s) b (not_done s.fault n)

-- ---- the record in front: too short to judge, whole or waiting behind a good front, refused by a bad one

module _ (s : Taking) (b : List ℕ) where
  module _ (on : stopped s ≡ false) where
    short_held : length b < 4 → fed reader (start s) b ≡ stands_at s b
    short_held l = fed_held reader sticky s [] b on (omega (arith, due_least good_front b))

    waits_held : good_front (length_of b) (kind_of b) ≡ true → length b < size_of b → fed reader (start s) b ≡ stands_at s b
    waits_held e l = fed_held reader sticky s [] b on (omega (arith, due_size b e))

    front_stops : 4 ≤ length b → good_front (length_of b) (kind_of b) ≡ false → fed reader (start s) b ≡ start (step s (take 4 b))
    front_stops l e =
        let four = due_four b e in
        rw four at (fed_first reader sticky b s (omega arith))
        ∙ fed_stopped reader sticky (start (step s (take 4 b))) (drop 4 b) (bad_stops s (take 4 b) on (bad_front b l e))

  whole_first : good_front (length_of b) (kind_of b) ≡ true → size_of b ≤ length b → fed reader (start s) b ≡ fed reader (start (step s (first_record b))) (drop (size_of b) b)
  whole_first e l = let size = due_size b e in rw size at (fed_first reader sticky b s (omega arith))

each_judged : EachJudged
each_judged s b e fit =
    let on = going s e in
    record {
      short = short_held s b on;
      front = λ l g. front_stops s b on l g ∙ ap start (bad_malformed s (take 4 b) on (bad_front b l g) fit);
      waits = λ _ g l. waits_held s b on g l;
      complete = λ _ g l. whole_first s b g l;
    }

-- each record takes at least four bytes, so there are fewer than bytes
arrives : (n : ℕ) (s : Taking) (b : List ℕ) → length b < n → fed reader (start s) b ≡ arrived n s b
unfolding arrived
arrives zero s b l = absurd (omega arith)
arrives (suc n) s b l = decide (stopped s)
    (λ e. rw e (fed_stopped reader sticky (start s) b e))
    (λ e. decide (leb 4 (length b))
    (λ f. decide (good_front (length_of b) (kind_of b))
    (λ g. decide (leb (size_of b) (length b))
    (λ w. rw (e, f, g, w) (whole_first s b g (leb-true _ _ w) ∙ arrives n _ (drop (size_of b) b) (omega (arith, leb-true 4 (length b) f, length-drop (size_of b) b))))
    (λ w. rw (e, f, g, w) (waits_held s b e g (leb-false _ _ w))))
    (λ g. rw (e, f, g) (front_stops s b e (leb-true _ _ f) g)))
    (λ f. rw (e, f) (short_held s b e (leb-false _ _ f))))

record_by_record : RecordByRecord
record_by_record s b = arrives (suc (length b)) s b (omega arith)

good_fronts : (rs : List (List ℕ)) → all_good good_record rs ≡ true → all_good (fine good_front) rs ≡ true
unfolding all_good
good_fronts [] e = e
good_fronts (r ∷ rs) e =
    let one = first_good good_record r rs e in
    rw (and_left (whole r) _ one, good_front_lem r (and_right (whole r) _ one)) (good_fronts rs (later_good good_record r rs e))

pub good_ones : GoodOnes
unfolding fed
good_ones s b e = let all = as_records good_front b (good_fronts (records b) e) in rw (all.all, all.none) (standing_start reader _)

burst_keeps : BurstKeeps
unfolding fed standing
burst_keeps held number fault bytes = record {
  only_appends = λ s. (run_grows (record { buffer = s.buffer; journal = s.journal; number = number; fault = fault }) _).only_appends;
  counted = λ s. (run_grows (record { buffer = s.buffer; journal = s.journal; number = number; fault = fault }) _).counted;
}

each_store : EachStore
unfolding completed
each_store store bytes n =
    let missing = due good_front (take n store ++ bytes) - n in
    record {
      none = λ z. rw (eq-eqb n 0 z);
      due_bytes = λ some o.
          let held : eqb n 0 ≡ false = ne_eqb n 0 (λ e. omega arith) in
          ⊎_elim (λ h. rw (held, le-ltb n 18 h))
          (λ o. ⊎_elim (λ h. simp (held, lt-leb 18 (length bytes) h, and-false)) (λ h. simp (held, lt-leb missing 18 h, and-false)) o) o;
      eighteen = λ some low long few. rw (ne_eqb n 0 (λ e. omega arith), lt-ltb n 18 low, le-leb 18 (length bytes) long, le-leb missing 18 few);
    }

due_is : (r : List ℕ) → due good_front r ≡ 4 + cond (good_front (le 2 r 0) (le 2 r 2)) (le 2 r 0 - 2) 0
unfolding due length_of kind_of
due_is r = refl

pub intake_claims : IntakeClaims
intake_claims = record {
  each_standing = λ buffer store i. record { standing = refl; step = λ s r. (refl, refl) };
  each_store = each_store;
  due_is = due_is;
  fed_exactly = fed_exactly reader sticky;
  any_cutting = every_cutting;
  bursts_join = bursts_join;
  record_by_record = record_by_record;
  good_ones = good_ones;
  front_exactly = front_exactly;
  each_step = each_step;
  each_judged = each_judged;
  stops_for_good = stops_for_good;
  each_end = each_end;
  end_tells = end_tells;
  start_ready = start_ready;
  burst_keeps = burst_keeps;
  readings = intake_readings;
}
