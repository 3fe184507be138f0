-- What a record does, way by way through the code.
use mathlib.Core.Path.{◌≡◌, refl, sym, ap, ◌∙◌}
use Rattle.std.specs.Prelude.{Option, Some, None}
use mathlib.Core.Bool.{true, false, and-false}
use mathlib.Core.List.{List}
use Prim.Native.Nat.{ℕ, ◌+◌, ◌-◌, ◌≤◌, ◌<◌}
use native.Mathlib.Omega.{arith}
use lib.Dec.{leb}
use lib.ListN.{length, take, length-drop}
use lib.Seq.{sets, length-sets}
use borrow.Author.Tests.{le-leb, lt-leb, eq-eqb, ne_eqb}
use Rattle.words.proofs.Choice.{decide}
use Rattle.records.specs.Records.{length_of, kind_of, whole}
use Rattle.records.specs.Cutting.{due}
use Rattle.trace.specs.declared.report.Report.{Report}
use Rattle.trace.proofs.Reader.{frame_bounds}
use Rattle.trace.proofs.First.{compared_ways}
use Rattle.playing.specs.declared.playing.Playing.{Playing}
use Rattle.trace.specs.Trace.{body_of, good_frame, is_good, is_settable}
use Rattle.trace.specs.Playing.{Platform, call, State, agreed, stopped, faulted, kept, setting, compared, calling, played, step}
use Rattle.playing.specs.Lent.{Lent, stored_by, lent_step}
use Rattle.playing.specs.Played.{waiting_of, state_of, lent_of}
use Rattle.playing.specs.Claims.Played.{Steady}
use Rattle.playing.specs.Inner.Terms.{kept_by, faulted_by, set_by, memory_set, left_by, called_by, Plays, Playable}
use Rattle.playing.proofs.Parts.{stored_front}

-- ---- a record that is cut out

module _ (item : List ℕ) (cut : due good_frame item ≡ length item) where
  -- all of a record with a good frame was cut out
  cut_size : good_frame (length_of item) (kind_of item) ≡ true → length item ≡ length_of item + 2
  unfolding due
  cut_size e = sym cut ∙ rw e (omega (arith, (frame_bounds (length_of item) (kind_of item) e).0))

  cut_good : is_good item ≡ good_frame (length_of item) (kind_of item)
  unfolding is_good whole
  cut_good = decide (good_frame (length_of item) (kind_of item))
      (λ e. rw (e, le-leb 2 (length_of item) (frame_bounds (length_of item) (kind_of item) e).0, eq-eqb (length item) (length_of item + 2) (cut_size e)))
      (λ e. rw e (and-false (whole item)))

-- a report has no more calls than one more
compared_few : (calls : ℕ) (recorded ours : List ℕ) → agreed (compared calls recorded ours) ≤ calls + 1
compared_few calls recorded ours = compared_ways calls recorded ours (λ (x : Report). agreed x ≤ calls + 1) (λ _. omega arith) (λ _ _. omega arith)

module _ (p : Platform) (args memory : List ℕ) (t : Playing) (item : List ℕ) (ready : Playable args t item) where
  abbrev s : State
  s = state_of args memory t

  abbrev x : Lent
  x = lent_of args memory t

  abbrev with : State → Lent
  with u = record { state = u; args = args }

  going : stopped s ≡ false
  unfolding stopped
  going = ready.going

  -- ---- a fault

  fault_state : state_of args memory (faulted_by t) ≡ faulted s
  unfolding faulted
  fault_state = go t.waiting
    where
      go : (w : Option ℕ) → state_of args memory (faulted_by (record { records = t.records; report = t.report; waiting = w; edition = t.edition; registration = t.registration; reading = t.reading })) ≡ faulted (state_of args memory (record { records = t.records; report = t.report; waiting = w; edition = t.edition; registration = t.registration; reading = t.reading }))
      go (Some n) = refl
      go None = refl

  fault_steady : Steady args (faulted_by t)
  fault_steady = record { room = ready.steady.room; inside = ready.steady.inside; few = ready.steady.few; fewer = omega arith }

  plays_fault : lent_step p x item ≡ with (faulted s) → Plays p args memory t item args memory (faulted_by t)
  plays_fault e = record { same = ap with fault_state ∙ sym e; steady = fault_steady; edition = refl }

  pub plays_last : 0xffff_fffe < t.records → Plays p args memory t item args memory (faulted_by t)
  unfolding step lent_step
  plays_last h = plays_fault (rw (going, lt-leb (t.records + 1) 4_294_967_295 (omega arith)))

  pub plays_bad : good_frame (length_of item) (kind_of item) ≡ false → Plays p args memory t item args memory (faulted_by t)
  unfolding step lent_step
  plays_bad e = plays_fault (rw (going, cut_good item ready.cut, e, and-false (leb (t.records + 1) 4_294_967_295)))

  -- ---- a good record

  module _ (few : t.records ≤ 0xffff_fffe) (good : good_frame (length_of item) (kind_of item) ≡ true) where
    good_step : lent_step p x item ≡ record { state = played p s s.waiting (kind_of item) (body_of item); args = stored_by p s s.waiting args (kind_of item) (body_of item) }
    unfolding step lent_step
    good_step = rw (going, le-leb (t.records + 1) 4_294_967_295 (omega arith), cut_good item ready.cut, good)

    body_size : length (body_of item) ≤ 4100
    body_size = omega (arith, length-drop 4 item, cut_size item ready.cut good, (frame_bounds (length_of item) (kind_of item) good).1)

    pub item_size : length item ≤ 4104
    item_size = omega (arith, cut_size item ready.cut good, (frame_bounds (length_of item) (kind_of item) good).1)

    -- a 32 waits
    module _ (size : ℕ) (waits : t.waiting ≡ Some size) where
      waiting_is : s.waiting ≡ call (take size args)
      waiting_is = ap (λ (w : Option ℕ). waiting_of w args) waits

      pub plays_call : (argsThen memoryThen : List ℕ) (r : Playing) → kind_of item ≡ 33 → r ≡ called_by (left_by p memory args t size) t (body_of item)
          → memoryThen ≡ (left_by p memory args t size).memory → argsThen ≡ sets args 0 (left_by p memory args t size).args → Plays p args memory t item argsThen memoryThen r
      unfolding calling
      plays_call argsThen memoryThen r kind e m a =
          rw (e, m, a)
          (record {
            same = sym (good_step ∙ rw (waiting_is, eq-eqb (kind_of item) 33 kind));
            steady = record {
              room = omega (arith, length-sets args 0 (left_by p memory args t size).args, ready.steady.room);
              inside = tt;
              few = omega arith;
              fewer = omega (arith, compared_few (agreed t.report) (body_of item) (left_by p memory args t size).args, ready.steady.fewer);
            };
            edition = refl;
          })

      pub plays_unanswered : (kind_of item ≡ 33 → ⊥) → Plays p args memory t item args memory (faulted_by t)
      plays_unanswered kind = plays_fault (good_step ∙ rw (waiting_is, ne_eqb (kind_of item) 33 kind))

    module _ (waits : t.waiting ≡ None) where
      none_waits : s.waiting ≡ waiting_of None args
      none_waits = ap (λ (w : Option ℕ). waiting_of w args) waits

      pub plays_keep : (argsThen : List ℕ) (r : Playing) → kind_of item ≡ 32 → argsThen ≡ sets args 0 (body_of item) → r ≡ kept_by t (length item - 4) → Plays p args memory t item argsThen memory r
      unfolding kept
      plays_keep argsThen r kind a e =
          let size : length item - 4 ≡ length (body_of item) = sym (length-drop 4 item) in
          rw (e, a, size)
          (record {
            same = rw (stored_front (body_of item) args (omega (arith, body_size, ready.steady.room))) (sym (good_step ∙ rw (none_waits, eq-eqb (kind_of item) 32 kind)));
            steady = record { room = omega (arith, length-sets args 0 (body_of item), ready.steady.room); inside = body_size; few = omega arith; fewer = omega (arith, ready.steady.fewer) };
            edition = refl;
          })

      pub plays_set : (memoryThen : List ℕ) (r : Playing) → (kind_of item ≡ 32 → ⊥) → kind_of item ≡ 34 → memoryThen ≡ memory_set memory (body_of item) → r ≡ set_by memory t (body_of item)
          → Plays p args memory t item args memoryThen r
      unfolding setting
      plays_set memoryThen r other kind m e = rw (m, e) (decide (is_settable memory (body_of item)) set unset)
        where
          step_is : lent_step p x item ≡ with (setting s (body_of item))
          step_is = good_step ∙ rw (none_waits, ne_eqb (kind_of item) 32 other, eq-eqb (kind_of item) 34 kind)

          set : is_settable memory (body_of item) ≡ true → Plays p args memory t item args (memory_set memory (body_of item)) (set_by memory t (body_of item))
          set yes_is = rw yes_is (record { same = sym (step_is ∙ rw (yes_is, none_waits)); steady = record { room = ready.steady.room; inside = tt; few = omega arith; fewer = omega (arith, ready.steady.fewer) }; edition = refl })

          unset : is_settable memory (body_of item) ≡ false → Plays p args memory t item args (memory_set memory (body_of item)) (set_by memory t (body_of item))
          unset no_is = rw no_is (plays_fault (step_is ∙ rw no_is))

      pub plays_other : (kind_of item ≡ 32 → ⊥) → (kind_of item ≡ 34 → ⊥) → Plays p args memory t item args memory (faulted_by t)
      plays_other a b = plays_fault (good_step ∙ rw (none_waits, ne_eqb (kind_of item) 32 a, ne_eqb (kind_of item) 34 b))
