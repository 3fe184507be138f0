-- What one record of a trace does, exactly when.
use mathlib.Core.Path.{◌≡◌, refl, ap}
use mathlib.Core.Bool.{true, false, ◌&&◌, and-false}
use mathlib.Core.List.{List, [], ◌∷◌}
use mathlib.Core.Logic.{◌⊎◌, ⊎_elim}
use Prim.Native.Nat.{ℕ, zero, suc, ◌+◌, ◌-◌, ◌/◌, ◌%◌, ◌^◌, ◌≤◌, ◌<◌}
use native.Mathlib.Omega.{arith}
use lib.Dec.{leb}
use lib.ListN.{length, drop, length-drop}
use borrow.Author.Tests.{le-leb, lt-leb, ne_eqb, leb-true}
use Rattle.words.specs.Numbers.{le}
use Rattle.words.specs.Claims.Exactly.{Exactly}
use Rattle.words.proofs.Choice.{and_left, and_right}
use Rattle.records.specs.Records.{length_of, kind_of, whole}
use Rattle.records.specs.Cutting.{due, ripe, run}
use Rattle.records.proofs.Due.{short_raw}
use Rattle.records.proofs.Feeding.{fed_held}
use Rattle.records.proofs.Claims.{records_in_turn}
use Rattle.trace.specs.Trace.{good_frame, is_good, is_settable}
use Rattle.trace.specs.Playing.{Platform, none, call, State, stopped, faulted, kept, setting, calling, concluded, step, replay_of, reader}
use Rattle.trace.proofs.Reader.{sticky}
use Rattle.trace.specs.Claims.Recording.{le_bytes}
use Rattle.trace.specs.Claims.Steps.{Good, Faulted, StepExactly, EachReplay}

good_of : (r : List ℕ) → is_good r ≡ true → Good r
unfolding is_good good_frame length_of kind_of
good_of r e =
    let w = (records_in_turn.alone r).0 (and_left (whole r) _ e) in
    let f = and_right (whole r) _ e in
    let len = and_left (leb 2 (le 2 r 0) && leb (le 2 r 0) 4102) _ f in
    let kind = and_right (leb 2 (le 2 r 0) && leb (le 2 r 0) 4102) _ f in
    record {
      whole = w.1;
      counted = w.0;
      few = leb-true _ 4102 (and_right (leb 2 (le 2 r 0)) _ len);
      low = leb-true 32 _ (and_left (leb 32 (le 2 r 2)) _ kind);
      high = leb-true _ 34 (and_right (leb 32 (le 2 r 2)) _ kind);
    }

is_good_lem : (r : List ℕ) → Good r → is_good r ≡ true
unfolding is_good good_frame length_of kind_of
is_good_lem r g = rw ((records_in_turn.alone r).1 (g.counted, g.whole), le-leb 2 _ g.counted, le-leb _ 4102 g.few, le-leb 32 _ g.low, le-leb _ 34 g.high)

pub front : (len kind : ℕ) → Exactly (good_frame len kind ≡ true) ((2 ≤ len) × ((len ≤ 4102) × ((32 ≤ kind) × (kind ≤ 34))))
unfolding good_frame
front len kind = (
  λ e.
      let lengths = and_left (leb 2 len && leb len 4102) _ e in
      let kinds = and_right (leb 2 len && leb len 4102) _ e in
      (leb-true 2 len (and_left _ _ lengths), (leb-true len 4102 (and_right (leb 2 len) _ lengths), (leb-true 32 kind (and_left _ _ kinds), leb-true kind 34 (and_right (leb 32 kind) _ kinds)))),
  λ h. rw (le-leb 2 len h.0, le-leb len 4102 h.1.0, le-leb 32 kind h.1.1.0, le-leb kind 34 h.1.1.1),
)

module _ (p : Platform) (s : State) (r : List ℕ) (going : stopped s ≡ false) where
  -- the settable bytes of a 34
  settable : 9 ≤ length r → le 4 (drop 4 r) 0 + (length (drop 4 r) - 4) ≤ length s.memory → is_settable s.memory (drop 4 r) ≡ true
  unfolding is_settable
  settable h l = rw (le-leb 5 (length (drop 4 r)) (omega (arith, length-drop 4 r)), le-leb _ (length s.memory) l)

  not_settable : (length r < 9) ⊎ (length s.memory < le 4 (drop 4 r) 0 + (length (drop 4 r) - 4)) → is_settable s.memory (drop 4 r) ≡ false
  unfolding is_settable
  not_settable e = ⊎_elim (λ (h : length r < 9). rw (lt-leb 5 (length (drop 4 r)) (omega (arith, length-drop 4 r)))) (λ (h : length s.memory < le 4 (drop 4 r) 0 + (length (drop 4 r) - 4)). simp (lt-leb (le 4 (drop 4 r) 0 + (length (drop 4 r) - 4)) (length s.memory) h, and-false)) e

  step_exactly : s.records < 4_294_967_295 → is_good r ≡ true → StepExactly p s r (step p s r)
  unfolding step kind_of kept setting calling faulted
  step_exactly few good =
      let room = le-leb (s.records + 1) 4_294_967_295 (omega arith) in
      record {
        waits = λ w k. rw (going, room, good, w, k);
        calls = λ args w k. rw (going, room, good, w, k);
        set = λ w k h l. rw (going, room, good, w, k, settable h l);
        not_set = λ w k h. rw (going, room, good, w, k, not_settable h);
        unasked = λ w k. rw (going, room, good, w, k);
        unanswered = λ args w k. rw (going, room, good, w, ne_eqb (le 2 r 2) 33 k);
      }

  bad : (4_294_967_295 ≤ s.records) ⊎ (is_good r ≡ false)
      → (s.waiting ≡ none → Faulted s (s.records + 1) (step p s r)) × ((args : List ℕ) → s.waiting ≡ call args → Faulted s s.records (step p s r))
  unfolding step faulted
  bad e =
      let no : (leb (s.records + 1) 4_294_967_295 && is_good r) ≡ false = ⊎_elim (λ (h : 4_294_967_295 ≤ s.records). rw (lt-leb (s.records + 1) 4_294_967_295 (omega arith))) (λ (g : is_good r ≡ false). rw g (and-false (leb (s.records + 1) 4_294_967_295))) e in
      (λ w. rw (going, no, w), λ args w. rw (going, no, w))

end : (s : State) → stopped s ≡ false → (s.waiting ≡ none → concluded s ≡ s) × ((args : List ℕ) → s.waiting ≡ call args → Faulted s s.records (concluded s))
unfolding concluded faulted
end s going = (λ w. rw (going, w), λ args w. rw (going, w))

-- numbers, written and read
le_length : (w v : ℕ) → length (le_bytes w v) ≡ w
unfolding le_bytes
le_length zero v = refl
le_length (suc w) v = ap suc (le_length w (v / 256))

shift : (w b at : ℕ) (l : List ℕ) → le w (b ∷ l) (suc at) ≡ le w l at
unfolding le
shift zero b at l = refl
shift (suc w) b at l = rw (shift w b (suc at) l)

le_read : (w v : ℕ) → v < 256 ^ w → le w (le_bytes w v) 0 ≡ v
unfolding le_bytes le
le_read zero v h = omega arith
le_read (suc w) v h = rw (shift w (v % 256) 0 (le_bytes w (v / 256)), le_read w (v / 256) (omega arith)) (omega arith)

short : (b : List ℕ) → ripe good_frame b ≡ false → length b < due good_frame b
short b e = short_raw good_frame b e

pub each_replay : EachReplay
unfolding stopped step concluded replay_of run
each_replay p =
    record {
      good = λ r. (good_of r, is_good_lem r);
      front = front;
      going = λ s calls e. (rw e, rw e);
      over = λ s r e. (rw e, rw e);
      each = λ s r going few good. step_exactly p s r going few good;
      bad = λ s r going e. bad p s r going e;
      end = end;
      call_made = λ s args. refl;
      begun = λ m. refl;
      whole = λ m trace. refl;
      none_left = λ s. refl;
      next = λ s r rs. refl;
      bursts = λ s r. (refl, refl);
      unfinished = λ s b going raw. fed_held (reader p) (sticky p) s [] b going (short b raw);
      numbers = λ w v h. (le_length w v, le_read w v h);
    }
