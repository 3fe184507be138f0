-- Laws of the places that the code of a feed comes to, with no paths into it.
use mathlib.Core.Path.{◌≡◌, refl, sym, ap, subst, ◌∙◌}
use mathlib.Core.Bool.{Bool, true, false}
use mathlib.Core.List.{List, ◌++◌}
use Prim.Native.Nat.{ℕ, ◌+◌, ◌-◌, ◌<◌, ◌≤◌}
use native.Mathlib.Omega.{arith}
use lib.Dec.{ltb}
use lib.ListN.{length, take, drop, length-drop}
use lib.Seq.{sets, length-take-le}
use Rattle.records.specs.Cutting.{due, ripe, Standing, start, fed}
use Rattle.records.specs.Inner.Filling.{Filled}
use Rattle.records.proofs.Due.{due_least, nothing_raw}
use Rattle.records.proofs.Feeding.{fed_stopped, fed_along}
use Rattle.records.proofs.Behind.{left_of_lem, ripe_at, Ripe}
use Rattle.records.proofs.Holding.{part_long, part_due, part_over, part_step, part_held, raw_small, Gathered, gathered_of, gathered_four, gathered_due, gathered_held, gathered_done, raw_then, none_then, small_then}
use Rattle.inventory.specs.declared.edition.Edition.{Edition}
use Rattle.trace.specs.Trace.{good_frame}
use Rattle.trace.specs.Playing.{Platform, State, begin, is_over, stopped, reader}
use Rattle.playing.specs.Lent.{Lent, lender}
use Rattle.playing.specs.Played.{platform_of, state_of}
use Rattle.playing.specs.Claims.Played.{Steady}
use Rattle.playing.specs.Inner.Terms.{Plays, Playable}
use Rattle.replay.specs.Feeding.{at, standing_of, completed, start_of}
use Rattle.replay.specs.Claims.Feeding.{Ready}
use Rattle.replay.specs.Inner.Terms.{Feeds, counted_by}
use Rattle.replay.specs.Inner.Terms.{Carried, carried_step, carrier, carried_of, carried_standing_of, Finishes, Passable, Passes}
use Rattle.playing.specs.declared.playing.Playing.{Playing}
use Rattle.replay.specs.declared.feeding.Replay.{Replay}
use Rattle.replay.specs.declared.feeding.Finished.{Finished}
use Rattle.replay.specs.declared.feeding.Passed.{Passed}
use Rattle.trace.proofs.Reader.{due_most}
use Rattle.counting.specs.declared.counts.Counts.{Counts}
use Rattle.counting.specs.Claims.Terms.{Within}
use Rattle.counting.specs.OfTrace.{Counting, counter}
use Rattle.counting.proofs.Growing.{within_none}
use Rattle.replay.proofs.Made.{carried_then_lem, within_then}
use Rattle.replay.proofs.Carrying.{carrier_sticky, carried_state, carried_lent, counting, carried_counting}
use Rattle.replay.proofs.Leaves.{drop_sets, sets_back, completed_none, completed_some, completed_behind}

module _ (args memory : List ℕ) (t : Playing) where
  pub stopped_over : is_over t.report ≡ true → stopped (state_of args memory t) ≡ true
  unfolding stopped
  stopped_over e = e

  pub going : is_over t.report ≡ false → stopped (state_of args memory t) ≡ false
  unfolding stopped
  going e = e

-- the edition never changes, so that the platform is one
over_edition : (P : Platform → Type 0) (journal inventory : List ℕ) (e f : Edition) → e ≡ f → P (record { journal = journal; inventory = inventory; edition = e }) → P (record { journal = journal; inventory = inventory; edition = f })
over_edition P journal inventory e f q x = subst (λ (d : Edition). P (record { journal = journal; inventory = inventory; edition = d })) q x

-- ---- a start is ready, whatever the buffers have

module _ (held args : List ℕ) (e : Edition) where
  pub ready_start : 4104 ≤ length held → 4100 ≤ length args → Ready held args (start_of e)
  ready_start h a = record {
    steady = record { room = a; inside = tt; few = omega arith; fewer = omega arith };
    counted = within_none;
    room = h;
    inside = omega arith;
    raw = nothing_raw good_frame;
    quiet = λ _. refl;
  }

  pub standing_start_of : (memory : List ℕ) → standing_of held args memory (start_of e) ≡ start (begin memory)
  standing_start_of memory = refl

-- ---- whole records out of a burst

-- one that is there can be played
pub part_playable : (b : List ℕ) (i n : ℕ) → Ripe good_frame b i n → (args : List ℕ) (t : Playing) → Steady args t → is_over t.report ≡ false → Playable args t (take (i + n - i) (drop i b))
part_playable b i n r args t s g = record {
  steady = s;
  going = g;
  four = omega (arith, part_long good_frame b i n r, due_least good_frame (drop i b));
  cut = part_due good_frame b i n r ∙ sym (part_long good_frame b i n r);
}

-- A pass that is under way: what remains, from where the replay stands now, gives what all gives from where it stood.
pub record Passing (p : Platform) (args memory bytes : List ℕ) (from : Passed) (argsNow memoryNow : List ℕ) (u : Playing) (c : Counts) (i : ℕ) : Type 0 where
  pub place : i ≤ length bytes
  pub args_long : length argsNow ≡ length args
  pub memory_long : length memoryNow ≡ length memory
  pub steady : Steady argsNow u
  pub counted : Within u.records c
  pub edition : u.edition ≡ from.playing.edition
  pub same : fed (carrier p) (start (carried_of args memory from.playing from.counts)) (drop from.at bytes) ≡ fed (carrier p) (start (carried_of argsNow memoryNow u c)) (drop i bytes)

pub pass_starts : (p : Platform) (args memory bytes : List ℕ) (from : Passed) → Passable args from bytes → Passing p args memory bytes from args memory from.playing from.counts from.at
pass_starts p args memory bytes from s = record { place = s.place; args_long = refl; memory_long = refl; steady = s.steady; counted = s.counted; edition = refl; same = refl }

module _ {p : Platform} {args memory bytes : List ℕ} {from : Passed} {argsNow memoryNow : List ℕ} {u : Playing} {c : Counts} {i : ℕ} (now : Passing p args memory bytes from argsNow memoryNow u c i) where
  pub pass_over : is_over u.report ≡ true → Passes p args memory bytes from argsNow memoryNow (record { playing = u; at = length bytes; counts = c })
  pass_over e = record {
    place = omega arith;
    steady = now.steady;
    counted = now.counted;
    edition = now.edition;
    same = now.same ∙ part_over (carrier p) (carrier_sticky p) bytes i (carried_of argsNow memoryNow u c) (stopped_over argsNow memoryNow u e);
  }

  pub pass_held : is_over u.report ≡ false → (n : ℕ) → n ≡ ripe_at good_frame (drop i bytes) (ripe good_frame (drop i bytes)) → n ≡ 0 → Passes p args memory bytes from argsNow memoryNow (record { playing = u; at = i; counts = c })
  pass_held e n d z = record {
    place = now.place;
    steady = now.steady;
    counted = now.counted;
    edition = now.edition;
    same = now.same ∙ part_held (carrier p) (carrier_sticky p) bytes i n d z (carried_of argsNow memoryNow u c) (going argsNow memoryNow u e);
  }

module _ {journal inventory args memory bytes : List ℕ} {from : Passed} {argsNow memoryNow : List ℕ} {u : Playing} {c : Counts} {i n : ℕ}
    (now : Passing (platform_of journal inventory from.playing) args memory bytes from argsNow memoryNow u c i) (r : Ripe good_frame bytes i n) where
  pub pass_on : (argsThen memoryThen : List ℕ) (v : Playing) (after : Counts) → length argsThen ≡ length argsNow → length memoryThen ≡ length memoryNow
      → (q : Plays (platform_of journal inventory u) argsNow memoryNow u (take (i + n - i) (drop i bytes)) argsThen memoryThen v) → after ≡ counted_by c u.waiting (ltb u.records v.records) argsThen memoryThen
      → Passing (platform_of journal inventory from.playing) args memory bytes from argsThen memoryThen v after (i + n)
  pass_on argsThen memoryThen v after a m q by =
      let carried = over_edition (λ (p : Platform). carried_of argsThen memoryThen v after ≡ carried_step p (carried_of argsNow memoryNow u c) (take (i + n - i) (drop i bytes))) journal inventory u.edition from.playing.edition now.edition (carried_then_lem q now.steady c after by) in
      record {
        place = r.fits;
        args_long = a ∙ now.args_long;
        memory_long = m ∙ now.memory_long;
        steady = q.steady;
        counted = within_then q now.steady c after by now.counted;
        edition = q.edition ∙ now.edition;
        same = now.same ∙ part_step (carrier (platform_of journal inventory from.playing)) (carrier_sticky (platform_of journal inventory from.playing)) bytes i n r (carried_of argsNow memoryNow u c) (carried_of argsThen memoryThen v after) carried;
      }

-- ---- the held record finished

module _ {held args : List ℕ} {w : Replay} (ready : Ready held args w) where
  held_few : w.held < 4104
  held_few = omega (arith, length-take-le w.held held ready.inside, raw_small good_frame 4104 due_most (take w.held held) ready.raw)

  pub still_going : (w.held ≡ 0 → ⊥) → is_over w.playing.report ≡ false
  still_going z = go (is_over w.playing.report) refl
    where
      go : (t : Bool) → is_over w.playing.report ≡ t → t ≡ false
      go true e = absurd (z (ready.quiet e))
      go false e = refl

  pub gathers : (bytes two : List ℕ) (k : ℕ) → (w.held ≡ 0 → ⊥) → length two ≡ length held → Filled held w.held bytes 0 (due good_frame (take w.held held ++ bytes)) two k
      → Gathered good_frame held w.held bytes two k
  gathers bytes two k z l f = gathered_of good_frame 4104 due_most held w.held bytes two k ready.room ready.inside ready.raw z l f

  completes : {bytes two : List ℕ} {k : ℕ} → Gathered good_frame held w.held bytes two k → two ≡ completed held w.held bytes
  completes {bytes} {two} {k} g = completed_some held w.held bytes g.some k two (omega (arith, g.filled.amount)) g.filled.whole

  pub gathered_playable : {bytes two : List ℕ} {k : ℕ} → Gathered good_frame held w.held bytes two k → (n : ℕ) → n ≡ ripe_at good_frame (take (w.held + k) two) (ripe good_frame (take (w.held + k) two)) → (n ≡ 0 → ⊥)
      → Playable args w.playing (take (w.held + k) two)
  gathered_playable g n e z = record {
    steady = ready.steady;
    going = still_going g.some;
    four = gathered_four good_frame ready.inside g n e z;
    cut = gathered_due good_frame ready.inside g n e z;
  }

  -- what a finish comes to

  module _ (p : Platform) (memory bytes : List ℕ) where
    pub finish_none : w.held ≡ 0 → Finishes p held args memory w bytes held args memory (record { playing = w.playing; held = 0; at = 0; counts = w.counts })
    finish_none z = record { place = omega arith; inside = omega arith; whole = sym (completed_none held w.held bytes z); steady = ready.steady; counted = ready.counted; edition = refl; still = λ l. absurd (omega arith); past = λ _. rw z }

    module _ {two : List ℕ} {k : ℕ} (g : Gathered good_frame held w.held bytes two k) (n : ℕ) (e : n ≡ ripe_at good_frame (take (w.held + k) two) (ripe good_frame (take (w.held + k) two))) where
      pub finish_inside : n ≡ 0 → Finishes p held args memory w bytes two args memory (record { playing = w.playing; held = w.held + k; at = k; counts = w.counts })
      finish_inside z = record {
        place = g.place;
        inside = g.inside;
        whole = completes g;
        steady = ready.steady;
        counted = ready.counted;
        edition = refl;
        still = λ _. gathered_held (carrier p) (carrier_sticky p) ready.inside g n e (carried_of args memory w.playing w.counts) z (going args memory w.playing (still_going g.some));
        past = λ e. absurd (g.some (omega arith));
      }

      pub finish_done : (n ≡ 0 → ⊥) → (argsThen memoryThen : List ℕ) (u : Playing) (after : Counts) (q : Plays p args memory w.playing (take (w.held + k) two) argsThen memoryThen u)
          → after ≡ counted_by w.counts w.playing.waiting (ltb w.playing.records u.records) argsThen memoryThen → Finishes p held args memory w bytes two argsThen memoryThen (record { playing = u; held = 0; at = k; counts = after })
      finish_done z argsThen memoryThen u after q by = record {
        place = g.place;
        inside = omega arith;
        whole = completes g;
        steady = q.steady;
        counted = within_then q ready.steady w.counts after by ready.counted;
        edition = q.edition;
        still = λ l. absurd (omega arith);
        past = λ _. gathered_done (carrier p) (carrier_sticky p) ready.inside g n e (carried_of args memory w.playing w.counts) z ready.raw (carried_of argsThen memoryThen u after) (carried_then_lem q ready.steady w.counts after by);
      }

    -- ---- the burst

    abbrev Now : Standing Carried
    Now = fed (carrier p) (carried_standing_of held args memory w) bytes

    same_then : (x : Standing Carried) → x ≡ Now → at x.state.lent.state x.held ≡ fed (reader p) (standing_of held args memory w) bytes
    same_then x e = ap (λ (y : Standing Carried). at y.state.lent.state y.held) e ∙ sym (fed_along (carrier p) (reader p) (λ (y : Carried). y.lent.state) refl (carried_state p) (λ _. refl) (carried_standing_of held args memory w) bytes)

    over_then : is_over w.playing.report ≡ true → Now ≡ start (carried_of args memory w.playing w.counts)
    over_then e = fed_stopped (carrier p) (carrier_sticky p) (carried_standing_of held args memory w) bytes (stopped_over args memory w.playing e)

    feeds : (heldThen argsThen memoryThen : List ℕ) (r : Replay) → length heldThen ≡ length held → Steady argsThen r.playing → Within r.playing.records r.counts → r.held ≤ length heldThen → r.playing.edition ≡ w.playing.edition
        → heldThen ≡ sets (completed held w.held bytes) 0 (take r.held heldThen) → carried_standing_of heldThen argsThen memoryThen r ≡ Now → Feeds p held args memory w bytes heldThen argsThen memoryThen r
    feeds heldThen argsThen memoryThen r k s t l d o e =
        let held_is : take r.held heldThen ≡ Now.held = ap (λ (x : Standing Carried). x.held) e in
        let raw = raw_then (carrier p) (carried_standing_of held args memory w) bytes (take r.held heldThen) held_is ready.raw in
        record {
          same = same_then _ e;
          lent = ap (λ (x : Standing Carried). x.state.lent.args) e ∙ sym (ap (λ (x : Standing Lent). x.state.args) (fed_along (carrier p) (lender p) (λ (y : Carried). y.lent) refl (carried_lent p) (λ _. refl) (carried_standing_of held args memory w) bytes));
          counts = ap (λ (x : Standing Carried). x.state.counts) e ∙ sym (ap (λ (x : Standing Counting). x.state.counts) (fed_along (carrier p) (counter p) counting refl (carried_counting p) (λ _. refl) (carried_standing_of held args memory w) bytes));
          whole = o ∙ ap (λ (x : Standing State). sets (completed held w.held bytes) 0 x.held) (same_then _ e);
          behind = ap (drop 4104) o ∙ drop_sets (take r.held heldThen) (completed held w.held bytes) 0 4104 (omega (arith, raw_small good_frame 4104 due_most (take r.held heldThen) raw)) ∙ completed_behind held w.held bytes held_few;
          kept = λ q.
              let stop = e ∙ over_then q in
              (o ∙ ap (λ (x : Standing Carried). sets (completed held w.held bytes) 0 x.held) stop ∙ completed_none held w.held bytes (ready.quiet q), ap (λ (x : Standing Carried). x.state.lent.args) stop);
          ready = record {
            steady = s;
            counted = t;
            room = omega (arith, ready.room);
            inside = l;
            raw = raw;
            quiet = λ q.
                let over : stopped Now.state.lent.state ≡ true = ap (λ (x : Standing Carried). stopped x.state.lent.state) (sym e) ∙ stopped_over argsThen memoryThen r.playing q in
                omega (arith, length-take-le r.held heldThen l, none_then (carrier p) (carried_standing_of held args memory w) bytes (take r.held heldThen) held_is over);
          };
          edition = d;
        }

    pub feed_still : (one argsThen memoryThen : List ℕ) (f : Finished) → length one ≡ length held → Finishes p held args memory w bytes one argsThen memoryThen f → 0 < f.held
        → Feeds p held args memory w bytes one argsThen memoryThen (record { playing = f.playing; held = f.held; counts = f.counts })
    feed_still one argsThen memoryThen f k d l = feeds one argsThen memoryThen (record { playing = f.playing; held = f.held; counts = f.counts }) k d.steady d.counted d.inside d.edition
        (sets_back one f.held d.inside ∙ ap (λ (x : List ℕ). sets x 0 (take f.held one)) d.whole) (sym (d.still l))

  module _ (journal inventory memory bytes : List ℕ) where
    abbrev Here : Platform
    Here = platform_of journal inventory w.playing

    module _ {one argsThen memoryThen : List ℕ} {f : Finished} (k : length one ≡ length held) (d : Finishes Here held args memory w bytes one argsThen memoryThen f) (z : f.held ≡ 0)
        {argsLast memoryLast : List ℕ} {r : Passed} (q : Passes (platform_of journal inventory f.playing) argsThen memoryThen bytes (record { playing = f.playing; at = f.at; counts = f.counts }) argsLast memoryLast r) where
      passed : Passes Here argsThen memoryThen bytes (record { playing = f.playing; at = f.at; counts = f.counts }) argsLast memoryLast r
      passed = over_edition (λ (p : Platform). Passes p argsThen memoryThen bytes (record { playing = f.playing; at = f.at; counts = f.counts }) argsLast memoryLast r) journal inventory f.playing.edition w.playing.edition d.edition q

      over : fed (carrier Here) (carried_standing_of held args memory w) bytes ≡ at (carried_of argsLast memoryLast r.playing r.counts) (drop r.at bytes)
      over = d.past z ∙ passed.same

      rest_small : length bytes - r.at < 4104
      rest_small =
          let held_is = ap (λ (x : Standing Carried). x.held) (sym over) in
          omega (arith, small_then (carrier Here) (carried_standing_of held args memory w) bytes (drop r.at bytes) held_is 4104 due_most ready.raw, length-drop r.at bytes)

      pub feed_past : (two : List ℕ) (n : ℕ) → length two ≡ length one → Filled one 0 bytes r.at (length one) two n → Feeds Here held args memory w bytes two argsLast memoryLast (record { playing = r.playing; held = n; counts = r.counts })
      feed_past two n s g =
          let left = left_of_lem g (omega (arith, rest_small, ready.room)) in
          feeds Here memory bytes two argsLast memoryLast (record { playing = r.playing; held = n; counts = r.counts }) (s ∙ k) q.steady q.counted (omega (arith, left.amount, rest_small, ready.room)) (q.edition ∙ d.edition)
          (g.whole ∙ ap (λ (x : List ℕ). sets x 0 (take n (drop r.at bytes))) d.whole ∙ ap (sets (completed held w.held bytes) 0) (sym left.front)) (ap (at (carried_of argsLast memoryLast r.playing r.counts)) left.all ∙ sym over)
