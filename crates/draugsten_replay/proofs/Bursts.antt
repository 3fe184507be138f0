-- What a start and a burst give.
use mathlib.Core.Path.{◌≡◌, refl, sym, ap, ◌∙◌}
use mathlib.Core.Bool.{true}
use mathlib.Core.List.{List}
use Prim.Native.Nat.{ℕ}
use Rattle.records.specs.Cutting.{Standing, fed}
use Rattle.inventory.specs.declared.edition.Edition.{Edition}
use Rattle.trace.specs.Playing.{Platform, State, reader}
use Rattle.trace.specs.Came.{state_came}
use Rattle.trace.proofs.Came.{begin_came, fed_came}
use Rattle.playing.specs.Played as played
use Rattle.replay.specs.declared.feeding.Replay.{Replay}
use Rattle.replay.specs.Feeding as replays
use Rattle.replay.specs.Inner.Terms as replays-inner
use Rattle.replay.proofs.Standings.{ready_start}
use Rattle.replay_states.specs.declared.state.FlatReplay.{FlatReplay}
use Rattle.counting.specs.declared.counts.Counts.{Counts}
use Rattle.replay_states.specs.States.{replay_with, flat_replay_of, judged}
use Rattle.replay_states.proofs.States.{standing_back, taken, room, state_came_lem, again}
use Rattle.draugsten_replay.specs.Feeding.{platform, standing_in, FlatFeeds}
use Rattle.draugsten_replay.specs.Claims.Feeding.{StartAccepted}

pub start_accepted : StartAccepted
start_accepted held args memory edition h a =
    let e : Edition = record { 0 = edition } in
    (again held args memory (replays.start_of e) (ready_start held args e h a) (begin_came e memory), standing_back held args memory (replays.start_of e))

module _ (journal inventory held args memory : List ℕ) (f : FlatReplay) (bytes : List ℕ) where
  pub feeds_refused : (n : ℕ) → n ≡ judged held args f → (n ≡ 0 → ⊥) → FlatFeeds journal inventory held args memory f bytes held args memory (record { number = n; replay = f })
  feeds_refused n e h =
      record {
        number = e;
        refused = λ _. (refl, (refl, (refl, refl)));
        given = λ z. absurd (h (e ∙ z));
        lent = λ z. absurd (h (e ∙ z));
        whole = λ z. absurd (h (e ∙ z));
        behind = refl;
        stopped = λ z. absurd (h (e ∙ z));
        again = λ z. absurd (h (e ∙ z));
        edition = refl;
      }

  -- with any counts
  pub feeds_given : (c : Counts) (heldThen argsThen memoryThen : List ℕ) (r : Replay) → judged held args f ≡ 0
      → replays-inner.Feeds (platform journal inventory f.edition) held args memory (replay_with f c) bytes heldThen argsThen memoryThen r
      → FlatFeeds journal inventory held args memory f bytes heldThen argsThen memoryThen (record { number = 0; replay = flat_replay_of r })
  feeds_given c heldThen argsThen memoryThen r z x =
      record {
        number = sym z;
        refused = λ h. absurd (h z);
        given = λ _. standing_back heldThen argsThen memoryThen r ∙ x.same;
        lent = λ _. x.lent;
        whole = λ _. x.whole;
        behind = x.behind;
        stopped = λ _. x.kept;
        again = λ _. again heldThen argsThen memoryThen r x.ready came_then;
        edition = ap (λ (e : Edition). e.0) x.edition;
      }
    where
      p : Platform
      p = platform journal inventory f.edition

      fed_then : state_came p.edition (fed (reader p) (standing_in held args memory f) bytes).state ≡ true
      fed_then = fed_came p (standing_in held args memory f) bytes (state_came_lem f (taken held args f z) args memory (room held args f z))

      came_then : state_came r.playing.edition (played.state_of argsThen memoryThen r.playing) ≡ true
      came_then = rw (x.edition, ap (λ (w : Standing State). w.state) x.same) fed_then
