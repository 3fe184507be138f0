-- What a burst gives to a replay that counts.
use mathlib.Core.Path.{◌≡◌, refl, sym, ap, ap₂, ◌∙◌}
use mathlib.Core.Bool.{true}
use mathlib.Core.List.{List}
use Prim.Native.Nat.{ℕ}
use lib.ListN.{length}
use Rattle.records.specs.Cutting.{Standing, fed}
use Rattle.records.proofs.Feeding.{fed_along}
use Rattle.trace.specs.Playing.{Platform, State, reader}
use Rattle.counting.specs.declared.counts.Counts.{Counts}
use Rattle.counting.specs.OfTrace.{Counting, counter}
use Rattle.counting.specs.CountsCame.{counting_came}
use Rattle.counting.proofs.OfTrace.{counter_state}
use Rattle.counting.proofs.CountsCame.{counts_fed}
use Rattle.playing.specs.Played as played
use Rattle.replay.specs.declared.feeding.Replay.{Replay}
use Rattle.replay.specs.Inner.Terms as replays
use Rattle.replay_states.specs.States.{replay_with, flat_replay_of, are_counts, judged}
use Rattle.replay_states.proofs.States.{taken, room, state_came_lem}
use Rattle.replay_states.proofs.Counted.{came_in, came_out}
use Rattle.draugsten_replay.specs.declared.month.FlatCounting.{FlatCounting}
use Rattle.draugsten_replay.specs.Feeding.{platform, FlatFeeds}
use Rattle.draugsten_replay.specs.Month.{judged_counting, judged_counting_by, counting_in, CountingFeeds}
use Rattle.draugsten_replay.specs.Inner.Terms.{flat_counting_of}
use Rattle.draugsten_replay.proofs.Bursts.{feeds_given}
use Rattle.draugsten_replay.proofs.Sessions.{alone, counts_in}

module _ (journal inventory held args memory : List ℕ) (f : FlatCounting) (bytes : List ℕ) where
  pub counting_refused : (n : ℕ) → n ≡ judged_counting held args f → (n ≡ 0 → ⊥) → CountingFeeds journal inventory held args memory f bytes held args memory (record { number = n; counting = f })
  counting_refused n e h =
      record {
        number = e;
        refused = λ _. (refl, (refl, (refl, refl)));
        replays = λ z. absurd (h (e ∙ z));
        counts = λ z. absurd (h (e ∙ z));
        again = λ z. absurd (h (e ∙ z));
      }

  module _ (heldThen argsThen memoryThen : List ℕ) (r : Replay) (size : length f.counts.rows ≡ 28) (z : judged_counting held args f ≡ 0)
      (x : replays.Feeds (platform journal inventory f.replay.edition) held args memory (replay_with f.replay f.counts) bytes heldThen argsThen memoryThen r) where
    abbrev p : Platform
    p = platform journal inventory f.replay.edition

    abbrev w : Standing Counting
    w = counting_in held args memory f

    alone_is : judged held args f.replay ≡ 0
    alone_is = alone held args f z

    given : FlatFeeds journal inventory held args memory f.replay bytes heldThen argsThen memoryThen (record { number = 0; replay = flat_replay_of r })
    given = feeds_given journal inventory held args memory f.replay bytes f.counts heldThen argsThen memoryThen r alone_is x

    -- where the replay stands then, and what was counted, keeps the rules
    state_then : played.state_of argsThen memoryThen r.playing ≡ (fed (counter p) w bytes).state.state
    state_then = ap (λ (y : Standing State). y.state) (x.same ∙ fed_along (counter p) (reader p) (λ (y : Counting). y.state) refl (counter_state p) (λ _. refl) w bytes)

    came_then : counting_came (fed (counter p) w bytes).state ≡ true
    came_then =
        let is = taken held args f.replay alone_is in
        let wide = room held args f.replay alone_is in
        counts_fed p w bytes size (state_came_lem f.replay is args memory wide) (came_in f.replay f.counts args memory is wide (counts_in held args f z))

    counts_then : are_counts (flat_replay_of r) r.counts ≡ true
    counts_then = came_out heldThen argsThen memoryThen r x.ready (ap counting_came (ap₂ (λ (s : State) (c : Counts). record { state = s; counts = c }) state_then x.counts) ∙ came_then)

    again : judged_counting heldThen argsThen (flat_counting_of r) ≡ 0
    unfolding judged_counting_by
    again = rw (given.again alone_is, counts_then)

    pub counting_given : CountingFeeds journal inventory held args memory f bytes heldThen argsThen memoryThen (record { number = 0; counting = flat_counting_of r })
    counting_given = record { number = sym z; refused = λ h. absurd (h z); replays = λ _. given; counts = λ _. x.counts; again = λ _. again }
