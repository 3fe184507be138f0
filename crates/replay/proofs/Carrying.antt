-- All that the code carries, as the readers of a trace have it: its states, its lent buffer and its counts.
use mathlib.Core.Path.{◌≡◌, refl}
use mathlib.Core.List.{List}
use Prim.Native.Nat.{ℕ}
use Rattle.records.specs.Cutting.{Sticky}
use Rattle.trace.specs.Playing.{Platform, step}
use Rattle.counting.specs.OfTrace.{is_taken, made, counted_all, Counting, count_step}
use Rattle.playing.specs.Lent.{lent_step}
use Rattle.replay.specs.Inner.Terms.{Carried, carried_step, carrier}

-- where the replay stands, with the counts
abbrev pub counting : Carried → Counting
counting x = record { state = x.lent.state; counts = x.counts }

module _ (p : Platform) where
  pub carrier_sticky : Sticky (carrier p)
  unfolding carried_step lent_step step is_taken made counted_all
  carrier_sticky x r e = rw e

  module _ (x : Carried) (r : List ℕ) where
    pub carried_lent : lent_step p x.lent r ≡ (carried_step p x r).lent
    unfolding carried_step
    carried_lent = refl

    pub carried_state : step p x.lent.state r ≡ (carried_step p x r).lent.state
    unfolding carried_step lent_step
    carried_state = refl

    pub carried_counting : count_step p (counting x) r ≡ counting (carried_step p x r)
    unfolding carried_step lent_step count_step
    carried_counting = refl
