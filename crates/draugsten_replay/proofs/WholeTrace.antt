-- A start, bursts and an end are the replay of the whole trace.
use Prim.Native.Nat.{ℕ}
use mathlib.Core.Path.{◌≡◌, refl, sym, ap, ap₂, ◌∙◌}
use mathlib.Core.List.{List, [], ◌∷◌, ◌++◌}
use Rattle.records.specs.Cutting.{Standing, start, fed, fed_all, ended, joined}
use Rattle.records.proofs.Feeding.{any_cutting, standing_start, fed_along}
use Rattle.trace.specs.Playing.{Platform, State, begin, concluded, reader, replay_of}
use Rattle.playing.specs.Lent.{Lent, lender}
use Rattle.playing.proofs.Lent.{lender_sticky, state_step}
use Rattle.replay.specs.Feeding.{lent_standing_of}
use Rattle.trace.proofs.Claims.{trace_claims}
use Rattle.replay.proofs.Ending.{tells}
use Rattle.replay_states.specs.declared.state.FlatReplay.{FlatReplay}
use Rattle.replay_states.specs.States as states
use Rattle.draugsten_replay.specs.Feeding.{platform, standing_in, FlatFeeds, flat_start, flat_end_of}
use Rattle.draugsten_replay.specs.Claims.WholeTrace.{Burst, Fed, trace_in, last_replay, last_held, last_args, last_memory, AllTaken, WholeTrace}
use Rattle.replay_states.proofs.States.{taken, ready}
use Rattle.draugsten_replay.proofs.Bursts.{start_accepted}

bursts : List Burst → List (List ℕ)
bursts [] = []
bursts (b ∷ bs) = b.bytes ∷ bursts bs

joined_is : (bs : List Burst) → joined (bursts bs) ≡ trace_in bs
unfolding joined bursts
joined_is [] = refl
joined_is (b ∷ bs) = ap (λ (l : List ℕ). b.bytes ++ l) (joined_is bs)

abbrev with_args : Standing State → List ℕ → Standing Lent
with_args w args = record { state = record { state = w.state; args = args }; held = w.held }

-- a burst that is taken, with the lent buffer
lent_fed : (journal inventory held args memory : List ℕ) (f : FlatReplay) (b : Burst) → states.judged held args f ≡ 0 → FlatFeeds journal inventory held args memory f b.bytes b.held b.args b.memory b.answer
    → lent_standing_of b.held b.args b.memory (states.replay_in b.answer.replay) ≡ fed (lender (platform journal inventory f.edition)) (lent_standing_of held args memory (states.replay_in f)) b.bytes
lent_fed journal inventory held args memory f b z x =
    let p = platform journal inventory f.edition in
    let w = lent_standing_of held args memory (states.replay_in f) in
    let same : standing_in b.held b.args b.memory b.answer.replay ≡ record { state = (fed (lender p) w b.bytes).state.state; held = (fed (lender p) w b.bytes).held } =
    x.given z ∙ fed_along (lender p) (reader p) (λ (x : Lent). x.state) refl (state_step p) (λ _. refl) w b.bytes in
    ap₂ with_args same (x.lent z)

-- where bursts end: as the reader of the definition says, and taken again
record Ends (p : Platform) (w : Standing Lent) (held args memory : List ℕ) (f : FlatReplay) (bs : List Burst) : Type 0 where
  same : lent_standing_of held args memory (states.replay_in f) ≡ fed_all (lender p) w (bursts bs)
  again : states.judged held args f ≡ 0
  all : AllTaken bs

module _ (journal inventory : List ℕ) (edition : ℕ) where
  abbrev p : Platform
  p = platform journal inventory edition

  ends : (held args memory : List ℕ) (f : FlatReplay) (bs : List Burst) → f.edition ≡ edition → states.judged held args f ≡ 0 → Fed journal inventory held args memory f bs
      → Ends p (lent_standing_of held args memory (states.replay_in f)) (last_held held bs) (last_args args bs) (last_memory memory bs) (last_replay f bs) bs
  unfolding fed_all bursts
  ends held args memory f [] e z fs = record { same = refl; again = z; all = tt }
  ends held args memory f (b ∷ bs) e z fs =
      let x = fs.0 in
      let rest = ends b.held b.args b.memory b.answer.replay bs (x.edition ∙ e) (x.again z) fs.1 in
      record {
        same = rest.same ∙ ap (λ (w : Standing Lent). fed_all (lender p) w (bursts bs)) (rw (← e) (lent_fed journal inventory held args memory f b z x));
        again = rest.again;
        all = (x.number ∙ z, rest.all);
      }

pub whole_trace : WholeTrace
unfolding flat_end_of
whole_trace journal inventory held args memory edition bs h a fs =
    let p = platform journal inventory edition in
    let begun = start_accepted held args memory edition h a in
    let x = ends journal inventory edition held args memory (flat_start edition) bs refl begun.0 fs in
    let f = last_replay (flat_start edition) bs in
    let from : Standing Lent = start (record { state = begin memory; args = args }) in
    let first : lent_standing_of held args memory (states.replay_in (flat_start edition)) ≡ from = ap (λ (w : Standing State). with_args w args) begun.1 in
    let lent : lent_standing_of (last_held held bs) (last_args args bs) (last_memory memory bs) (states.replay_in f) ≡ fed (lender p) from (trace_in bs) =
    x.same ∙ ap (λ (w : Standing Lent). fed_all (lender p) w (bursts bs)) first
    ∙ any_cutting (lender p) (lender_sticky p) from (standing_start (lender p) (record { state = begin memory; args = args })) (bursts bs) ∙ ap (fed (lender p) from) (joined_is bs) in
    let stands : standing_in (last_held held bs) (last_args args bs) (last_memory memory bs) f ≡ fed (reader p) (start (begin memory)) (trace_in bs) =
    ap (λ (w : Standing Lent). record { state = w.state.state; held = w.held }) lent
    ∙ sym (fed_along (lender p) (reader p) (λ (x : Lent). x.state) refl (state_step p) (λ _. refl) from (trace_in bs)) in
    let told = tells p (last_held held bs) (last_args args bs) (last_memory memory bs) (states.replay_in f) (ready (last_held held bs) (last_args args bs) f x.again) in
    let is : concluded (ended (reader p) (standing_in (last_held held bs) (last_args args bs) (last_memory memory bs) f)) ≡ replay_of p memory (trace_in bs) =
    ap (λ (w : Standing State). concluded (ended (reader p) w)) (stands ∙ sym (trace_claims.any_cutting p memory (bursts bs) ∙ ap (fed (reader p) (start (begin memory))) (joined_is bs)))
    ∙ trace_claims.over_records p memory (bursts bs) ∙ ap (replay_of p memory) (joined_is bs) in
    record {
      taken = x.all;
      stands = stands;
      lent = ap (λ (w : Standing Lent). w.state.args) lent;
      told = rw (taken (last_held held bs) (last_args args bs) f x.again, ← told.0, is);
      memory_is = sym told.1 ∙ ap (λ (s : State). s.memory) is;
      registration_is = sym told.2 ∙ ap (λ (s : State). s.registration) is;
      reading_is = sym told.3 ∙ ap (λ (s : State). s.reading) is;
    }
