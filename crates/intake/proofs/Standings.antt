-- Laws of the places that the code of a burst comes to, with no paths into it.
use mathlib.Core.Path.{◌≡◌, refl, sym, ap, ◌∙◌}
use mathlib.Core.Bool.{true, false}
use mathlib.Core.List.{List, [], ◌∷◌, ◌++◌}
use Prim.Native.Nat.{ℕ, ◌+◌, ◌-◌, ◌<◌, ◌≤◌}
use native.Mathlib.Omega.{arith}
use lib.ListN.{length, take, drop, length-drop}
use lib.Seq.{sets, length-take-le}
use borrow.Author.Tests.{eq-eqb, ne_eqb}
use Rattle.std.specs.Prelude.{Option, Some, None, is_some}
use Rattle.words.proofs.Choice.{decide}
use Rattle.records.specs.Cutting.{due, ripe, Standing, start, fed}
use Rattle.records.specs.Inner.Filling.{Filled}
use Rattle.records.proofs.Due.{nothing_raw}
use Rattle.records.proofs.Behind.{left_of_lem, ripe_at}
use Rattle.records.proofs.Holding.{part_over, part_held, Gathered, gathered_of, gathered_held, gathered_done, raw_then, none_then, small_then}
use Rattle.tallies.specs.declared.keeping.Refusal.{Refusal}
use Rattle.tallies.specs.declared.keeping.Refusal.TheVariants as refusal
use Rattle.intake.specs.declared.taking.Place.{Place}
use Rattle.intake.specs.declared.bursts.Intake.{Intake}
use Rattle.intake.specs.declared.bursts.Finished.{Finished}
use Rattle.intake.specs.declared.sweeping.Passed.{Passed}
use Rattle.intake.specs.declared.bursts.Ending.TheVariants as ending
use Rattle.intake.specs.Taking.{good_front, Taking, taking_of, stopped, step, reader}
use Rattle.intake.specs.Bursts.{stands_at, standing_of, Ready, end_for}
use Rattle.intake.specs.Inner.Terms.{Sound, finished, Finishes, Settles, Advances, Passes}
use Rattle.intake.specs.Claims.Intake.{EachEnd, EndTells, StartReady}
use Rattle.intake.proofs.Fronts.{due_most}
use Rattle.intake.proofs.Steps.{sticky, step_sound, fed_sound}
use Rattle.intake.proofs.Completing.{sets_back, finished_none, finished_some}

-- ---- a start

pub start_ready : StartReady
start_ready buffer store t l e =
    (record { room = l; inside = omega arith; raw = nothing_raw good_front; quiet = λ _. refl; numbered = omega arith; fit = e; real = λ u. cc }, refl)

-- ---- the end

module _ (fault : Option Refusal) (number held : ℕ) where
  pub end_is : (o : Option Refusal) → fault ≡ o → end_for o number held ≡ end_for fault number held
  end_is o e = ap (λ (x : Option Refusal). end_for x number held) (sym e)

  pub end_nothing : fault ≡ None → held ≡ 0 → ending.Nothing ≡ end_for fault number held
  end_nothing e z = rw (eq-eqb held 0 z) at (end_is None e)

  pub end_unfinished : fault ≡ None → (held ≡ 0 → ⊥) → ending.Unfinished number ≡ end_for fault number held
  end_unfinished e z = rw (ne_eqb held 0 z) at (end_is None e)

-- no length, no bytes
length-zero : (l : List ℕ) → length l ≡ 0 → l ≡ []
length-zero [] e = refl
length-zero (x ∷ xs) e = absurd (omega arith)

pub each_end : EachEnd
each_end w =
    let fault = w.state.fault in
    let number = w.state.number in
    let held = length w.held in
    record {
      nothing = λ e z. sym (end_nothing fault number held e (ap length z));
      unfinished = λ e z. sym (end_unfinished fault number held e (λ l. z (length-zero w.held l)));
      malformed = λ e. sym (end_is fault number held (Some refusal.Malformed) e);
      no_room = λ e. sym (end_is fault number held (Some refusal.NoRoom) e);
    }

pub end_tells : EndTells
end_tells buffer store i ready = ap (end_for i.place.fault i.place.number) (sym (length-take-le i.held store ready.inside))

-- ---- whole records out of a burst

-- A pass that is under way: what remains, from where the intake stands now, gives what all gives from where it stood.
pub record Passing (buffer : List ℕ) (from : Passed) (bytes bufferNow : List ℕ) (p : Place) (i : ℕ) : Type 0 where
  pub place : i ≤ length bytes
  pub size : length bufferNow ≡ length buffer
  pub sound : Sound (taking_of bufferNow p)
  pub same : fed reader (start (taking_of buffer from.place)) (drop from.at bytes) ≡ fed reader (start (taking_of bufferNow p)) (drop i bytes)

pub pass_starts : (buffer : List ℕ) (from : Passed) (bytes : List ℕ) → from.at ≤ length bytes → Sound (taking_of buffer from.place) → Passing buffer from bytes buffer from.place from.at
pass_starts buffer from bytes l k = record { place = l; size = refl; sound = k; same = refl }

module _ {buffer : List ℕ} {from : Passed} {bytes bufferNow : List ℕ} {p : Place} {i : ℕ} (now : Passing buffer from bytes bufferNow p i) where
  pub pass_over : is_some p.fault ≡ true → Passes buffer from bytes bufferNow (record { place = p; at = length bytes })
  pass_over e = record {
    place = omega arith;
    same = now.same ∙ part_over reader sticky bytes i (taking_of bufferNow p) e;
  }

  pub pass_held : is_some p.fault ≡ false → (n : ℕ) → n ≡ ripe_at good_front (drop i bytes) (ripe good_front (drop i bytes)) → n ≡ 0 → Passes buffer from bytes bufferNow (record { place = p; at = i })
  pass_held e n d z = record {
    place = now.place;
    same = now.same ∙ part_held reader sticky bytes i n d z (taking_of bufferNow p) e;
  }

  pub pass_on : {bufferThen : List ℕ} {r : Passed} → Advances bufferNow (record { place = p; at = i }) bytes bufferThen r → length bufferThen ≡ length bufferNow → Passing buffer from bytes bufferThen r.place r.at
  pass_on a l = record { place = a.place; size = l ∙ now.size; sound = a.sound; same = now.same ∙ a.same }

-- ---- the held record finished

module _ {buffer store : List ℕ} {i : Intake} (ready : Ready buffer store i) where
  pub ready_sound : Sound (taking_of buffer i.place)
  ready_sound = record { numbered = ready.numbered; fit = ready.fit; real = ready.real }

  still_going : (i.held ≡ 0 → ⊥) → is_some i.place.fault ≡ false
  still_going z = decide (is_some i.place.fault) (λ e. absurd (z (ready.quiet e))) (λ e. e)

  pub gathers : (bytes two : List ℕ) (k : ℕ) → (i.held ≡ 0 → ⊥) → length two ≡ length store → Filled store i.held bytes 0 (due good_front (take i.held store ++ bytes)) two k
      → Gathered good_front store i.held bytes two k
  gathers bytes two k z l f = gathered_of good_front 32_808 due_most store i.held bytes two k ready.room ready.inside ready.raw z l f

  finishes : {bytes two : List ℕ} {k : ℕ} → Gathered good_front store i.held bytes two k → two ≡ finished store i.held bytes
  finishes {bytes} {two} {k} g = finished_some store i.held bytes g.some k two (omega (arith, g.filled.amount)) g.filled.whole

  -- what a finish comes to

  module _ (bytes : List ℕ) where
    pub finish_none : i.held ≡ 0 → Finishes buffer store i bytes buffer store (record { place = i.place; held = 0; at = 0 })
    finish_none z = record {
      place = omega arith;
      inside = omega arith;
      size = refl;
      whole = sym (finished_none store i.held bytes z);
      sound = ready_sound;
      still = λ l. absurd (omega arith);
      past = λ _. rw z;
    }

    module _ {two : List ℕ} {k : ℕ} (g : Gathered good_front store i.held bytes two k) (n : ℕ) (e : n ≡ ripe_at good_front (take (i.held + k) two) (ripe good_front (take (i.held + k) two))) where
      pub finish_inside : n ≡ 0 → Finishes buffer store i bytes buffer two (record { place = i.place; held = i.held + k; at = k })
      finish_inside z = record {
        place = g.place;
        inside = g.inside;
        size = g.size;
        whole = finishes g;
        sound = ready_sound;
        still = λ _. gathered_held reader sticky ready.inside g n e (taking_of buffer i.place) z (still_going g.some);
        past = λ o. absurd (g.some (omega arith));
      }

      pub finish_done : (n ≡ 0 → ⊥) → (bufferThen : List ℕ) (p : Place) → taking_of bufferThen p ≡ step (taking_of buffer i.place) (take (i.held + k) two) → Finishes buffer store i bytes bufferThen two (record { place = p; held = 0; at = k })
      finish_done z bufferThen p q = record {
        place = g.place;
        inside = omega arith;
        size = g.size;
        whole = finishes g;
        sound = rw q (step_sound _ _ ready_sound);
        still = λ l. absurd (omega arith);
        past = λ _. gathered_done reader sticky ready.inside g n e (taking_of buffer i.place) z ready.raw (taking_of bufferThen p) q;
      }

    -- ---- the burst settled

    abbrev Now : Standing Taking
    Now = fed reader (standing_of buffer store i) bytes

    settles : (bufferThen storeThen : List ℕ) (r : Intake) → length storeThen ≡ length store → r.held ≤ length storeThen
        → storeThen ≡ sets (finished store i.held bytes) 0 (take r.held storeThen) → standing_of bufferThen storeThen r ≡ Now → Settles buffer store i bytes bufferThen storeThen r
    settles bufferThen storeThen r k l o e =
        let held_is : take r.held storeThen ≡ Now.held = ap (λ (x : Standing Taking). x.held) e in
        let sound : Sound (taking_of bufferThen r.place) = rw (ap (λ (x : Standing Taking). x.state) e) (fed_sound (standing_of buffer store i) bytes ready_sound) in
        record {
          same = e;
          whole = o ∙ ap (sets (finished store i.held bytes) 0) held_is;
          size = k;
          ready = record {
            numbered = sound.numbered;
            fit = sound.fit;
            real = sound.real;
            room = omega (arith, ready.room);
            inside = l;
            raw = raw_then reader (standing_of buffer store i) bytes (take r.held storeThen) held_is ready.raw;
            quiet = λ q.
                let over : stopped Now.state ≡ true = ap (λ (x : Standing Taking). stopped x.state) (sym e) ∙ q in
                omega (arith, length-take-le r.held storeThen l, none_then reader (standing_of buffer store i) bytes (take r.held storeThen) held_is over);
          };
        }

    module _ {bufferThen one : List ℕ} {f : Finished} (d : Finishes buffer store i bytes bufferThen one f) where
      pub settle_still : 0 < f.held → Settles buffer store i bytes bufferThen one (record { place = f.place; held = f.held })
      settle_still l = settles bufferThen one (record { place = f.place; held = f.held }) d.size d.inside
          (sets_back one f.held d.inside ∙ ap (λ (x : List ℕ). sets x 0 (take f.held one)) d.whole) (sym (d.still l))

      module _ (z : f.held ≡ 0) {bufferLast : List ℕ} {r : Passed} (q : Passes bufferThen (record { place = f.place; at = f.at }) bytes bufferLast r) where
        over : Now ≡ stands_at (taking_of bufferLast r.place) (drop r.at bytes)
        over = d.past z ∙ q.same

        rest_small : length bytes - r.at < 32_808
        rest_small =
            let held_is = ap (λ (x : Standing Taking). x.held) (sym over) in
            omega (arith, small_then reader (standing_of buffer store i) bytes (drop r.at bytes) held_is 32_808 due_most ready.raw, length-drop r.at bytes)

        pub settle_past : (two : List ℕ) (n : ℕ) → length two ≡ length one → Filled one 0 bytes r.at (length one) two n
            → Settles buffer store i bytes bufferLast two (record { place = r.place; held = n })
        settle_past two n s g =
            let left = left_of_lem g (omega (arith, rest_small, ready.room, d.size)) in
            settles bufferLast two (record { place = r.place; held = n }) (s ∙ d.size) (omega (arith, left.amount, rest_small, ready.room, d.size))
            (g.whole ∙ ap (λ (x : List ℕ). sets x 0 (take n (drop r.at bytes))) d.whole
            ∙ ap (sets (finished store i.held bytes) 0) (sym left.front))
            (ap (stands_at (taking_of bufferLast r.place)) left.all ∙ sym over)
