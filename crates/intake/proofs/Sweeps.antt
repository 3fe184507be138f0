-- Laws of what a burst takes at once: a stretch from a place on, a sweep, and the burst over it.
use mathlib.Core.Path.{◌≡◌, refl, sym, ap, ap₂, ◌∙◌}
use mathlib.Core.Bool.{true, false, ◌||◌, ◌&&◌}
use mathlib.Core.List.{List, []}
use Prim.Native.Nat.{ℕ, ◌+◌, ◌-◌, ◌<◌, ◌≤◌, min}
use native.Mathlib.Omega.{arith}
use lib.Dec.{leb, eqb, ltb}
use lib.ListN.{length, take, drop, length-drop}
use lib.Seq.{sets, drop-drop, take_all, length-take-le}
use borrow.Author.Tests.{leb-true, ltb-true, eqb-true, eqb-false}
use Rattle.std.specs.Prelude.{is_some}
use Rattle.words.proofs.Choice.{decide, and_left, and_right}
use Rattle.records.specs.Records.{size_limit}
use Rattle.records.specs.Cutting.{ripe, run, Standing, start, fed}
use Rattle.records.proofs.Due.{due_least, nothing_raw}
use Rattle.records.proofs.Feeding.{run_none, fed_stopped}
use Rattle.records.proofs.Holding.{part_step}
use Rattle.records.proofs.Whole.{records_none}
use Rattle.stretch.specs.declared.steps.Stretch.{Stretch}
use Rattle.stretch.specs.Inner.Stretches.{nothing}
use Rattle.intake.specs.declared.taking.Place.{Place}
use Rattle.intake.specs.declared.bursts.Intake.{Intake}
use Rattle.intake.specs.declared.sweeping.Passed.{Passed}
use Rattle.intake.specs.declared.sweeping.Swept.{Swept}
use Rattle.intake.specs.Taking.{good_front, Taking, taking_of, step, reader}
use Rattle.intake.specs.Bursts.{stands_at, standing_of, Ready, completed, Bursts}
use Rattle.intake.specs.Inner.Terms.{Sound, finished, Settles, Advanceable, Advances, Begins, Takeable, TakesStretch, Sweeps}
use Rattle.intake.proofs.Steps.{sticky, journal_of, step_sound, run_sound}
use Rattle.intake.proofs.Standings.{ready_sound}
use Rattle.intake.proofs.Completing.{finished_none, completed_none}
use Rattle.intake.proofs.Covering.{covers_none}
use Rattle.intake.proofs.Runs.{fed_run}

-- ---- a stretch that was taken

module _ {buffer h : List ℕ} {from : Place} {bytes bufferThen : List ℕ} {r : Passed} (t : TakesStretch buffer h from bytes bufferThen r) where
  stretch_sound : Sound (taking_of buffer from) → Sound (taking_of bufferThen r.place)
  stretch_sound k = rw t.same (run_sound _ _ k)

  stretch_same : is_some from.fault ≡ false → ripe good_front h ≡ false → fed reader (stands_at (taking_of buffer from) h) bytes ≡ fed reader (start (taking_of bufferThen r.place)) (drop r.at bytes)
  stretch_same on raw = fed_run (taking_of buffer from) h bytes r.at on raw t.good ∙ ap (λ (s : Taking). fed reader (start s) (drop r.at bytes)) (sym t.same)

-- one of no bytes leaves all as it was
stretch_none : {buffer : List ℕ} {from : Place} {bytes bufferThen : List ℕ} {r : Passed} → TakesStretch buffer [] from bytes bufferThen r → r.at ≡ 0 → taking_of bufferThen r.place ≡ taking_of buffer from
stretch_none {buffer} {from} t z = rw z at t.same ∙ ap (run step (taking_of buffer from)) records_none ∙ run_none step (taking_of buffer from)

-- ---- from a place of a burst on

-- all bytes from there
tail : (b : List ℕ) (k : ℕ) → take (length b - k) (drop k b) ≡ drop k b
tail b k = take_all (length b - k) (drop k b) (omega (arith, length-drop k b))

pub advance_takeable : {buffer : List ℕ} {from : Passed} {bytes : List ℕ} {n : ℕ} → Advanceable buffer from bytes n → (rest : List ℕ) (first : Stretch) → first ≡ nothing → Takeable buffer [] from.place rest first
advance_takeable a rest first e = rw e (record { going = a.going; fit = a.sound.fit; covers = covers_none rest; onward = omega arith; room = omega arith })

module _ {buffer : List ℕ} {from : Passed} {bytes : List ℕ} {n : ℕ} (a : Advanceable buffer from bytes n) {bufferNow : List ℕ} {r : Passed}
    (g : TakesStretch buffer [] from.place (take (length bytes - from.at) (drop from.at bytes)) bufferNow r) where
  t : TakesStretch buffer [] from.place (drop from.at bytes) bufferNow r
  t = rw (tail bytes from.at) at g

  -- past all of a stretch
  pub advance_all : 0 < r.at → Advances buffer from bytes bufferNow (record { place = r.place; at = from.at + r.at })
  advance_all l = record {
    place = omega (arith, t.place, length-drop from.at bytes, a.fits);
    onward = omega arith;
    sound = stretch_sound t a.sound;
    same = stretch_same t a.going (nothing_raw good_front) ∙ ap (fed reader (start (taking_of bufferNow r.place))) (drop-drop r.at from.at bytes);
  }

  -- past one record where there is none
  pub advance_one : r.at ≡ 0 → (bufferThen : List ℕ) (p : Place) → taking_of bufferThen p ≡ step (taking_of bufferNow r.place) (take (from.at + n - from.at) (drop from.at bytes))
      → Advances buffer from bytes bufferThen (record { place = p; at = from.at + n })
  advance_one z bufferThen p e =
      let some : 4 ≤ n = omega (arith, a.is, due_least good_front (drop from.at bytes)) in
      let next : taking_of bufferThen p ≡ step (taking_of buffer from.place) (take (from.at + n - from.at) (drop from.at bytes)) = rw (stretch_none t z) at e in
      record {
        place = a.fits;
        onward = omega arith;
        sound = rw next (step_sound _ _ a.sound);
        same = part_step reader sticky bytes from.at n (record { is = a.is; fits = a.fits; some = some }) (taking_of buffer from.place) (taking_of bufferThen p) next;
      }

-- ---- a sweep

module _ {buffer store : List ℕ} {i : Intake} (ready : Ready buffer store i) (bytes : List ℕ) where
  -- nothing was taken, and the held bytes are the same
  pub sweep_none : {one : List ℕ} → length one ≡ length store → take i.held one ≡ take i.held store
      → finished one i.held bytes ≡ completed store i.held bytes → Sweeps buffer store i bytes buffer one (record { intake = i; at = 0 })
  sweep_none size front put = record {
    place = omega arith;
    size = size;
    whole = put;
    ready = record {
      room = omega (arith, ready.room);
      inside = omega (arith, ready.inside);
      raw = rw front ready.raw;
      quiet = ready.quiet;
      numbered = ready.numbered;
      fit = ready.fit;
      real = ready.real;
    };
    same = rw front refl;
  }

  module _ {one : List ℕ} {first : Stretch} (b : Begins store i.held bytes one first) where
    pub end_inside : first.end ≤ length bytes
    end_inside = decide (eqb first.end 0) (λ e. omega (arith, eqb-true first.end 0 e)) (λ e. (b.covers (omega (arith, eqb-false first.end 0 e))).inside)

    -- nothing is held, or the held record ends in the burst and finds room
    abbrev Can : ℕ → Type 0
    Can room = (eqb i.held 0 || (ltb 0 first.end && leb (i.held + first.end) room)) ≡ true

    module _ (going : is_some i.place.fault ≡ false) where
      -- with nothing held the stretch is none; else the held record is its first
      pub sweep_takeable : Can (min (length buffer) size_limit - i.place.journal.used) → Takeable buffer (take i.held one) i.place bytes first
      sweep_takeable can = decide (eqb i.held 0)
          (λ e.
          let z = eqb-true i.held 0 e in
          let none : first ≡ nothing = b.none (b.empty z) in
          record {
            going = going;
            fit = ready.fit;
            covers = rw (z, none) (covers_none bytes);
            onward = b.onward;
            room = rw z (omega (arith, b.empty z));
          })
          (λ e.
          let both = rw e at can in
          record {
            going = going;
            fit = ready.fit;
            covers = rw b.front (b.covers (ltb-true 0 first.end (and_left _ _ both)));
            onward = b.onward;
            room = omega (arith, length-take-le i.held one (omega (arith, b.size, ready.inside)), leb-true (i.held + first.end) (min (length buffer) size_limit - i.place.journal.used) (and_right (ltb 0 first.end) _ both));
          })

      pub sweep_all : (room : ℕ) → Can room → {bufferThen : List ℕ} {r : Passed} → TakesStretch buffer (take i.held one) i.place bytes bufferThen r
          → Sweeps buffer store i bytes bufferThen one (record { intake = record { place = r.place; held = 0 }; at = r.at })
      sweep_all room can {r = r} t =
          let sound = stretch_sound t (ready_sound ready) in
          record {
            place = t.place;
            size = b.size;
            whole = finished_none one 0 (drop r.at bytes) refl ∙ decide (eqb i.held 0)
                (λ e. sym (finished_none one i.held bytes (eqb-true i.held 0 e)) ∙ b.whole)
                (λ e. b.ended (ltb-true 0 first.end (and_left _ _ (rw e at can))));
            ready = record {
              room = omega (arith, ready.room, b.size);
              inside = omega arith;
              raw = nothing_raw good_front;
              quiet = λ _. refl;
              numbered = sound.numbered;
              fit = sound.fit;
              real = sound.real;
            };
            same = sym (rw b.front at (stretch_same t going (rw b.front ready.raw)));
          }

-- ---- the burst: a sweep, and the rest of the burst settled

pub burst_all : {buffer store : List ℕ} {i : Intake} {bytes bufferNow storeNow : List ℕ} {w : Swept} → Ready buffer store i
    → Sweeps buffer store i bytes bufferNow storeNow w → {bufferThen storeThen : List ℕ} {r : Intake}
    → Settles bufferNow storeNow w.intake (take (length bytes - w.at) (drop w.at bytes)) bufferThen storeThen r → Bursts buffer store i bytes bufferThen storeThen r
burst_all {buffer} {store} {i} {bytes} {w = w} ready s b =
    let all = rw (tail bytes w.at) at b.same ∙ s.same in
    let whole = rw (tail bytes w.at) at b.whole ∙ ap₂ (λ (x y : List ℕ). sets x 0 y) s.whole (ap (λ (x : Standing Taking). x.held) s.same) in
    record {
      same = all;
      journal = ap (λ (x : Standing Taking). journal_of x.state) all;
      whole = whole;
      kept = λ d.
          let none = fed_stopped reader sticky (standing_of buffer store i) bytes d in
          whole ∙ ap (λ (x : Standing Taking). sets (completed store i.held bytes) 0 x.held) none ∙ completed_none store i.held bytes (ready.quiet d);
      size = b.size ∙ s.size;
      ready = b.ready;
    }
