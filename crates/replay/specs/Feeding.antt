-- Where the code of a replay stands between bursts: its struct by value, memory, and two lent buffers, one with the bytes of an unfinished record at its
-- front, one with the body of the 32 that waits. Both are told byte for byte.
use Rattle.std.specs.Prelude.{ℕ, ◌+◌, ◌-◌, Bool, cond, List, ◌++◌, eqb, take, None}
use Rattle.std.proofs.lemmas.List.Edits.{sets}
use Rattle.records.specs.Cutting.{due, Standing}
use Rattle.inventory.specs.declared.edition.Edition.{Edition}
use Rattle.dump.specs.Registration.{no_registration}
use Rattle.calls.specs.ReadingRecord.{no_reading}
use Rattle.trace.specs.declared.report.Report.{Report}
use Rattle.trace.specs.declared.report.Report.TheVariants.{Agreed, Differs, Malformed}
use Rattle.replay.specs.declared.feeding.Replay.{Replay}
use Rattle.trace.specs.Trace.{good_frame}
use Rattle.trace.specs.Playing.{State}
use Rattle.playing.specs.Lent.{Lent}
use Rattle.playing.specs.Played.{state_of, lent_of}
use Rattle.counting.specs.Counts.{no_counts}
use Rattle.counting.specs.OfTrace.{Counting}

module _ {S : Type 0} where
  abbrev pub at : S → List ℕ → Standing S
  at s held = record { state = s; held = held }

abbrev pub standing_of : List ℕ → List ℕ → List ℕ → Replay → Standing State
standing_of held args memory w = at (state_of args memory w.playing) (take w.held held)

abbrev pub lent_standing_of : List ℕ → List ℕ → List ℕ → Replay → Standing Lent
lent_standing_of held args memory w = at (lent_of args memory w.playing) (take w.held held)

abbrev pub counting_of : List ℕ → List ℕ → List ℕ → Replay → Standing Counting
counting_of held args memory w = at (record { state = state_of args memory w.playing; counts = w.counts }) (take w.held held)

-- The buffer of held bytes once a record that is held, if one is, has what is due to it, or all of the burst.
unfoldable pub completed : List ℕ → ℕ → List ℕ → List ℕ
completed held n bytes = cond (eqb n 0) held (sets held n (take (due good_frame (take n held ++ bytes) - n) bytes))

-- "starting with no registration and no reading in progress"
abbrev pub start_of : Edition → Replay
start_of e = record {
  playing = record {
    records = 0;
    report = Agreed 0;
    waiting = None;
    edition = e;
    registration = no_registration;
    reading = no_reading;
  };
  held = 0;
  counts = no_counts;
}

-- What an end tells, by the replay and how many bytes are held. It changes nothing.
unfoldable pub end_of : Report → ℕ → Bool → ℕ → Report
end_of (Agreed calls) records waits held = cond waits (Malformed records) (cond (eqb held 0) (Agreed calls) (Malformed (records + 1)))
end_of (Differs c k) records waits held = Differs c k
end_of (Malformed n) records waits held = Malformed n
