-- The month in numbers, on both sides of each line (document 02, M-111), cited by the contracts of its exports.
use Rattle.std.specs.Prelude.{ℕ, Bool, ◌&&◌, List, [], ◌∷◌, ◌++◌, T, eqb, replicate, set}
use Rattle.words.specs.Claims.Cases.{same, every}
use Rattle.counting.specs.declared.counts.Counts.{Counts}
use Rattle.totals.specs.declared.adding.Totals.{Totals}
use Rattle.totals.specs.Adding.{totals_of, no_totals}
use Rattle.totals.specs.Claims.Totals.{figure}
use Rattle.totals.specs.Consistent.{figures_at}
use Rattle.replay_states.specs.declared.state.FlatReport.{FlatReport}
use Rattle.replay_states.specs.declared.state.FlatReplay.{FlatReplay}
use Rattle.replay_states.specs.States.{flat_report}
use Rattle.crossing.specs.Record.{flat_reading}
use Rattle.draugsten_replay.specs.Month.{month_added}

-- ---- traces by what they came to

-- so many calls in a row of the first token, with operations and words
abbrev pub in_row : ℕ → ℕ → ℕ → ℕ → Counts
in_row row calls operations used = record { rows = set (replicate 28 0) row calls; operations = operations; used = used }

-- a replay over edition 7, with no registration and no reading in progress
abbrev pub plain : ℕ → FlatReport → ℕ → ℕ → FlatReplay
plain records report held waiting =
    record {
      records = records;
      report = report;
      held = held;
      waiting = waiting;
      edition = 7;
      registration = record { phase = 0; length = 0; copy = replicate 512 0 };
      reading = flat_reading 0 0 1 0;
    }

-- one call that agreed
abbrev pub one_agreed : FlatReplay
one_agreed = plain 2 (flat_report 0 0 1) 0 0

-- a trace is added: the number, the report and the totals afterwards
abbrev pub adds : Totals → FlatReplay → Counts → ℕ → FlatReport → Totals → Bool
adds t f c number report totals =
    let a = month_added t (record { replay = f; counts = c }) in
    (eqb a.number number && same a.totals.figures totals.figures)
    && (eqb a.report.verdict report.verdict && (eqb a.report.offset report.offset && eqb a.report.number report.number))

-- refused: the totals are as they were
abbrev pub keeps : Totals → FlatReplay → Counts → ℕ → FlatReport → Bool
keeps t f c number report = adds t f c number report t

-- the figures of one answered update-nodes call
abbrev pub one_answered : ℕ → ℕ → ℕ → Totals
one_answered row operations used = figures_at ((row, 1) ∷ (28, 1) ∷ (32, operations) ∷ (33, used) ∷ (34, 1019) ∷ [])

-- each row with a number of its own
abbrev pub each_row : List ℕ
each_row = 1 ∷ 2 ∷ 3 ∷ 4 ∷ 5 ∷ 6 ∷ 7 ∷ 8 ∷ 9 ∷ 10 ∷ 11 ∷ 12 ∷ 13 ∷ 14 ∷ 15 ∷ 16 ∷ 17 ∷ 18 ∷ 19 ∷ 20 ∷ 21 ∷ 22 ∷ 23 ∷ 24 ∷ 25 ∷ 26 ∷ 27 ∷ 28 ∷ []

abbrev pub additions : List Bool
additions =
    -- each figure in its place: 28 rows, the calls of each token, operations, words used, 1,019 words for each of 3 answered calls
    adds no_totals (plain 812 (flat_report 0 0 406) 0 0) (record { rows = each_row; operations = 29; used = 30 }) 0 (flat_report 0 0 406)
    (totals_of (each_row ++ (28 ∷ 77 ∷ 126 ∷ 175 ∷ 29 ∷ 30 ∷ 3057 ∷ [])))
    -- "Refusals: a malformed or differing trace": 16
    ∷ keeps (figure 0 0xffff_ffff_ffff_ffff) (plain 2 (flat_report 1 24 1) 0 0) (in_row 0 1 0 0) 16 (flat_report 1 24 1)
    -- ".. then a count that would pass 2^64 - 1": 17
    ∷ keeps (figure 0 0xffff_ffff_ffff_ffff) one_agreed (in_row 0 1 0 0) 17 (flat_report 0 0 1)
    -- counts that no start or feed gives: 14, before both
    ∷ keeps (one_answered 0 3 6) (plain 4 (flat_report 1 24 1) 0 0) (in_row 0 2 0 0) 14 (flat_report 2 0 0)
    ∷ []

abbrev pub MonthReadings : Type 0
MonthReadings = T (every additions)
