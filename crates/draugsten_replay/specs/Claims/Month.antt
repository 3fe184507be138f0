-- What is claimed of the month at the C boundary, cited by the contracts of the functions of `month`.
use Rattle.std.specs.Prelude.{ℕ, ◌+◌, ◌*◌, ◌≤◌, ◌<◌, ◌≡◌, true, false, cond, ◌&&◌, List, [], ◌∷◌, ◌++◌, eqb, length, take, drop, get_or, replicate, is_ok}
use Rattle.words.specs.Numbers.{be32}
use Rattle.calls.specs.Buffer.{input, status_at, is_nodes}
use Rattle.counting.specs.declared.counts.Counts.{Counts}
use Rattle.counting.specs.Counts.{no_counts}
use Rattle.counting.specs.Claims.Counts.{CountClaims}
use Rattle.counting.specs.CountsCame.{counts_came}
use Rattle.counting.specs.Claims.CountsCame.{TraceCountClaims}
use Rattle.totals.specs.declared.adding.Totals.{Totals}
use Rattle.totals.specs.Adding.{no_totals, added_to, totals_after}
use Rattle.totals.specs.Claims.Totals.{reordered, EachFits, TotalsClaims}
use Rattle.totals.specs.Consistent.{consistent}
use Rattle.totals.specs.Claims.Consistent.{ConsistentClaims}
use Rattle.shares.specs.Share.{share_of}
use Rattle.shares.specs.Claims.Share.{Lowest, ShareClaims}
use Rattle.trace.specs.declared.report.Report.TheVariants.{Agreed, Differs, Malformed}
use Rattle.trace.specs.Playing.{is_over, replay_of}
use Rattle.trace.specs.Came.{waits_in}
use Rattle.counting.specs.OfTrace.{counter, counts_of}
use Rattle.counting.specs.Figures.{sum_of, figures_of}
use Rattle.replay_states.specs.declared.state.FlatReplay.{FlatReplay}
use Rattle.records.specs.Cutting.{fed}
use Rattle.replay.specs.Feeding.{end_of}
use Rattle.replay_states.specs.States.{flat_report_of, report_of, waits, is_state, are_counts, judged}
use Rattle.draugsten_replay.specs.Feeding.{platform, standing_in, FlatFeeds, flat_start}
use Rattle.draugsten_replay.specs.declared.month.FlatCounting.{FlatCounting}
use Rattle.draugsten_replay.specs.declared.month.FlatCounted.{FlatCounted}
use Rattle.draugsten_replay.specs.Claims.WholeTrace.{begun}
use Rattle.draugsten_replay.specs.Cases.Month.{MonthReadings}
use Rattle.draugsten_replay.specs.Month.{is_counting, judged_counting, flat_counting_start, counting_in, CountingFeeds}
use Rattle.draugsten_replay.specs.Month.{added_by, month_added, merged_to, share_in}
use Rattle.draugsten_replay.specs.Claims.Sessions.{Session, report_for, figures_for, session_added, month_of, NoneRefused}

-- What a start gives is taken, over any two buffers with room.
abbrev pub CountingAccepted : Type 0
CountingAccepted = (held args : List ℕ) (edition : ℕ) → 4104 ≤ length held → 4100 ≤ length args → judged_counting held args (flat_counting_start edition) ≡ 0

-- ---- a trace that is counted

-- a burst, its answer, and the buffers and memory that it left
pub record CountedBurst : Type 0 where
  pub bytes : List ℕ
  pub answer : FlatCounted
  pub held : List ℕ
  pub args : List ℕ
  pub memory : List ℕ

-- Bursts one after the other, each over what the one before it left.
abbrev pub FedCounting : List ℕ → List ℕ → List ℕ → List ℕ → List ℕ → FlatCounting → List CountedBurst → Type 0
FedCounting journal inventory held args memory f [] = Unit {0}
FedCounting journal inventory held args memory f (b ∷ bs) =
    CountingFeeds journal inventory held args memory f b.bytes b.held b.args b.memory b.answer
    × FedCounting journal inventory b.held b.args b.memory b.answer.counting bs

abbrev pub trace_fed : List CountedBurst → List ℕ
trace_fed [] = []
trace_fed (b ∷ bs) = b.bytes ++ trace_fed bs

abbrev pub last_counting : FlatCounting → List CountedBurst → FlatCounting
last_counting f [] = f
last_counting f (b ∷ bs) = last_counting b.answer.counting bs

abbrev pub AllFed : List CountedBurst → Type 0
AllFed [] = Unit {0}
AllFed (b ∷ bs) = (b.answer.number ≡ 0) × AllFed bs

-- However a trace is cut into bursts, none is refused, and adding what they came to is adding the session: its report and the counts of its calls.
abbrev pub WholeSession : Type 0
WholeSession =
    (journal inventory held args memory : List ℕ) (edition : ℕ) (bs : List CountedBurst) → 4104 ≤ length held → 4100 ≤ length args
    → FedCounting journal inventory held args memory (flat_counting_start edition) bs
    → AllFed bs
    × ((t : Totals) → month_added t (last_counting (flat_counting_start edition) bs)
    ≡ session_added t (record { journal = journal; inventory = inventory; edition = edition; memory = memory; trace = trace_fed bs }))

-- a trace of one call of update-nodes without its inputs, cut inside its first record: it is counted among the -3
abbrev pub buffer : List ℕ → List ℕ
buffer status = 0 ∷ 0 ∷ 0 ∷ 1 ∷ 0 ∷ 0 ∷ 0 ∷ 0 ∷ 0 ∷ 0 ∷ 0 ∷ 1 ∷ status

abbrev pub asked : List ℕ
asked = buffer (9 ∷ 9 ∷ 9 ∷ 9 ∷ [])

abbrev pub answered : List ℕ
answered = buffer (255 ∷ 255 ∷ 255 ∷ 253 ∷ [])

abbrev pub counted_first : CountedBurst
counted_first =
    record {
      bytes = 18 ∷ 0 ∷ 32 ∷ [];
      answer = record { number = 0; counting = record { replay = begun 0 0 3; counts = no_counts } };
      held = 18 ∷ 0 ∷ 32 ∷ replicate 4101 9;
      args = replicate 4100 9;
      memory = [];
    }

abbrev pub counted_second : CountedBurst
counted_second =
    record {
      bytes = 0 ∷ (asked ++ (18 ∷ 0 ∷ 33 ∷ 0 ∷ answered));
      answer = record {
        number = 0;
        counting = record {
          replay = begun 2 1 0;
          counts = record { rows = 0 ∷ 0 ∷ 0 ∷ 1 ∷ replicate 24 0; operations = 0; used = 0 };
        };
      };
      held = 18 ∷ 0 ∷ 32 ∷ 0 ∷ (asked ++ replicate 4084 9);
      args = answered ++ replicate 4084 9;
      memory = [];
    }

-- so that what is claimed of a whole session is claimed of something
abbrev pub WholeSessionWitness : Type 0
WholeSessionWitness = FedCounting [] [] (replicate 4104 9) (replicate 4100 9) [] (flat_counting_start 7) (counted_first ∷ counted_second ∷ [])

-- ---- many traces

-- "Where none is refused, counts are the sums of the traces' counts"
unfoldable pub figure_sum : ℕ → List Session → ℕ
figure_sum i [] = 0
figure_sum i (s ∷ ss) = get_or (figures_for s).figures i 0 + figure_sum i ss

abbrev pub MonthSums : Type 0
MonthSums = (ss : List Session) (i : ℕ) → NoneRefused no_totals ss → get_or (month_of no_totals ss).figures i 0 ≡ figure_sum i ss

-- ".. in any order": where none is refused in one, none is in any, and the totals are the same.
abbrev pub MonthInAnyOrder : Type 0
MonthInAnyOrder =
    (t : Totals) (ss : List Session) (ks : List ℕ) → length t.figures ≡ 35 → NoneRefused t ss
    → NoneRefused t (reordered ks ss) × (month_of t (reordered ks ss) ≡ month_of t ss)

-- "in both the counts before that trace are kept whole"
abbrev pub RefusedKeeps : Type 0
RefusedKeeps = (t : Totals) (f : FlatCounting) → ((month_added t f).number ≡ 0 → ⊥) → (month_added t f).totals ≡ t

-- The totals of traces are consistent, so that they are merged with others where no sum would pass 2^64 - 1.
abbrev pub MonthConsistent : Type 0
MonthConsistent = (ss : List Session) → NoneRefused no_totals ss → consistent (month_of no_totals ss) ≡ true

-- "Refusals: a malformed or differing trace, then a count that would pass 2^64 - 1"
abbrev pub RefusalsInOrder : Type 0
RefusalsInOrder =
    (t : Totals) (s : Session) → length t.figures ≡ 35
    → let a = session_added t s in
    (a.report ≡ flat_report_of (report_for s))
    × ((is_over (report_for s) ≡ true → a.number ≡ 16)
    × ((is_over (report_for s) ≡ false → EachFits t (figures_for s) → a.number ≡ 0)
    × (is_over (report_for s) ≡ false → (EachFits t (figures_for s) → ⊥) → a.number ≡ 17)))

-- Consistent totals stay so, whatever state is handed in.
abbrev pub AddedConsistent : Type 0
AddedConsistent =
    (t : Totals) (f : FlatCounting) → length t.figures ≡ 35 → length f.counts.rows ≡ 28 → consistent t ≡ true
    → consistent (month_added t f).totals ≡ true

-- Totals of other traces: a refusal keeps the totals whole ..
abbrev pub MergeKeeps : Type 0
MergeKeeps = (t more : Totals) → ((merged_to t more).number ≡ 0 → ⊥) → (merged_to t more).totals ≡ t

-- .. and is 18 for figures that are not consistent, then 17 where a sum would pass 2^64 - 1.
abbrev pub MergeTaken : Type 0
MergeTaken =
    (t more : Totals) → length t.figures ≡ 35 → length more.figures ≡ 35
    → (consistent more ≡ false → (merged_to t more).number ≡ 18)
    × ((consistent more ≡ true → (EachFits t more → ⊥) → (merged_to t more).number ≡ 17)
    × (consistent more ≡ true → EachFits t more → ((merged_to t more).number ≡ 0) × ((merged_to t more).totals ≡ totals_after t more)))

-- Two machines: where no session of either would be refused after the other's, the totals of one merged into those of the other are the totals of all.
abbrev pub MergedMonths : Type 0
MergedMonths = (ss rs : List Session) → NoneRefused no_totals (ss ++ rs)
    → merged_to (month_of no_totals ss) (month_of no_totals rs) ≡ record { number = 0; totals = month_of no_totals (ss ++ rs) }

-- "the share comes from the sums"
abbrev pub ShareFromSums : Type 0
ShareFromSums =
    (ss : List Session) → NoneRefused no_totals ss
    → (0 < figure_sum 34 ss → Lowest (figure_sum 33 ss) (figure_sum 34 ss) (share_in (month_of no_totals ss)))
    × (figure_sum 34 ss ≡ 0 → share_in (month_of no_totals ss) ≡ record { part = 0; whole = 1 })

-- A session's report and figures are those of its own replay, and the month adds session after session.
pub record SessionsExactly : Type 0 where
  pub report : (s : Session) → report_for s ≡ (replay_of (platform s.journal s.inventory s.edition) s.memory s.trace).report
  pub figures : (s : Session) → figures_for s ≡ figures_of (counts_of (platform s.journal s.inventory s.edition) s.memory s.trace)
  pub added : (t : Totals) (s : Session) (calls : ℕ) → report_for s ≡ Agreed calls → (session_added t s).totals ≡ (totals_after t (figures_for s))
  pub not_taken : (t : Totals) (f : FlatCounting) → is_counting f ≡ false
      → month_added t f ≡ record { number = 14; report = record { verdict = 2; offset = 0; number = 0 }; totals = t }
  pub taken : (t : Totals) (f : FlatCounting) → is_counting f ≡ true
      → month_added t f ≡ added_by t (end_of (report_of f.replay.report) f.replay.records (waits f.replay) f.replay.held) (figures_of f.counts)
  pub adds : (t figures : Totals) (n k : ℕ)
      → (added_by t (Agreed n) figures ≡ record {
        number = cond (is_ok (added_to t figures)) 0 17;
        report = record { verdict = 0; offset = 0; number = n };
        totals = totals_after t figures;
      })
      × (added_by t (Differs n k) figures ≡ record { number = 16; report = record { verdict = 1; offset = k; number = n }; totals = t })
      × (added_by t (Malformed n) figures ≡ record { number = 16; report = record { verdict = 2; offset = 0; number = n }; totals = t })
  -- a feed goes on from the counts that it is given
  pub counted_from : (held args memory : List ℕ) (f : FlatCounting) → counting_in held args memory f
      ≡ record { state = record { state = (standing_in held args memory f.replay).state; counts = f.counts }; held = take f.replay.held held }
  pub none : (t : Totals) → month_of t [] ≡ t
  pub next : (t : Totals) (s : Session) (ss : List Session) → month_of t (s ∷ ss) ≡ month_of (session_added t s).totals ss
  -- a counting feed does to buffers, memory and replay what draugsten_replay_feed does; refused, it changes nothing
  pub feeds : (journal inventory held args memory bytes heldThen argsThen memoryThen : List ℕ) (f : FlatCounting) (r : FlatCounted)
      → CountingFeeds journal inventory held args memory f bytes heldThen argsThen memoryThen r
      → (r.number ≡ judged_counting held args f)
      × ((judged_counting held args f ≡ 0 → ⊥) → (r.counting ≡ f) × ((heldThen ≡ held) × ((argsThen ≡ args) × (memoryThen ≡ memory))))
      × (judged_counting held args f ≡ 0 → FlatFeeds journal inventory held args memory f.replay bytes heldThen argsThen memoryThen (record {
        number = 0;
        replay = r.counting.replay;
      }))
      × (judged_counting held args f ≡ 0 → r.counting.counts
      ≡ (fed (counter (platform journal inventory f.replay.edition)) (counting_in held args memory f) bytes).state.counts)
      × (judged_counting held args f ≡ 0 → judged_counting heldThen argsThen r.counting ≡ 0)
  pub judged_first : (held args : List ℕ) (f : FlatCounting) → (judged held args f.replay ≡ 0 → ⊥)
      → judged_counting held args f ≡ judged held args f.replay
  pub judged_then : (held args : List ℕ) (f : FlatCounting) → judged held args f.replay ≡ 0
      → judged_counting held args f ≡ cond (are_counts f.replay f.counts) 0 14
  -- a state with its counts is taken if each is; which counts, by the report, the records and whether a 32 waits
  pub both : (f : FlatCounting) → is_counting f ≡ (is_state f.replay && are_counts f.replay f.counts)
  pub counts_taken : (f : FlatReplay) (c : Counts) → are_counts f c ≡ counts_came (report_of f.report) f.records (waits_in f.waiting) c
  pub begins : (edition : ℕ) → (flat_counting_start edition).replay ≡ flat_start edition
  pub figured : (c : Counts) → (figures_of c).figures
      ≡ c.rows ++ (sum_of 7 (drop 0 c.rows) ∷ sum_of 7 (drop 7 c.rows) ∷ sum_of 7 (drop 14 c.rows) ∷ sum_of 7 (drop 21 c.rows) ∷ c.operations
      ∷ c.used ∷ 1019 * sum_of 2 c.rows ∷ [])
  -- a call of update-nodes: token 1, two inputs and one output, with its inputs and its status where they stand
  pub nodes : (b : List ℕ) → is_nodes b ≡ (eqb (be32 b 0) 1 && (eqb (be32 b 4) 2 && eqb (be32 b 8) 1))
  pub at : (b : List ℕ) (n : ℕ) → (input b n ≡ be32 b (12 + 4 * n)) × (status_at b ≡ 12 + 4 * be32 b 4)
  pub share : (t : Totals) → share_in t ≡ share_of (get_or t.figures 33 0) (get_or t.figures 34 0)

pub record MonthClaims : Type 0 where
  pub sessions : SessionsExactly
  pub counting_accepted : CountingAccepted
  pub whole_session : WholeSession
  pub whole_session_witness : WholeSessionWitness
  pub month_sums : MonthSums
  pub month_in_any_order : MonthInAnyOrder
  pub refused_keeps : RefusedKeeps
  pub month_consistent : MonthConsistent
  pub refusals_in_order : RefusalsInOrder
  pub added_consistent : AddedConsistent
  pub merge_keeps : MergeKeeps
  pub merge_taken : MergeTaken
  pub merged_months : MergedMonths
  pub share_from_sums : ShareFromSums
  pub month_readings : MonthReadings
  pub of_calls : CountClaims
  pub of_traces : TraceCountClaims
  pub of_totals : TotalsClaims
  pub of_merging : ConsistentClaims
  pub of_shares : ShareClaims
