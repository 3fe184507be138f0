-- A replay that counts, and totals over traces, at the C boundary (document 02, M-111).
use Rattle.std.specs.Prelude.{ℕ, ◌≡◌, Bool, cond, ◌&&◌, List, eqb, length, get_or, is_ok}
use Rattle.records.specs.Cutting.{Standing, fed}
use Rattle.trace.specs.declared.report.Report.{Report}
use Rattle.trace.specs.declared.report.Report.TheVariants.{Agreed, Differs, Malformed}
use Rattle.counting.specs.declared.counts.Counts.{Counts}
use Rattle.counting.specs.Counts.{no_counts}
use Rattle.counting.specs.Figures.{figures_of}
use Rattle.counting.specs.OfTrace.{Counting, counter}
use Rattle.totals.specs.declared.adding.Totals.{Totals}
use Rattle.totals.specs.Adding.{added_to, totals_after}
use Rattle.totals.specs.Consistent.{consistent}
use Rattle.shares.specs.declared.share.Share.{Share}
use Rattle.shares.specs.Share.{share_of}
use Rattle.replay.specs.Feeding.{counting_of, end_of}
use Rattle.replay_states.specs.declared.state.FlatReport.{FlatReport}
use Rattle.replay_states.specs.declared.state.FlatReplay.{FlatReplay}
use Rattle.replay_states.specs.States.{flat_report, report_of, waits, replay_with, is_state, are_counts, judged_by}
use Rattle.draugsten_replay.specs.declared.month.FlatCounting.{FlatCounting}
use Rattle.draugsten_replay.specs.declared.month.FlatCounted.{FlatCounted}
use Rattle.draugsten_replay.specs.declared.month.FlatAdded.{FlatAdded}
use Rattle.draugsten_replay.specs.declared.month.FlatMerged.{FlatMerged}
use Rattle.draugsten_replay.specs.Feeding.{platform, FlatFeeds, flat_start}

-- ---- a replay that counts

unfoldable pub is_counting_by : FlatReplay → Counts → Bool
is_counting_by f c = is_state f && are_counts f c

abbrev pub is_counting : FlatCounting → Bool
is_counting f = is_counting_by f.replay f.counts

-- The number that a burst is refused with, or 0: 15 and 14 as for a replay alone, then 14 for counts that break a rule of `counts_came`.
unfoldable pub judged_counting_by : List ℕ → ℕ → FlatReplay → Counts → ℕ
judged_counting_by held room f c = let alone = judged_by held room f in cond (eqb alone 0) (cond (are_counts f c) 0 14) alone

abbrev pub judged_counting : List ℕ → List ℕ → FlatCounting → ℕ
judged_counting held args f = judged_counting_by held (length args) f.replay f.counts

-- "starting with no registration and no reading in progress", with nothing counted
abbrev pub flat_counting_start : ℕ → FlatCounting
flat_counting_start edition = record { replay = flat_start edition; counts = no_counts }

-- where the replay of the definition stands, with its counts
abbrev pub counting_in : List ℕ → List ℕ → List ℕ → FlatCounting → Standing Counting
counting_in held args memory f = counting_of held args memory (replay_with f.replay f.counts)

-- A refused burst changes nothing. One that is taken is fed as to a replay alone, with its calls counted as the definition says, and leaves what is
-- taken again.
pub record CountingFeeds (journal inventory held args memory : List ℕ) (f : FlatCounting)
    (bytes heldThen argsThen memoryThen : List ℕ) (r : FlatCounted) : Type 0 where
  pub number : r.number ≡ judged_counting held args f
  pub refused : (judged_counting held args f ≡ 0 → ⊥) → (r.counting ≡ f) × ((heldThen ≡ held) × ((argsThen ≡ args) × (memoryThen ≡ memory)))
  pub replays : judged_counting held args f ≡ 0
      → FlatFeeds journal inventory held args memory f.replay bytes heldThen argsThen memoryThen (record { number = 0; replay = r.counting.replay })
  pub counts : judged_counting held args f ≡ 0
      → r.counting.counts ≡ (fed (counter (platform journal inventory f.replay.edition)) (counting_in held args memory f) bytes).state.counts
  pub again : judged_counting held args f ≡ 0 → judged_counting heldThen argsThen r.counting ≡ 0

-- ---- totals

-- The counts of a trace with this report, added to totals. "a count that would pass 2^64 - 1": 17; "the counts before that trace are kept whole"
unfoldable pub counts_added : Totals → Totals → FlatReport → FlatAdded
counts_added t figures report = record { number = cond (is_ok (added_to t figures)) 0 17; report = report; totals = totals_after t figures }

-- "Refusals: a malformed or differing trace, then a count that would pass 2^64 - 1": 16 with the report, before 17
abbrev pub added_by : Totals → Report → Totals → FlatAdded
added_by t (Agreed calls) figures = counts_added t figures (flat_report 0 0 calls)
added_by t (Differs call offset) figures = record { number = 16; report = flat_report 1 offset call; totals = t }
added_by t (Malformed number) figures = record { number = 16; report = flat_report 2 0 number; totals = t }

-- A trace that ends here. 14 for a state that no start or feed gives, or counts that break a rule of `counts_came`, with a report that no trace has.
unfoldable pub month_added : Totals → FlatCounting → FlatAdded
month_added t f =
    cond (is_counting f)
    (added_by t (end_of (report_of f.replay.report) f.replay.records (waits f.replay) f.replay.held) (figures_of f.counts))
    (record { number = 14; report = flat_report 2 0 0; totals = t })

-- Totals of other traces. 18 for figures that are not consistent; the totals that they are added to are not looked at.
unfoldable pub merged_to : Totals → Totals → FlatMerged
merged_to t more =
    cond (consistent more)
    (record { number = cond (is_ok (added_to t more)) 0 17; totals = totals_after t more })
    (record { number = 18; totals = t })

-- "the share used": words used over words available, from the sums
abbrev pub share_in : Totals → Share
share_in t = share_of (get_or t.figures 33 0) (get_or t.figures 34 0)
