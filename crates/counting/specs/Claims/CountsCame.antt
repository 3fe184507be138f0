-- What is claimed of the definitions of `CountsCame`.
use Rattle.std.specs.Prelude.{ℕ, suc, ◌+◌, ◌*◌, ◌≤◌, ◌≡◌, true, List, [], ◌∷◌, get_or, set}
use Rattle.words.specs.Claims.Exactly.{Exactly}
use Rattle.records.specs.Cutting.{start, fed_all}
use Rattle.calls.specs.Buffer.{Left}
use Rattle.trace.specs.declared.report.Report.TheVariants.{Agreed, Differs, Malformed}
use Rattle.trace.specs.Playing.{Platform, begin, step}
use Rattle.counting.specs.declared.counts.Counts.{Counts}
use Rattle.counting.specs.declared.area.Tally.{Tally}
use Rattle.counting.specs.Counts.{no_counts, counted_in, counted}
use Rattle.counting.specs.Figures.{sum_of}
use Rattle.counting.specs.Cases.TraceCounts.{TraceCountReadings}
use Rattle.counting.specs.OfTrace.{made, counted_all, Counting, counter}
use Rattle.counting.specs.Claims.OfTrace.{EveryCallMade, CountsOfCalls}
use Rattle.counting.specs.Claims.Month.{sum_over, EachMonth, EachMade}
use Rattle.counting.specs.CountsCame.{counts_came, counting_came}

-- Whatever a start and bursts have counted keeps these rules.
abbrev pub AllCountsCame : Type 0
AllCountsCame = (p : Platform) (m : List ℕ) (bs : List (List ℕ))
    → counting_came (fed_all (counter p) (start (record { state = begin m; counts = no_counts })) bs).state ≡ true

-- Counts that are taken beside a replay, exactly: no more calls than it can have made, and words and operations that fit the answered calls.
pub record CountsExactly (records waits : ℕ) (c : Counts) : Type 0 where
  pub agreed : (n : ℕ) → Exactly (counts_came (Agreed n) records waits c ≡ true) ((sum_of 28 c.rows ≤ n)
      × ((c.operations ≤ c.used) × (c.used ≤ 1019 * sum_of 2 c.rows)))
  pub differs : (n at : ℕ) → Exactly (counts_came (Differs n at) records waits c ≡ true) ((sum_of 28 c.rows ≤ n)
      × ((c.operations ≤ c.used) × (c.used ≤ 1019 * sum_of 2 c.rows)))
  pub malformed : (n : ℕ)
      → Exactly (counts_came (Malformed n) records waits c ≡ true) ((sum_of 28 c.rows + sum_of 28 c.rows + waits ≤ records)
      × ((c.operations ≤ c.used) × (c.used ≤ 1019 * sum_of 2 c.rows)))

abbrev pub EachCounts : Type 0
EachCounts = (records waits : ℕ) (c : Counts) → CountsExactly records waits c

pub record TraceCountClaims : Type 0 where
  -- the sum of the first k counts
  pub sums : ((ns : List ℕ) → sum_of 0 ns ≡ 0) × ((k : ℕ) → sum_of (suc k) [] ≡ 0) × ((k n : ℕ) (ns : List ℕ) → sum_of (suc k) (n ∷ ns) ≡ n + sum_of k ns)
  pub each_counts : EachCounts
  pub sums_over : (f : Left → ℕ) → (sum_over f [] ≡ 0) × ((x : Left) (xs : List Left) → sum_over f (x ∷ xs) ≡ f x + sum_over f xs)
  -- a record counts the calls that it makes, whatever was counted before, each in its row
  pub goes_on : (p : Platform) (x : Counting) (r : List ℕ)
      → (counter p).step x r ≡ record { state = step p x.state r; counts = counted_all x.counts (made p x.state r) }
  pub none_made : (c : Counts) → counted_all c [] ≡ c
  pub one_made : (c : Counts) (x : Left) (xs : List Left) → counted_all c (x ∷ xs) ≡ counted_all (counted c x.number x.args x.memory) xs
  pub one_more : (c : Counts) (row : ℕ) (more : Tally)
      → counted_in c row more ≡ record {
        rows = set c.rows row (get_or c.rows row 0 + 1);
        operations = c.operations + more.operations;
        used = c.used + more.words;
      }
  pub every_call_made : EveryCallMade
  pub counts_of_calls : CountsOfCalls
  pub all_counts_came : AllCountsCame
  pub each_month : EachMonth
  pub each_made : EachMade
  pub trace_count_readings : TraceCountReadings
