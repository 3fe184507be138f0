-- What holds of the counts of every replay that begins with none, by where it stands (document 02, M-111). At the C boundary counts that break one
-- of these rules are refused.
use Rattle.std.specs.Prelude.{ℕ, ◌+◌, ◌*◌, Bool, ◌&&◌, leb}
use Rattle.trace.specs.declared.report.Report.{Report}
use Rattle.trace.specs.declared.report.Report.TheVariants.{Agreed, Differs, Malformed}
use Rattle.trace.specs.Came.{waiting_number, waits_in}
use Rattle.counting.specs.declared.counts.Counts.{Counts}
use Rattle.counting.specs.Figures.{sum_of}
use Rattle.counting.specs.OfTrace.{Counting}

-- so many calls can have been made: a call is two records, and a 32 that waits is one
abbrev pub made_came : Report → ℕ → ℕ → ℕ → Bool
made_came (Agreed calls) records waits n = leb n calls
made_came (Differs number at) records waits n = leb n number
made_came (Malformed number) records waits n = leb (n + n + waits) records

-- No call is counted that was not made; an operation takes a word or more; "words available (1,019 for each answered call)".
unfoldable pub counts_came : Report → ℕ → ℕ → Counts → Bool
counts_came report records waits c =
    made_came report records waits (sum_of 28 c.rows)
    && (leb c.operations c.used && leb c.used (1019 * sum_of 2 c.rows))

abbrev pub counting_came : Counting → Bool
counting_came x = counts_came x.state.report x.state.records (waits_in (waiting_number x.state.waiting)) x.counts
