-- What is claimed of the definitions of `OfTrace`.
use Rattle.std.specs.Prelude.{ℕ, ◌≡◌, List, length}
use Rattle.records.specs.Records.{records}
use Rattle.records.specs.Cutting.{start, fed}
use Rattle.trace.specs.declared.report.Report.TheVariants.{Agreed}
use Rattle.trace.specs.Playing.{Platform, begin, replay_of}
use Rattle.counting.specs.Counts.{no_counts}
use Rattle.counting.specs.OfTrace.{calls_made, counts_of, counter}

-- Every call that a trace agrees on is among them.
abbrev pub EveryCallMade : Type 0
EveryCallMade = (p : Platform) (m trace : List ℕ) (calls : ℕ) → (replay_of p m trace).report ≡ Agreed calls
    → length (calls_made p (begin m) (records trace)) ≡ calls

-- However a trace was cut into bursts, what was counted is what its calls count.
abbrev pub CountsOfCalls : Type 0
CountsOfCalls = (p : Platform) (m trace : List ℕ) → (fed (counter p) (start (record { state = begin m; counts = no_counts })) trace).state.counts
    ≡ counts_of p m trace
