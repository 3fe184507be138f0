-- The counts of a trace: those of the calls that its replay makes (document 02, M-111: "From any number of traces that replay without a difference (M-110)").
use Rattle.std.specs.Prelude.{ℕ, ◌+◌, Bool, cond, ◌&&◌, not, List, [], ◌∷◌, ◌++◌, leb}
use Rattle.records.specs.Records.{kind_of, records}
use Rattle.records.specs.Cutting.{Reader}
use Rattle.calls.specs.Buffer.{Left}
use Rattle.trace.specs.Trace.{is_after, good_frame, is_good}
use Rattle.trace.specs.Playing.{Platform, Waiting, none, call, State, begin, stopped, called, step}
use Rattle.counting.specs.declared.counts.Counts.{Counts}
use Rattle.counting.specs.Counts.{no_counts, counted}

-- ---- the calls that a replay makes

-- a good record that comes while nothing has stopped the replay, before the limit of records
unfoldable pub is_taken : State → List ℕ → Bool
is_taken s r = not (stopped s) && (leb (s.records + 1) 4_294_967_295 && is_good r)

-- a 33 makes the call of the 32 that waits; no other record makes one
abbrev pub made_by : Platform → State → Waiting → ℕ → List Left
made_by p s none kind = []
made_by p s (call args) kind = cond (is_after kind) (called p s args ∷ []) []

unfoldable pub made : Platform → State → List ℕ → List Left
made p s r = cond (is_taken s r) (made_by p s s.waiting (kind_of r)) []

-- records one after the other
unfoldable pub calls_made : Platform → State → List (List ℕ) → List Left
calls_made p s [] = []
calls_made p s (r ∷ rs) = made p s r ++ calls_made p (step p s r) rs

-- ---- their counts

unfoldable pub counted_all : Counts → List Left → Counts
counted_all c [] = c
counted_all c (x ∷ xs) = counted_all (counted c x.number x.args x.memory) xs

-- a whole trace
unfoldable pub counts_of : Platform → List ℕ → List ℕ → Counts
counts_of p m trace = counted_all no_counts (calls_made p (begin m) (records trace))

-- ---- the same as the trace comes in bursts

-- where a replay stands, and what was counted so far
pub record Counting : Type 0 where
  pub state : State
  pub counts : Counts

unfoldable pub count_step : Platform → Counting → List ℕ → Counting
count_step p x r = record { state = step p x.state r; counts = counted_all x.counts (made p x.state r) }

abbrev pub counter : Platform → Reader Counting
counter p = record { good = good_frame; step = count_step p; stopped = λ (x : Counting). stopped x.state }
