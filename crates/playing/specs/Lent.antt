-- The lent buffer of argument bytes, byte for byte: a 32 that waits stands at its front, and after its call what our call made of it (document 02, M-110).
use Rattle.std.specs.Prelude.{ℕ, ◌+◌, cond, ◌&&◌, not, List, leb}
use Rattle.std.proofs.lemmas.List.Edits.{sets}
use Rattle.records.specs.Records.{kind_of}
use Rattle.records.specs.Cutting.{Reader}
use Rattle.trace.specs.Trace.{is_before, is_after, body_of, good_frame, is_good}
use Rattle.trace.specs.Playing.{Platform, Waiting, none, call, State, stopped, called, step}

-- where a replay stands, and what the lent buffer holds
pub record Lent : Type 0 where
  pub state : State
  pub args : List ℕ

-- a good record, by what waits and its kind
abbrev pub stored_by : Platform → State → Waiting → List ℕ → ℕ → List ℕ → List ℕ
stored_by p s none args kind body = cond (is_before kind) (sets args 0 body) args
stored_by p s (call before) args kind body = cond (is_after kind) (sets args 0 (called p s before).args) args

unfoldable pub lent_step : Platform → Lent → List ℕ → Lent
lent_step p x r =
    let s = x.state in
    record {
      state = step p s r;
      args = cond (not (stopped s) && (leb (s.records + 1) 4_294_967_295 && is_good r)) (stored_by p s s.waiting x.args (kind_of r) (body_of r)) x.args;
    }

-- the reader of a trace with the buffer that it was lent
abbrev pub lender : Platform → Reader Lent
lender p = record { good = good_frame; step = lent_step p; stopped = λ (x : Lent). stopped x.state }
