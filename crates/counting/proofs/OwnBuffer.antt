-- A call's own buffer keeps its number: a call stores only its outputs, which stand behind the inputs.
use mathlib.Core.Path.{◌≡◌, sym}
use mathlib.Core.Logic.{inl}
use Prim.Native.Nat.{ℕ, ◌+◌, ◌≤◌}
use native.Mathlib.Omega.{arith}
use Rattle.words.specs.Numbers.{be32}
use Rattle.words.proofs.Numbers.{be_same}
use Rattle.calls.specs.Buffer.{status_at, number_for, Found, call_of}
use Rattle.calls.proofs.Heads.{number_is}
use Rattle.calls.proofs.Confined.{demand1}

module _ (f : Found) where
  -- token, counts and inputs
  pub word_kept : (at : ℕ) → at + 4 ≤ status_at f.args → be32 (call_of f).args at ≡ be32 f.args at
  word_kept at h = be_same (call_of f).args f.args 4 at at (λ n l. (demand1 f).outside_outputs (at + n) (inl (omega arith)))

  pub own_number : number_for (call_of f).args ≡ (call_of f).number
  unfolding number_for
  own_number = rw ((demand1 f).args_length, word_kept 4 (omega arith), word_kept 8 (omega arith)) (sym (number_is f))
