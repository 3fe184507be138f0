-- `input_buffer` meets its contract.
use mathlib.Core.Path.{sym}
use Prim.Native.Nat.{ℕ}
use lib.ListN.{length-replicate}
use Rattle.print_indices.proofs.input_buffer.Goals as goal

pub returns : goal.returns
returns c =
    sym (length-replicate {A = ℕ} 1_048_581 0)
