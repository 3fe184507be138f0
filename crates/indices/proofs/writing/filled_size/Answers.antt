-- `writing::filled_size` meets its contract.
use native.Mathlib.Omega.{arith}
use Rattle.inventory.proofs.Codes.{code_in_word}
use Rattle.indices.proofs.writing.filled_size.Goals as goal

pub overflow_mul-result : goal.overflow_mul-result
overflow_mul-result c =
    omega (arith, code_in_word)
