-- Terms of contracts inside the crate.
use Rattle.std.specs.Prelude.{ℕ, List, [], ◌∷◌, ◌++◌}
use Rattle.journal.specs.declared.operation.Operation.{Operation}
use Rattle.journal.specs.Journal.{operands}

-- the operand words of operations, in order
unfoldable pub words_of : List Operation → List ℕ
words_of [] = []
words_of (o ∷ os) = operands o ++ words_of os
