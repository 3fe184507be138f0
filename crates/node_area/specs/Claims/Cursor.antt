-- Reading the operations of a node work area one at a time.
use Rattle.std.specs.Prelude.{◌≡◌, cond, List, [], ◌∷◌, ℕ, zero, suc, ◌+◌, ◌-◌, eqb, drop, Option, Some, None}
use Rattle.words.specs.Numbers.{words}
use Rattle.journal.specs.declared.operation.Operation.{Operation}
use Rattle.journal.specs.declared.operation.Operation.TheVariants.{Add}
use Rattle.node_area.specs.declared.reading.Cursor.{Cursor}
use Rattle.words.specs.Reading.{read}
use Rattle.node_area.specs.Reading.{opcode_in, count_in, single, operations_at, reading}
use Rattle.node_area.specs.Head.{head_size}

-- the operations that a cursor has before it
unfoldable pub remaining : List ℕ → Cursor → List Operation
remaining area c = operations_at (words (drop c.at area)) c.code c.left

-- a step gives the first of a list, with a cursor that has the rest before it, or none where the list is empty
abbrev pub Gives : List ℕ → List Operation → Option (Operation × Cursor) → Type 0
Gives area os None = os ≡ []
Gives area os (Some (o, c)) = os ≡ o ∷ remaining area c

-- The step at words of which the first stands at byte `at`: n operand words of an opcode are to come, or an operator where n is 0.
unfoldable pub step_at : List ℕ → ℕ → ℕ → ℕ → Option (Operation × Cursor)
step_at [] at code n = None
step_at (w ∷ ws) at code zero =
    let more = step_at ws (at + 4) (opcode_in w) (count_in w) in
    cond (eqb w 0) None more
step_at (w ∷ []) at code (suc n) = cond (eqb code 3) None (Some (single code w, record { at = at + 4; code = code; left = n }))
step_at (w ∷ v ∷ ws) at code (suc n) =
    let addition = Some (Add w v, record { at = at + 8; code = code; left = n - 1 }) in
    let other = Some (single code w, record { at = at + 4; code = code; left = n }) in
    cond (eqb code 3) addition other

-- The step of a cursor: its next operation with the cursor behind it, or none.
unfoldable pub next_of : List ℕ → Cursor → Option (Operation × Cursor)
next_of area c = step_at (words (drop c.at area)) c.at c.code c.left

abbrev pub StepsGive : Type 0
StepsGive = (area : List ℕ) (c : Cursor) → Gives area (remaining area c) (next_of area c)

abbrev pub start_of : Cursor
start_of = record { at = head_size; code = 0; left = 0 }

-- From the start a cursor has the operations of the area's reading before it, in order.
abbrev pub EntriesInOrder : Type 0
EntriesInOrder = (scope : ℕ) (area : List ℕ) (os : List Operation) → reading scope area ≡ read os → remaining area start_of ≡ os
