-- The node work area that an answer leaves (document 01, "update-nodes"), as words and as bytes.
use Rattle.std.specs.Prelude.{ℕ, ◌+◌, ◌*◌, cond, List, [], ◌∷◌, ◌++◌, eqb, length, drop}
use Rattle.words.specs.Numbers.{word_bytes}
use Rattle.journal.specs.declared.operation.Operation.{Operation}
use Rattle.journal.specs.declared.scope.Units.{Units}
use Rattle.journal.specs.Journal.{opcode, operands}
use Rattle.node_area.specs.Head.{head_words}
use Rattle.nodes.specs.Run.{run, next_state}

-- the operand words of the operations of an opcode, in order
unfoldable pub operands_of : ℕ → List Operation → List ℕ
operands_of code [] = []
operands_of code (o ∷ os) = cond (eqb (opcode o) code) (operands o) [] ++ operands_of code os

-- 01: "An operator is the opcode in the high byte and the number of operand words in the low three bytes; an addition counts two."
-- One opcode's part: nothing where it is not present.
abbrev pub part : ℕ → List ℕ → List ℕ
part code [] = []
part code (w ∷ ws) = (code * 0x0100_0000 + length (w ∷ ws)) ∷ w ∷ ws

-- 01: "one operator and its operands for each opcode present"
unfoldable pub body : List Operation → List ℕ
body os = part 1 (operands_of 1 os) ++ (part 2 (operands_of 2 os) ++ part 3 (operands_of 3 os))

-- 01: "The answer: new state (0 when nothing remains), twelve zero bytes, one operator and its operands for each opcode present, then 0x00000000."
-- 02, M-100: for one unit its address stands in the first eight of the twelve bytes.
unfoldable pub answer : Units → List Operation → ℕ → List ℕ
answer units os state = head_words units (next_state os state) ++ (body (run os state) ++ (0 ∷ []))

-- 01: "Bytes after the terminator stay unchanged."
unfoldable pub written : Units → List ℕ → List Operation → ℕ → List ℕ
written units area os state = word_bytes (answer units os state) ++ drop (length (word_bytes (answer units os state))) area
