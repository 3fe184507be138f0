-- Reading a node work area (document 01, "Readers").
use Rattle.std.specs.Prelude.{ℕ, zero, suc, ◌+◌, ◌-◌, ◌/◌, ◌%◌, cond, ◌&&◌, not, List, [], ◌∷◌, leb, ltb, eqb, length, drop, Result, Ok, Err}
use Rattle.words.specs.Reading.{Reading, read, refused}
use Rattle.words.specs.Numbers.{words}
use Rattle.journal.specs.declared.operation.Operation.{Operation}
use Rattle.journal.specs.declared.operation.Operation.TheVariants.{Delete, Update, Add}
use Rattle.node_area.specs.Head.{area_size, head_size, reserved_from, is_reserved}
use Rattle.node_area.specs.declared.reading.Refusal.{Refusal}
use Rattle.node_area.specs.declared.reading.Refusal.TheVariants.{Size, Reserved, Opcode, Past, Odd, Order, Unterminated}
use Rattle.words.specs.declared.refused.Refused.{Refused}

-- 01: "20 not 4,096 bytes", "21 bytes 4 to 15 not zero", "22 opcode not 1 to 3; .. 25 odd count for opcode 3;
-- 26 opcode lower than an earlier one; 24 operands past the end", "27 the area ends without a terminator"; 02: "23 is withdrawn"
abbrev pub refusal_number : Refusal → ℕ
refusal_number Size = 20
refusal_number Reserved = 21
refusal_number Opcode = 22
refusal_number Past = 24
refusal_number Odd = 25
refusal_number Order = 26
refusal_number Unterminated = 27

-- An operator's opcode and its count of operand words.
abbrev pub opcode_in : ℕ → ℕ
opcode_in word = word / 0x0100_0000

abbrev pub count_in : ℕ → ℕ
count_in word = word % 0x0100_0000

-- The first fault of an operator, in the papers' order; `last` is the opcode of the last operator before it that has operands, `left` the words behind it.
-- 02, M-101: "A non-zero word whose low three bytes are zero is passed over whatever its opcode", "the empty count is looked at before 22."
unfoldable pub fault_of : ℕ → ℕ → ℕ → Result (Unit {0}) Refusal
fault_of word last left =
    cond (eqb (count_in word) 0) (Ok tt)
    (cond (not (leb 1 (opcode_in word) && leb (opcode_in word) 3)) (Err Opcode)
    (cond (eqb (opcode_in word) 3 && eqb (count_in word % 2) 1) (Err Odd)
    (cond (ltb (opcode_in word) last) (Err Order)
    (cond (ltb left (count_in word)) (Err Past)
    (Ok tt)))))

-- 02, M-101: ".. and takes no part in the order test." The opcode before the operator that follows this one.
unfoldable pub last_after : ℕ → ℕ → ℕ
last_after last word = cond (eqb (count_in word) 0) last (opcode_in word)

-- What the operators at words `ws` are judged: nothing wrong, or the first refusal.
pub data Verdict : Type 0 where
  good : Verdict
  bad : Refusal → ℕ → Verdict

abbrev pub judged_by : Result (Unit {0}) Refusal → ℕ → Verdict → Verdict
judged_by (Ok _) at more = more
judged_by (Err r) at more = bad r at

-- 01: "Then operators from byte 16: word zero ends the list; .. each at the operator's offset, in this order. 27 the area ends without a terminator
-- (offset 4096)."
-- The words from byte offset `at` on; the first k are operands of an operator that was judged.
unfoldable pub verdict : ℕ → ℕ → ℕ → List ℕ → Verdict
verdict zero at last [] = bad Unterminated area_size
verdict zero at last (w ∷ ws) =
    let more = verdict (count_in w) (at + 4) (last_after last w) ws in
    let judged = judged_by (fault_of w last (length ws)) at more in
    cond (eqb w 0) good judged
verdict (suc k) at last [] = bad Unterminated area_size
verdict (suc k) at last (w ∷ ws) = verdict k (at + 4) last ws

-- The operation of one operand word.
abbrev pub single : ℕ → ℕ → Operation
single code w = cond (eqb code 1) (Delete w) (Update w)

-- The operations at words: n operand words of an opcode, then operators up to a zero word.
unfoldable pub operations_at : List ℕ → ℕ → ℕ → List Operation
operations_at [] code n = []
operations_at (w ∷ ws) code zero =
    let more = operations_at ws (opcode_in w) (count_in w) in
    cond (eqb w 0) [] more
operations_at (w ∷ []) code (suc n) = cond (eqb code 3) [] (single code w ∷ [])
operations_at (w ∷ v ∷ ws) code (suc n) =
    let addition = Add w v ∷ operations_at ws code (n - 1) in
    let other = single code w ∷ operations_at (v ∷ ws) code n in
    cond (eqb code 3) addition other

abbrev pub read_by : Verdict → List Operation → Reading Operation Refusal
read_by good os = read os
read_by (bad r at) os = refused r at

-- 01: "Node areas: 20 not 4,096 bytes (offset 0); 21 bytes 4 to 15 not zero (offset 4)."
-- 02, M-100: "in scope 3 only bytes 12 to 15 are tested for zero, by writer and reader (21 at offset 12); the reader is told the scope"
unfoldable pub reading : ℕ → List ℕ → Reading Operation Refusal
reading scope area =
    let ws = drop 4 (words area) in
    let found = read_by (verdict 0 head_size 0 ws) (operations_at ws 0 0) in
    cond (not (eqb (length area) area_size)) (refused Size 0)
    (cond (not (is_reserved scope area)) (refused Reserved (reserved_from scope))
    found)

-- What a check of an area tells of its reading: the number of its operations, or the refusal.
abbrev pub check_of : Reading Operation Refusal → Result ℕ (Refused Refusal)
check_of (read os) = Ok (length os)
check_of (refused r at) = Err (record { refusal = r; offset = at })
