-- The run of operations that a call hands out (document 01, "update-nodes").
use Rattle.std.specs.Prelude.{ℕ, zero, suc, ◌+◌, ◌-◌, ◌/◌, min, Bool, cond, List, [], ◌∷◌, leb, ltb, eqb, length, take, drop}
use Rattle.journal.specs.declared.operation.Operation.{Operation}
use Rattle.journal.specs.declared.counts.Counts.{Counts}
use Rattle.journal.specs.Journal.{opcode}
use Rattle.journal.specs.Reportable.{operand_words}

-- 01: "A run costs one operator word for each opcode present, one word for each delete or update, two for each addition."
unfoldable pub present : ℕ → List Operation → ℕ
present code [] = 0
present code (o ∷ os) =
    let rest = present code os in
    cond (eqb (opcode o) code) 1 rest

unfoldable pub cost : List Operation → ℕ
cost os = present 1 os + present 2 os + present 3 os + operand_words os

-- 01: "that fits 1,019 words"
abbrev pub area_words : ℕ
area_words = 1019

-- The operand words that a run has at least where operations remain: the next one does not fit beside three operators.
abbrev pub filled_words : ℕ
filled_words = 1015

-- The length of the longest run at the head of a list, of no more than n operations, that fits.
unfoldable pub longest : ℕ → List Operation → ℕ
longest zero os = 0
longest (suc n) os =
    let shorter = longest n os in
    cond (leb (cost (take (suc n) os)) area_words) (suc n) shorter

-- 01: "The call hands out the longest run of operations, from the state on, that fits 1,019 words."
unfoldable pub run : List Operation → ℕ → List Operation
run os state = take (longest (length (drop state os)) (drop state os)) (drop state os)

-- 01: "Status 1 when operations remain, otherwise 0.", "new state (0 when nothing remains)"
unfoldable pub remains : List Operation → ℕ → Bool
remains os state = ltb (state + length (run os state)) (length os)

unfoldable pub next_state : List Operation → ℕ → ℕ
next_state os state = cond (remains os state) (state + length (run os state)) 0

-- ---- the same run by arithmetic, from how many deletes, updates and additions remain

-- the words of one opcode's n operands with their operator, which stands only before operands
unfoldable pub operator : ℕ → ℕ
operator zero = 0
operator (suc n) = 1

abbrev pub part_words : ℕ → ℕ
part_words n = operator n + n

-- how many operations of one operand word, or of two, fit into so many words with their operator
abbrev pub ones_in : ℕ → ℕ → ℕ
ones_in room remaining = min remaining (room - 1)

abbrev pub twos_in : ℕ → ℕ → ℕ
twos_in room remaining = min remaining ((room - 1) / 2)

unfoldable pub cut : Counts → Counts
cut remaining =
    let deletes = ones_in area_words remaining.deletes in
    let room₂ = area_words - part_words deletes in
    let updates = ones_in room₂ remaining.updates in
    let room₃ = room₂ - part_words updates in
    record { deletes = deletes; updates = updates; additions = twos_in room₃ remaining.additions }
