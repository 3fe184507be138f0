-- Claims about node areas, cited by the contract of `write_answer`.
use Rattle.std.specs.Prelude.{ℕ, zero, suc, ◌+◌, ◌*◌, ◌≤◌, ◌<◌, ◌≡◌, true, cond, ◌||◌, List, [], ◌∷◌, ◌++◌, ltb, eqb, length, drop}
use Rattle.journal.specs.Scope.{units_of, Selection}
use Rattle.words.specs.Numbers.{Bytes, Small, words, word_bytes}
use Rattle.journal.specs.declared.operation.Operation.{Operation}
use Rattle.journal.specs.declared.operation.Operation.TheVariants.{Delete, Update, Add}
use Rattle.journal.specs.Journal.{opcode, operands, well_formed}
use Rattle.journal.specs.Reportable.{reportable, operand_words}
use Rattle.journal.specs.declared.scope.Units.{Units}
use Rattle.node_area.specs.Head.{area_size, head_words}
use Rattle.node_area.specs.State.{is_within}
use Rattle.nodes.specs.Run.{present, cost, filled_words, run, remains, next_state}
use Rattle.nodes.specs.Claims.Longest.{LongestRun}
use Rattle.nodes.specs.Area.{operands_of, answer, written}
use Rattle.words.specs.Reading.{read}
use Rattle.node_area.specs.Reading.{count_in, reading}

-- the opcodes do not fall, from `least` on
abbrev pub Sorted : ℕ → List Operation → Type 0
Sorted least [] = Unit {0}
Sorted least (o ∷ os) = (least ≤ opcode o) × Sorted (opcode o) os

abbrev pub SmallOperands : List Operation → Type 0
SmallOperands [] = Unit {0}
SmallOperands (o ∷ os) = Small (operands o) × SmallOperands os

-- a list that areas can hold: opcodes in order, operands and states that fit their words
pub record Listed (os : List Operation) : Type 0 where
  pub sorted : Sorted 0 os
  pub small : SmallOperands os
  pub few : length os < 0x1_0000_0000

-- 01: "A run costs one operator word for each opcode present, one word for each delete or update, two for each addition.": opcode by opcode
pub record CostExactly : Type 0 where
  pub sum : (os : List Operation) → cost os ≡ present 1 os + present 2 os + present 3 os + operand_words os
  pub absent : (code : ℕ) → present code [] ≡ 0
  pub here : (o : Operation) (os : List Operation) → present (opcode o) (o ∷ os) ≡ 1
  pub other : (code : ℕ) (o : Operation) (os : List Operation) → (opcode o ≡ code → ⊥) → present code (o ∷ os) ≡ present code os
  pub no_words : operand_words [] ≡ 0
  pub delete : (p : ℕ) (os : List Operation) → (opcode (Delete p) ≡ 1) × (operand_words (Delete p ∷ os) ≡ 1 + operand_words os)
  pub update : (p : ℕ) (os : List Operation) → (opcode (Update p) ≡ 2) × (operand_words (Update p ∷ os) ≡ 1 + operand_words os)
  pub add : (p d : ℕ) (os : List Operation) → (opcode (Add p d) ≡ 3) × (operand_words (Add p d ∷ os) ≡ 2 + operand_words os)

-- 01: "one operator and its operands for each opcode present, then 0x00000000": the words of deletes, then updates, then additions
abbrev pub part_of : ℕ → List ℕ → List ℕ
part_of code [] = []
part_of code (w ∷ ws) = (code * 0x0100_0000 + length (w ∷ ws)) ∷ w ∷ ws

abbrev pub OperatorsExactly : Type 0
OperatorsExactly = (units : Units) (os : List Operation) (state : ℕ)
    → let handed = run os state in
    answer units os state ≡ head_words units (next_state os state)
    ++ ((part_of 1 (operands_of 1 handed) ++ (part_of 2 (operands_of 2 handed) ++ part_of 3 (operands_of 3 handed))) ++ (0 ∷ []))

-- 01: "new state (0 when nothing remains)", "Status 1 when operations remain, otherwise 0."
abbrev pub NextExactly : Type 0
NextExactly = (os : List Operation) (state : ℕ)
    → (remains os state ≡ ltb (state + length (run os state)) (length os))
    × (next_state os state ≡ cond (ltb (state + length (run os state)) (length os)) (state + length (run os state)) 0)

-- 01: "Bytes after the terminator stay unchanged."
abbrev pub WrittenExactly : Type 0
WrittenExactly = (units : Units) (area : List ℕ) (os : List Operation) (state : ℕ)
    → written units area os state ≡ word_bytes (answer units os state) ++ drop (length (word_bytes (answer units os state))) area

-- 01: "The state is 0, or above 0 and below the length of the reportable list."
abbrev pub WithinExactly : Type 0
WithinExactly = (state all : ℕ) → is_within state all ≡ (eqb state 0 || ltb state all)

-- Every reportable list is one.
abbrev pub ReportableListed : Type 0
ReportableListed = (selection : Selection) (j : List ℕ) → Bytes j → well_formed j ≡ true → Listed (reportable selection j)

-- Reading what was written gives back the run, so it is never refused.
abbrev pub RoundTrip : Type 0
RoundTrip =
    (scope unit : ℕ) (area : List ℕ) (os : List Operation) (state : ℕ) → unit < 0x1_0000_0000_0000_0000
    → length area ≡ area_size → Listed os → state ≤ length os
    → reading scope (written (units_of scope unit) area os state) ≡ read (run os state)

-- 02, M-101, operators with no operands "perform no operation": what is written holds none.
-- The operators at words of which the first k are operands, up to a zero word; and that each has operands.
unfoldable pub operators_at : ℕ → List ℕ → List ℕ
operators_at k [] = []
operators_at (suc k) (w ∷ ws) = operators_at k ws
operators_at zero (w ∷ ws) =
    let more = operators_at (count_in w) ws in
    cond (eqb w 0) [] (w ∷ more)

abbrev pub Filled : List ℕ → Type 0
Filled [] = Unit {0}
Filled (w ∷ ws) = (0 < count_in w) × Filled ws

abbrev pub NoneEmpty : Type 0
NoneEmpty =
    (scope unit : ℕ) (area : List ℕ) (os : List Operation) (state : ℕ) → unit < 0x1_0000_0000_0000_0000
    → length area ≡ area_size → Listed os → state ≤ length os
    → Filled (operators_at 0 (drop 4 (words (written (units_of scope unit) area os state))))

-- The run is never empty while operations remain.
abbrev pub NeverEmpty : Type 0
NeverEmpty = (os : List Operation) (state : ℕ) → state < length os → 0 < length (run os state)

-- An area that does not finish the list hands out at least 1,015 operand words.
abbrev pub WellFilled : Type 0
WellFilled = (os : List Operation) (state : ℕ) → state ≤ length os → remains os state ≡ true → filled_words ≤ operand_words (run os state)

-- all of them
pub record AreaClaims : Type 0 where
  pub cost_exactly : CostExactly
  pub operators : OperatorsExactly
  pub states : NextExactly
  pub whole_area_claim : WrittenExactly
  pub within : WithinExactly
  pub reportable_listed : ReportableListed
  pub round_trip : RoundTrip
  pub none_empty : NoneEmpty
  pub longest_run : LongestRun
  pub never_empty : NeverEmpty
  pub well_filled : WellFilled
