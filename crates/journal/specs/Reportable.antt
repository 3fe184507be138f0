-- The reportable list of a journal (document 01, "What each scope reports"), and what a scan tells of it.
use Rattle.std.specs.Prelude.{ℕ, ◌+◌, Bool, true, cond, ◌&&◌, ◌||◌, Option, Some, None, List, [], ◌∷◌, ◌++◌, leb, eqb, length, get_or}
use Rattle.records.specs.Choosing.{chosen_by}
use Rattle.journal.specs.declared.operation.Operation.{Operation}
use Rattle.journal.specs.declared.scope.Units.{Units}
use Rattle.journal.specs.declared.scope.Units.TheVariants.{All, One}
use Rattle.journal.specs.declared.counts.Counts.{Counts}
use Rattle.journal.specs.Journal.{Entry, opcode, operands, entries, well_formed}
use Rattle.journal.specs.Scope.{holds, Selection}

abbrev pub operation : Entry → Operation
operation e = e.operation

-- 02, M-100: ".. and reports only that unit's records". Types 1 to 14 have no unit; a row that reports them reports them whatever unit is asked for.
abbrev pub asks : Units → Entry → Bool
asks All e = true
asks (One unit) e = leb e.node 14 || eqb e.unit unit

-- a selection reports an entry under an opcode; 02, M-103: "Node updates pass over kinds 5 and 6", which have no node type
unfoldable pub reports : Selection → ℕ → Entry → Bool
reports selection code e = leb 1 e.node && ((eqb (opcode e.operation) code && holds (get_or selection.sets e.node 0) code)
    && asks selection.units e)

-- 01: "Records that the scope doesn't report are passed over.", "Equal records stay as separate operations."
-- The operations of an opcode that a selection reports, in journal order.
abbrev pub chosen : Selection → ℕ → List Entry → List Operation
chosen selection code es = chosen_by (reports selection code) operation es

-- 01: "The reportable list is all reportable deletes in journal order, then updates, then additions."
unfoldable pub reportable : Selection → List ℕ → List Operation
reportable selection j = chosen selection 1 (entries j) ++ (chosen selection 2 (entries j) ++ chosen selection 3 (entries j))

-- The number of operand words that operations fill.
unfoldable pub operand_words : List Operation → ℕ
operand_words [] = 0
operand_words (o ∷ os) = length (operands o) + operand_words os

-- What a scan tells: nothing of a malformed journal, else how many operations of each opcode a selection reports of it.
abbrev pub counts_of : Selection → List ℕ → Counts
counts_of selection j = record {
  deletes = length (chosen selection 1 (entries j));
  updates = length (chosen selection 2 (entries j));
  additions = length (chosen selection 3 (entries j));
}

unfoldable pub judgement_of : Selection → List ℕ → Option Counts
judgement_of selection j = cond (well_formed j) (Some (counts_of selection j)) None
