-- Terms of the contracts of the writer's private functions; no public promise cites them.
use Rattle.std.specs.Prelude.{ℕ, ◌+◌, ◌*◌, ◌-◌, ◌≤◌, ◌≡◌, true, cond, List, [], ◌∷◌, ◌++◌, eqb, length, take, drop}
use Rattle.journal.specs.Scope.{Selection}
use Rattle.records.specs.Records.{records, all_good}
use Rattle.journal.specs.declared.counts.Counts.{Counts}
use Rattle.journal.specs.Journal.{IsOpcode, good_record, entries}
use Rattle.journal.specs.Reportable.{chosen}
use Rattle.nodes.specs.Run.{area_words, part_words}
use Rattle.nodes.specs.Area.{part}
use Rattle.nodes.specs.Inner.Terms.{words_of}

-- the operand words of one operation of an opcode
abbrev pub width : ℕ → ℕ
width code = cond (eqb code 3) 2 1

-- n operations of an opcode stand in good records from a place on
pub record Due (selection : Selection) (j : List ℕ) (code at n : ℕ) : Type 0 where
  pub of : IsOpcode code
  pub sound : all_good good_record (records (drop at j)) ≡ true
  pub enough : n ≤ length (chosen selection code (entries (drop at j)))

-- their operand words
unfoldable pub due_words : Selection → List ℕ → ℕ → ℕ → ℕ → List ℕ
due_words selection j code at n = words_of (take n (chosen selection code (entries (drop at j))))

-- so many operations of an opcode of the whole journal, from a number on, as one opcode's part of the area
abbrev pub part_from : Selection → List ℕ → ℕ → ℕ → ℕ → List ℕ
part_from selection j code first count = part code (words_of (take count (drop first (chosen selection code (entries j)))))

-- a run that the journal has behind what each opcode has passed, and that fits
pub record Handed (selection : Selection) (j : List ℕ) (passed run : Counts) : Type 0 where
  pub deletes : run.deletes ≤ length (chosen selection 1 (entries j)) - passed.deletes
  pub updates : run.updates ≤ length (chosen selection 2 (entries j)) - passed.updates
  pub additions : run.additions ≤ length (chosen selection 3 (entries j)) - passed.additions
  pub room : part_words (width 1 * run.deletes) + part_words (width 2 * run.updates) + part_words (width 3 * run.additions) ≤ area_words

-- the three parts of a run, each from its opcode's place on, and the terminator
unfoldable pub body_from : Selection → List ℕ → Counts → Counts → List ℕ
body_from selection j passed run =
    part_from selection j 1 passed.deletes run.deletes
    ++ (part_from selection j 2 passed.updates run.updates ++ (part_from selection j 3 passed.additions run.additions ++ (0 ∷ [])))
