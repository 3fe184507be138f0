-- The operations and words that an update-nodes call handed out (document 02, M-111: "operations handed out, words used (operators and operands)").
use Rattle.std.specs.Prelude.{ℕ, zero, suc, cond, List, [], ◌∷◌, eqb, length, drop}
use Rattle.words.specs.Numbers.{words}
use Rattle.words.specs.Reading.{Reading, read, refused}
use Rattle.journal.specs.declared.operation.Operation.{Operation}
use Rattle.node_area.specs.declared.reading.Refusal.{Refusal}
use Rattle.node_area.specs.Reading.{count_in, reading}
use Rattle.counting.specs.declared.area.Tally.{Tally}

-- Words from an operator on; the first k are operands of the operator before them. A zero word ends the list.
unfoldable pub words_used : ℕ → List ℕ → ℕ
words_used k [] = 0
words_used zero (w ∷ ws) = cond (eqb w 0) 0 (suc (words_used (count_in w) ws))
words_used (suc k) (w ∷ ws) = suc (words_used k ws)

abbrev pub no_tally : Tally
no_tally = record { operations = 0; words = 0 }

-- What an area hands out: the operations that it reads as, and the words in front of its terminator, operators and operands; nothing where it is refused. The
-- operators begin at byte 16.
abbrev pub tally_by : Reading Operation Refusal → List ℕ → Tally
tally_by (read os) area = record { operations = length os; words = words_used 0 (words (drop 16 area)) }
tally_by (refused r at) area = no_tally

unfoldable pub tally_of : ℕ → List ℕ → Tally
tally_of scope area = tally_by (reading scope area) area
