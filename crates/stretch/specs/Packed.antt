-- The counts of the four rows of the scope table, each row's three in one number (document 02, M-106).
use Rattle.std.specs.Prelude.{ℕ, ◌+◌, ◌*◌, List, [], get_or}
use Rattle.journal.specs.declared.counts.Counts.{Counts}
use Rattle.journal.specs.declared.scope.Units.TheVariants.{All}
use Rattle.journal.specs.Scope.{rows, Selection, asking}
use Rattle.journal.specs.Reportable.{counts_of}
use Rattle.journal.specs.Marks.{count_limit}
use Rattle.scanning.specs.Inner.Terms.{largest_weight, weight_of}
use Rattle.stretch.specs.declared.packed.Packed.{Packed}

-- 02: "for each scope row (scope 3 over all units) and opcode": the selection of row number n, 0 of negative scopes, 1 to 3 of these scopes
abbrev pub row : ℕ → Selection
row n = asking (get_or rows n []) All

-- the four rows, each by its number
abbrev pub by_row : (ℕ → ℕ) → Packed
by_row f = record { negative = f 0; first = f 1; second = f 2; third = f 3 }

-- three counts in one number, 21 bits for each opcode
abbrev pub packed : Counts → ℕ
packed c = c.deletes + (count_limit * c.updates + largest_weight * c.additions)

-- what the rows report of a journal
unfoldable pub packed_of : List ℕ → Packed
packed_of j = by_row (λ n. packed (counts_of (row n) j))

abbrev pub no_packed : Packed
no_packed = by_row (λ _. 0)

abbrev pub plus : Packed → Packed → Packed
plus a b = record { negative = a.negative + b.negative; first = a.first + b.first; second = a.second + b.second; third = a.third + b.third }

-- what a good record of a node of this kind and type adds
abbrev pub weights_for : ℕ → ℕ → Packed
weights_for kind node = by_row (λ n. weight_of (get_or rows n []) kind node)
