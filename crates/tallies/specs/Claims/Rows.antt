-- The row of scope 3 in numbers: how many records of kind 4 a journal has (document 02, M-106: "for each scope row (scope 3 over all units) and opcode").
use Rattle.std.specs.Prelude.{ℕ, ◌+◌, ◌≡◌, true, cond, List, [], ◌∷◌, eqb}
use Rattle.words.specs.Numbers.{le}
use Rattle.records.specs.Records.{records}
use Rattle.journal.specs.Journal.{well_formed}
use Rattle.tallies.specs.Tallies.{recount_of}

-- how many records are of a kind
unfoldable pub of_kind : ℕ → List (List ℕ) → ℕ
of_kind kind [] = 0
of_kind kind (r ∷ rs) = cond (eqb (le 2 r 2) kind) 1 0 + of_kind kind rs

-- Scope 3 holds no deletes and no additions; its updates are the records of kind 4, whatever their unit.
abbrev pub ThirdRow : Type 0
ThirdRow = (j : List ℕ) → well_formed j ≡ true → (recount_of j).third ≡ record { deletes = 0; updates = of_kind 4 (records j); additions = 0 }
