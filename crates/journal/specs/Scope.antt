-- The table of the scopes (document 01, "What each scope reports"). A scope is a 32-bit word.
use Rattle.std.specs.Prelude.{ℕ, ◌-◌, ◌/◌, ◌%◌, ◌^◌, Bool, cond, ◌||◌, Option, Some, None, List, [], ◌∷◌, leb, eqb}
use Rattle.journal.specs.declared.scope.Selection as declared
use Rattle.journal.specs.declared.scope.Units.{Units}
use Rattle.journal.specs.declared.scope.Units.TheVariants.{All, One}
use Rattle.journal.specs.Journal.{within}

-- A set of opcodes is a number: 1 for delete, 2 for update and 4 for add, added up.
abbrev pub holds : ℕ → ℕ → Bool
holds set code = eqb (set / 2 ^ (code - 1) % 2) 1

abbrev pub none : ℕ
none = 0

abbrev pub updates : ℕ
updates = 2

abbrev pub all_three : ℕ
all_three = 7

-- 01: "any negative scope: 5, 8, 9 updates; 10 to 14 all three opcodes"
abbrev pub negative_row : ℕ → ℕ
negative_row node = cond (eqb node 5 || within 8 9 node) updates (cond (within 10 14 node) all_three none)

-- 01: "scope 1: 1 to 5, 7, 8 updates; 6, 9 to 14 all three"
abbrev pub first_row : ℕ → ℕ
first_row node = cond (within 1 5 node || within 7 8 node) updates (cond (eqb node 6 || within 9 14 node) all_three none)

-- 01: "scope 2: 3 updates"
abbrev pub second_row : ℕ → ℕ
second_row node = cond (eqb node 3) updates none

-- 02, M-100: "Node types 15 .. and 16 .. report updates, in scope 3 only."
abbrev pub third_row : ℕ → ℕ
third_row node = cond (within 15 16 node) updates none

abbrev pub no_row : ℕ → ℕ
no_row node = none

-- The sets of a row, by node type from 0 to 16.
abbrev pub by_type : (ℕ → ℕ) → List ℕ
by_type row =
    row 0 ∷ row 1 ∷ row 2 ∷ row 3 ∷ row 4 ∷ row 5 ∷ row 6 ∷ row 7 ∷ row 8 ∷ row 9 ∷ row 10 ∷ row 11 ∷ row 12 ∷ row 13 ∷ row 14 ∷ row 15 ∷ row 16 ∷ []

-- 01: "The rule is a table with one row of node types for each scope"
unfoldable pub rows : List (List ℕ)
rows = by_type negative_row ∷ by_type first_row ∷ by_type second_row ∷ by_type third_row ∷ []

unfoldable pub negative : ℕ → Bool
negative scope = leb 0x8000_0000 scope

-- 01: "A scope with a row of node types is valid."
unfoldable pub valid : ℕ → Bool
valid scope = negative scope || (eqb scope 1 || (eqb scope 2 || eqb scope 3))

-- The row of a scope; a scope with none reports nothing.
unfoldable pub row_of : ℕ → List ℕ
row_of scope =
    cond (negative scope) (by_type negative_row)
    (cond (eqb scope 1) (by_type first_row)
    (cond (eqb scope 2) (by_type second_row)
    (cond (eqb scope 3) (by_type third_row)
    (by_type no_row))))

-- What a scope asks for: the set of opcodes of each node type, and of which units.
abbrev pub Selection : Type 0
Selection = declared.Selection

abbrev pub asking : List ℕ → Units → Selection
asking row units = record { sets = row; units = units }

-- 02, M-100: "In scope 3 the first call carries .. unit address .., and reports only that unit's records."
unfoldable pub units_of : ℕ → ℕ → Units
units_of scope unit = cond (eqb scope 3) (One unit) All

abbrev pub selection_of : ℕ → ℕ → Selection
selection_of scope unit = asking (row_of scope) (units_of scope unit)

abbrev pub scope_row : ℕ → Option (List ℕ)
scope_row scope = cond (valid scope) (Some (row_of scope)) None
