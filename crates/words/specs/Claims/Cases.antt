-- Tables of cases, for claims that a test comes out on both sides as the paper says.
use Rattle.std.specs.Prelude.{Bool, true, false, ◌&&◌, List, [], ◌∷◌, ℕ, eqb}
use Rattle.std.specs.Bool.{beq}

-- a subject of a test, and whether the test is to hold of it
pub record Case (A : Type 0) : Type 0 where
  pub subject : A
  pub holds : Bool

abbrev pub yes : {A : Type 0} → A → Case A
yes x = record { subject = x; holds = true }

abbrev pub no : {A : Type 0} → A → Case A
no x = record { subject = x; holds = false }

-- a test holds of every one
abbrev pub all : {A : Type 0} → (A → Bool) → List A → Bool
all test [] = true
all test (x ∷ xs) = test x && all test xs

-- every test holds
abbrev pub every : List Bool → Bool
every [] = true
every (t ∷ ts) = t && every ts

-- the same numbers
abbrev pub same : List ℕ → List ℕ → Bool
same [] [] = true
same [] (y ∷ ys) = false
same (x ∷ xs) [] = false
same (x ∷ xs) (y ∷ ys) = eqb x y && same xs ys

-- a test comes out as every case says
abbrev pub agree : {A : Type 0} → (A → Bool) → List (Case A) → Bool
agree {A} test cs = all (λ (c : Case A). beq (test c.subject) c.holds) cs
