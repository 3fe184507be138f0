-- What reading a work area gives, over any entries and any refusals (document 01, "Readers").
use Rattle.std.specs.Prelude.{ℕ, ◌≡◌, List, [], ◌∷◌, ◌++◌}

-- 01: "A reading gives the entries, or a refusal number with a byte offset"
pub data Reading (E R : Type 0) : Type 0 where
  read : List E → Reading E R
  refused : R → ℕ → Reading E R

-- a reading is a refusal of this number at this byte offset
abbrev pub Refuses : {E R : Type 0} → (R → ℕ) → Reading E R → ℕ → ℕ → Type 0
Refuses {E} {R} number x n at = (r : R) × ((number r ≡ n) × (x ≡ refused r at))

-- one reading after the other: all entries, or the first refusal
unfoldable pub joined : {E R : Type 0} → Reading E R → Reading E R → Reading E R
joined (read xs) (read ys) = read (xs ++ ys)
joined (read xs) (refused r at) = refused r at
joined (refused r at) y = refused r at

-- what areas hold, one after the other
unfoldable pub readings : {E R : Type 0} → (List ℕ → Reading E R) → List (List ℕ) → Reading E R
readings reading [] = read []
readings reading (area ∷ areas) = joined (reading area) (readings reading areas)
