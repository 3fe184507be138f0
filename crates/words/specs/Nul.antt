-- Bytes that a NUL ends (document 01, "Readers").
use Rattle.std.specs.Prelude.{ℕ, Bool, cond, ◌&&◌, List, [], ◌∷◌, leb, ltb, eqb, length}

-- 01: "a search that stops at the first NUL": the bytes before it, or all of them where there is none
unfoldable pub until_nul : List ℕ → List ℕ
until_nul [] = []
until_nul (b ∷ bs) = cond (eqb b 0) [] (b ∷ until_nul bs)

-- a string of 1 to so many bytes, and its NUL, stand in front
unfoldable pub is_ended : ℕ → List ℕ → Bool
is_ended limit s = leb 1 (length (until_nul s)) && (leb (length (until_nul s)) limit && ltb (length (until_nul s)) (length s))
