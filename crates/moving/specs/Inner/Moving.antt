-- Bytes moved within a buffer (document 02, M-104: "an overlapping destination gets what the source held before that section began").
use Rattle.std.specs.Prelude.{ℕ, ◌+◌, ◌≤◌, List, length, take, drop}
use Rattle.std.proofs.lemmas.List.Edits.{sets}

abbrev pub moved : List ℕ → ℕ → ℕ → ℕ → List ℕ
moved bytes to from size = sets bytes to (take size (drop from bytes))

-- both places lie in the buffer
abbrev pub Inside : List ℕ → ℕ → ℕ → ℕ → Type 0
Inside bytes to from size = (to + size ≤ length bytes) × (from + size ≤ length bytes)
