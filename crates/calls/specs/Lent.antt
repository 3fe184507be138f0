-- Parts of partition memory (document 01, "Lent memory").
use Rattle.std.specs.Prelude.{ℕ, List, take, drop}
use Rattle.std.proofs.Math.Seq.{paste}

-- 01: "For update-nodes, the work area is the 4,096 bytes of partition memory that start at the given address; for indices, the given size
-- from the given address."
unfoldable pub part_at : List ℕ → ℕ → ℕ → List ℕ
part_at m address size = take size (drop address m)

-- memory with another part of that size at the address
unfoldable pub with_part : List ℕ → ℕ → ℕ → List ℕ → List ℕ
with_part m address size part = paste m address part size
