-- A good dump structure exactly when, in the paper's offsets (document 01, "Kernel dump registration", paragraph "Structure"). Cited by the contract of
-- `is_structure`.
use Rattle.std.specs.Prelude.{ℕ, ◌+◌, ◌*◌, ◌<◌, ◌≤◌, ◌≡◌, true, List, ◌∷◌, ◌++◌, ◌⊎◌, length, drop}
use Rattle.words.specs.Numbers.{be}
use Rattle.words.specs.Claims.Exactly.{Exactly, NonZero}
use Rattle.dump.specs.Structure.{good_structure}

-- "A section: request flags (4), 0 or 0x00000001; type (2), 1, 2, 0x11, 0x12 or 0x100 and up; error flags (2) zero; source (8), requested (8); actual (8) zero;
-- destination (8)."
pub record Section (s : List ℕ) (at : ℕ) : Type 0 where
  pub request : be 4 s at ≤ 1
  pub type : (be 2 s (at + 4) ≡ 1) ⊎ ((be 2 s (at + 4) ≡ 2) ⊎ ((be 2 s (at + 4) ≡ 0x11) ⊎ ((be 2 s (at + 4) ≡ 0x12) ⊎ (0x100 ≤ be 2 s (at + 4)))))
  pub errors : be 2 s (at + 6) ≡ 0
  pub actual : be 8 s (at + 24) ≡ 0

-- "Block size 0 means no disk: first block, blocks and path offset are 0 and every section has request flag 1."
pub record NoDisk (s : List ℕ) (first count : ℕ) : Type 0 where
  pub block_size : be 4 s 12 ≡ 0
  pub first_block : be 8 s 16 ≡ 0
  pub blocks : be 8 s 24 ≡ 0
  pub path_offset_claim : be 4 s 32 ≡ 0
  pub requested : (k : ℕ) → k < count → be 4 s (first + 40 * k) ≡ 1

-- "Otherwise first block and blocks may hold anything, and the path starts at 40 or later, is not empty, ends at the first NUL inside the length, and
-- with its NUL
-- shares no byte with the sections."
pub record Disk (s : List ℕ) (first count : ℕ) (path rest : List ℕ) : Type 0 where
  pub block_size : be 4 s 12 ≡ 0 → ⊥
  pub from : 40 ≤ be 4 s 32
  pub some : 1 ≤ length path
  pub non_zero : NonZero path
  pub ended : drop (be 4 s 32) s ≡ path ++ (0 ∷ rest)
  pub apart : (be 4 s 32 + length path + 1 ≤ first) ⊎ (first + 40 * count ≤ be 4 s 32)

-- "Structure: version (4 bytes) 1; sections (2) 1 to 10; status flags (2) zero; offset of first section (4); block size (4); first block (8); blocks
-- (8); path offset
-- (4); milliseconds (4), any. Sections of 40 bytes follow each other from an offset of at least 40 and end within the length."
pub record Structure (s : List ℕ) (first count : ℕ) : Type 0 where
  pub version : be 4 s 0 ≡ 1
  pub some : 1 ≤ count
  pub few : count ≤ 10
  pub status_flags_claim : be 2 s 6 ≡ 0
  pub from : 40 ≤ first
  pub end : first + 40 * count ≤ length s
  pub sections : (k : ℕ) → k < count → Section s (first + 40 * k)
  pub disk : NoDisk s first count ⊎ ((path : List ℕ) × ((rest : List ℕ) × Disk s first count path rest))

abbrev pub StructureExactly : Type 0
StructureExactly = (s : List ℕ) → Exactly (good_structure s ≡ true) (Structure s (be 4 s 8) (be 2 s 4))
