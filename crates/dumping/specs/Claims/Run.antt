-- What is claimed of the run of a dump, cited by the contract of `run_dump` (document 02, M-104).
use Rattle.std.specs.Prelude.{ℕ, suc, ◌+◌, ◌*◌, ◌-◌, ◌<◌, ◌≤◌, min, ◌≡◌, true, List, ◌⊎◌, length, get_or, take, Ok, Err}
use Rattle.words.specs.Claims.Exactly.{Exactly, Outside}
use Rattle.words.specs.Numbers.{Bytes, be16, be32, be64}
use Rattle.dump.specs.declared.registration.Phase.TheVariants.{Registered, Active}
use Rattle.dump.specs.declared.registration.Registration.{Registration}
use Rattle.dump.specs.declared.registration.Refusal.TheVariants.{Parameter, DumpActive}
use Rattle.dump.specs.Structure.{good_structure}
use Rattle.dumping.specs.declared.section.Section.{Section}
use Rattle.dumping.specs.Running.{run_of}
use Rattle.dumping.specs.Claims.Dumping.{FlagsExactly}

-- ---- the structure that was registered, in the paper's offsets

abbrev pub count : List ℕ → ℕ
count copy = be16 copy 4

-- the offset of section number k, from 0
abbrev pub place : List ℕ → ℕ → ℕ
place copy k = be32 copy 8 + 40 * k

abbrev pub Asked : List ℕ → ℕ → Type 0
Asked copy k = be32 copy (place copy k) ≡ 1

abbrev pub section_of : List ℕ → ℕ → Section
section_of copy k =
    let at = place copy k in
    record { request = be32 copy at; kind = be16 copy (at + 4); start = be64 copy (at + 8); requested = be64 copy (at + 16); destination = be64 copy (at + 32) }

-- "types 1 and 2 read platform memory at a byte offset, the others partition memory at an address"
pub record Reads (platform memory source : List ℕ) (kind : ℕ) : Type 0 where
  pub from_platform : (kind ≡ 1) ⊎ (kind ≡ 2) → source ≡ platform
  pub from_memory : (kind ≡ 1 → ⊥) → (kind ≡ 2 → ⊥) → source ≡ memory

-- the error flags and the actual length of section number k, in the copy afterwards
abbrev pub errors_in : List ℕ → List ℕ → ℕ → ℕ
errors_in copy after k = be16 after (place copy k + 6)

abbrev pub actual_in : List ℕ → List ℕ → ℕ → ℕ
actual_in copy after k = be64 after (place copy k + 24)

-- ---- each section

-- "Error flags, each set where it applies", and the actual length, by the size of the source
pub record SectionExactly (platform memory copy after : List ℕ) (k : ℕ) : Type 0 where
  pub flags : Asked copy k → (source : List ℕ) → Reads platform memory source (section_of copy k).kind
      → FlagsExactly (errors_in copy after k) (length source) (length memory) (section_of copy k)
  pub actual : Asked copy k → (source : List ℕ) → Reads platform memory source (section_of copy k).kind
      → actual_in copy after k ≡ min (min (section_of copy k).requested (length source - (section_of copy k).start))
      (length memory - (section_of copy k).destination)
  pub unasked : (Asked copy k → ⊥) → (errors_in copy after k ≡ 0) × (actual_in copy after k ≡ 0)

-- A section copies: so many bytes from where it begins to read to its destination, as its source held them before; no other byte changes.
pub record Copies (platform before after : List ℕ) (x : Section) (n : ℕ) : Type 0 where
  pub source : List ℕ
  pub reads : Reads platform before source x.kind
  pub same_size : length after ≡ length before
  pub inside : 0 < n → (x.start + n ≤ length source) × (x.destination + n ≤ length before)
  pub copied : (i : ℕ) → i < n → get_or after (x.destination + i) 0 ≡ get_or source (x.start + i) 0
  pub others : (i : ℕ) → Outside x.destination n i → get_or after i 0 ≡ get_or before i 0

-- "process the sections in order": each finds the memory that the one before it left, and its actual length is what was copied
pub record InOrder (platform memory left copy after : List ℕ) : Type 0 where
  pub memories : ℕ → List ℕ
  pub first : memories 0 ≡ memory
  pub last : memories (count copy) ≡ left
  pub each : (k : ℕ) → k < count copy → Copies platform (memories k) (memories (suc k)) (section_of copy k) (actual_in copy after k)

-- ---- demand 1

-- "Nothing else changes; demand 1 reads the copied-to destinations beside the work area."
abbrev pub MemoryKept : List ℕ → List ℕ → List ℕ → List ℕ → Type 0
MemoryKept memory left copy after =
    (i : ℕ) → ((k : ℕ) → k < count copy → Outside (section_of copy k).destination (actual_in copy after k) i) → get_or left i 0 ≡ get_or memory i 0

-- Of the copy, only the status flags, and of each section its error flags and its actual length.
abbrev pub CopyKept : List ℕ → List ℕ → Type 0
CopyKept copy after =
    (i : ℕ) → Outside 6 2 i → ((k : ℕ) → k < count copy → Outside (place copy k + 6) 2 i × Outside (place copy k + 24) 8 i) → get_or after i 0 ≡ get_or copy i 0

-- "0x8000 and, on any section error, 0x2000 of the status flags"
pub record StatusFlags (copy after : List ℕ) : Type 0 where
  pub without : ((k : ℕ) → k < count copy → errors_in copy after k ≡ 0) → be16 after 6 ≡ 32_768
  pub with_error : (k : ℕ) → k < count copy → (errors_in copy after k ≡ 0 → ⊥) → be16 after 6 ≡ 40_960

-- A run of a good structure: all of it.
pub record Ran (platform memory left copy after : List ℕ) : Type 0 where
  pub sections : (k : ℕ) → k < count copy → SectionExactly platform memory copy after k
  pub in_order : InOrder platform memory left copy after
  pub memory_size : length left ≡ length memory
  pub memory_kept : MemoryKept memory left copy after
  pub copy_size_claim : length after ≡ length copy
  pub copy_kept : CopyKept copy after
  pub status_flags_claim : StatusFlags copy after

-- ---- refusals

-- The verdict exactly when, and what a run leaves.
pub record RunExactly (platform memory : List ℕ) (r : Registration) : Type 0 where
  -- "-10 when active"
  pub active : Exactly ((run_of platform memory r).verdict ≡ Err DumpActive) (r.phase ≡ Active)
  pub done : Exactly ((run_of platform memory r).verdict ≡ Ok tt) ((r.phase ≡ Registered) × ((r.len ≤ 512) × (good_structure (take r.len r.copy) ≡ true)))
  -- "-3 when nothing is registered or the copy isn't a good structure"
  pub otherwise : ((run_of platform memory r).verdict ≡ Err DumpActive → ⊥) → ((run_of platform memory r).verdict ≡ Ok tt → ⊥)
      → (run_of platform memory r).verdict ≡ Err Parameter
  pub refused : ((run_of platform memory r).verdict ≡ Ok tt → ⊥) → ((run_of platform memory r).memory ≡ memory) × ((run_of platform memory r).next ≡ r)
  -- "and the registration becomes active"
  pub becomes_active : (run_of platform memory r).verdict ≡ Ok tt
      → ((run_of platform memory r).next.phase ≡ Active) × ((run_of platform memory r).next.len ≡ r.len)

abbrev pub EachVerdict : Type 0
EachVerdict = (platform memory : List ℕ) (r : Registration) → RunExactly platform memory r

abbrev pub EachSection : Type 0
EachSection =
    (platform memory : List ℕ) (r : Registration) → Bytes r.copy → (run_of platform memory r).verdict ≡ Ok tt
    → Ran platform memory (run_of platform memory r).memory r.copy (run_of platform memory r).next.copy

pub record RunClaims : Type 0 where
  pub each_verdict : EachVerdict
  pub each_section_claim : EachSection
