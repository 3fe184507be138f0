-- What is claimed of a section's error flags and actual length, cited by the contracts of `error_flags` and `actual_length`.
use Rattle.std.specs.Prelude.{ℕ, ◌+◌, ◌-◌, ◌/◌, ◌%◌, ◌≤◌, ◌<◌, min, ◌≡◌, ◌⊎◌}
use Rattle.words.specs.Claims.Exactly.{Exactly}
use Rattle.dumping.specs.declared.section.Section.{Section}
use Rattle.dumping.specs.Section.{error_flags, actual_length}

-- a flag is set
abbrev pub Set : ℕ → ℕ → Type 0
Set flag flags = flags / flag % 2 ≡ 1

-- Of the error flags of a section, each exactly when, over a source and a memory of so many bytes.
pub record FlagsExactly (flags source memory : ℕ) (s : Section) : Type 0 where
  pub start : Exactly (Set 16_384 flags) (source ≤ s.start)
  pub length : Exactly (Set 8192 flags) (source < s.start + s.requested)
  pub destination : Exactly (Set 4096 flags) (memory ≤ s.destination)
  pub small : Exactly (Set 2048 flags) (memory - s.destination < min s.requested (source - s.start))
  -- and no other bit
  pub no_other : (flags % 2048 ≡ 0) × (flags < 32_768)

abbrev pub EachFlag : Type 0
EachFlag = (source memory : ℕ) (s : Section) → FlagsExactly (error_flags source memory s) source memory s

-- "Either start outside copies nothing."
abbrev pub OutsideCopiesNothing : Type 0
OutsideCopiesNothing = (source memory : ℕ) (s : Section) → (source ≤ s.start) ⊎ (memory ≤ s.destination) → actual_length source memory s ≡ 0

-- What is copied was asked for, and lies in its source and in memory.
abbrev pub CopiedInside : Type 0
CopiedInside =
    (source memory : ℕ) (s : Section) → 0 < actual_length source memory s
    → (actual_length source memory s ≤ s.requested) × ((s.start + actual_length source memory s ≤ source)
    × (s.destination + actual_length source memory s ≤ memory))

-- Without an error flag all is copied.
abbrev pub AllCopied : Type 0
AllCopied = (source memory : ℕ) (s : Section) → error_flags source memory s ≡ 0 → actual_length source memory s ≡ s.requested

pub record SectionClaims : Type 0 where
  pub each_flag : EachFlag
  pub outside_copies_nothing : OutsideCopiesNothing
  pub copied_inside : CopiedInside
  pub all_copied : AllCopied
