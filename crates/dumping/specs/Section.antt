-- What a section of a dump copies, and its error flags (document 02, M-104), by numbers: how many bytes its source has, and how many partition memory.
use Rattle.std.specs.Prelude.{ℕ, ◌+◌, ◌-◌, min, cond, leb, ltb}
use Rattle.dumping.specs.declared.section.Section.{Section}

-- the bytes that the source has of those requested
abbrev pub has : ℕ → Section → ℕ
has source s = min s.requested (source - s.start)

-- what memory has from the destination on
abbrev pub room : ℕ → Section → ℕ
room memory s = memory - s.destination

-- "Error flags, each set where it applies: source start at or past its buffer's end 0x4000; start plus length past the source's end 0x2000, copying
-- what there is;
-- destination start at or past the end of partition memory 0x1000; destination too small for the bytes that the source has 0x0800, copying what fits."
unfoldable pub error_flags : ℕ → ℕ → Section → ℕ
error_flags source memory s =
    cond (leb source s.start) 16_384 0
    + cond (ltb source (s.start + s.requested)) 8192 0
    + cond (leb memory s.destination) 4096 0
    + cond (ltb (room memory s) (has source s)) 2048 0

-- ".. copying what there is", ".. copying what fits"
unfoldable pub actual_length : ℕ → ℕ → Section → ℕ
actual_length source memory s = min (has source s) (room memory s)
