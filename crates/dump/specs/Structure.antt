-- The dump structure and when it is good (document 01, "Kernel dump registration", paragraph "Structure").
use Rattle.std.specs.Prelude.{ℕ, zero, suc, ◌+◌, ◌*◌, Bool, true, cond, ◌&&◌, ◌||◌, List, leb, ltb, eqb, length, drop}
use Rattle.words.specs.Numbers.{be16, be32, be64}
use Rattle.words.specs.Nul.{until_nul}

-- the bytes of a header and of a section, and the most sections
abbrev pub header_size : ℕ
header_size = 40

abbrev pub section_size : ℕ
section_size = 40

abbrev pub section_limit : ℕ
section_limit = 10

-- 01: "version (4 bytes) 1; sections (2) 1 to 10; status flags (2) zero; offset of first section (4); block size (4); first block (8);
-- blocks (8); path offset (4); milliseconds (4), any."
abbrev pub version : List ℕ → ℕ
version s = be32 s 0

abbrev pub sections : List ℕ → ℕ
sections s = be16 s 4

abbrev pub status_flags : List ℕ → ℕ
status_flags s = be16 s 6

abbrev pub first_section : List ℕ → ℕ
first_section s = be32 s 8

abbrev pub block_size : List ℕ → ℕ
block_size s = be32 s 12

abbrev pub first_block : List ℕ → ℕ
first_block s = be64 s 16

abbrev pub blocks : List ℕ → ℕ
blocks s = be64 s 24

abbrev pub path_offset : List ℕ → ℕ
path_offset s = be32 s 32

-- 01: "Sections of 40 bytes follow each other from an offset of at least 40 and end within the length."
abbrev pub sections_end : List ℕ → ℕ
sections_end s = first_section s + section_size * sections s

unfoldable pub good_header : List ℕ → Bool
good_header s =
    eqb (version s) 1
    && (leb 1 (sections s) && (leb (sections s) section_limit
    && (eqb (status_flags s) 0 && (leb header_size (first_section s) && leb (sections_end s) (length s)))))

-- n sections from an offset on, each of which passes a test
unfoldable pub each_section : (ℕ → Bool) → ℕ → ℕ → Bool
each_section test zero at = true
each_section test (suc n) at = test at && each_section test n (at + section_size)

-- 01: "request flags (4), 0 or 0x00000001; type (2), 1, 2, 0x11, 0x12 or 0x100 and up; error flags (2) zero; source (8), requested (8);
-- actual (8) zero; destination (8)."
abbrev pub request_flags : List ℕ → ℕ → ℕ
request_flags s at = be32 s at

abbrev pub section_type : List ℕ → ℕ → ℕ
section_type s at = be16 s (at + 4)

abbrev pub section_errors : List ℕ → ℕ → ℕ
section_errors s at = be16 s (at + 6)

abbrev pub section_source : List ℕ → ℕ → ℕ
section_source s at = be64 s (at + 8)

abbrev pub section_requested : List ℕ → ℕ → ℕ
section_requested s at = be64 s (at + 16)

abbrev pub section_actual : List ℕ → ℕ → ℕ
section_actual s at = be64 s (at + 24)

abbrev pub section_destination : List ℕ → ℕ → ℕ
section_destination s at = be64 s (at + 32)

unfoldable pub good_type : ℕ → Bool
good_type t = eqb t 1 || (eqb t 2 || (eqb t 17 || (eqb t 18 || leb 256 t)))

unfoldable pub good_section : List ℕ → ℕ → Bool
good_section s at = leb (request_flags s at) 1 && (good_type (section_type s at) && (eqb (section_errors s at) 0 && eqb (section_actual s at) 0))

-- request flag 1
unfoldable pub requested : List ℕ → ℕ → Bool
requested s at = eqb (request_flags s at) 1

-- 01: "Block size 0 means no disk: first block, blocks and path offset are 0 and every section has request flag 1."
unfoldable pub without_disk : List ℕ → Bool
without_disk s = eqb (first_block s) 0 && (eqb (blocks s) 0 && (eqb (path_offset s) 0 && each_section (requested s) (sections s) (first_section s)))

-- 01: "the path starts at 40 or later, is not empty, ends at the first NUL inside the length, and with its NUL shares no byte with the sections."
abbrev pub path_end : List ℕ → ℕ
path_end s = path_offset s + length (until_nul (drop (path_offset s) s))

unfoldable pub good_path : List ℕ → Bool
good_path s =
    leb header_size (path_offset s)
    && (ltb (path_offset s) (path_end s) && (ltb (path_end s) (length s) && (ltb (path_end s) (first_section s) || leb (sections_end s) (path_offset s))))

unfoldable pub good_structure : List ℕ → Bool
good_structure s = good_header s && (each_section (good_section s) (sections s) (first_section s) && cond (eqb (block_size s) 0) (without_disk s) (good_path s))
