-- Dump structures, good ones and others, cited by the contract of `is_structure`.
use Rattle.std.specs.Prelude.{ℕ, zero, suc, List, [], ◌∷◌, ◌++◌, T, take, replicate}
use Rattle.words.specs.Numbers.{be_bytes}
use Rattle.words.specs.Claims.Cases.{Case, yes, no, agree}
use Rattle.dump.specs.Structure.{good_structure}

-- the bytes of a header: so many sections from an offset on, a block size, the first block and the number of blocks, a path's offset; the milliseconds are 7
abbrev pub header : ℕ → ℕ → ℕ → ℕ → ℕ → List ℕ
header n first size block path =
    be_bytes 4 1
    ++ (be_bytes 2 n ++ (be_bytes 2 0 ++ (be_bytes 4 first ++ (be_bytes 4 size
    ++ (be_bytes 8 block ++ (be_bytes 8 block ++ (be_bytes 4 path ++ be_bytes 4 7)))))))

-- without a disk, and with one and a path
abbrev pub bare : ℕ → ℕ → List ℕ
bare n first = header n first 0 0 0

abbrev pub disk : ℕ → ℕ → ℕ → List ℕ
disk n first path = header n first 512 9 path

-- a section: its request flags, type and error flags; source, requested and destination are any
abbrev pub section : ℕ → ℕ → ℕ → List ℕ
section flags type errors = be_bytes 4 flags ++ (be_bytes 2 type ++ (be_bytes 2 errors ++ (replicate 16 255 ++ (replicate 8 0 ++ replicate 8 255))))

abbrev pub asked : ℕ → List ℕ
asked type = section 1 type 0

abbrev pub times : ℕ → List ℕ → List ℕ
times zero r = []
times (suc n) r = r ++ times n r

-- a header, filling up to an offset, and what stands from there on
abbrev pub from : ℕ → List ℕ → List ℕ → List ℕ
from offset h rest = take offset (h ++ replicate 100 255) ++ rest

abbrev pub cases : List (Case (List ℕ))
cases =
    -- "Ten sections at offset 112, length 512, no disk: good. At 113: -3."
    yes (from 112 (bare 10 112) (times 10 (asked 1)))
    ∷ no (from 113 (bare 10 113) (take 399 (times 10 (asked 1))))
    -- what Linux registers: types 1, 2 and 0x11 from offset 40
    ∷ yes (from 40 (bare 3 40) (asked 1 ++ (asked 2 ++ asked 0x11)))
    -- "every section has request flag 1" without a disk; with one 0 will do, and the path A and its NUL stand after the sections
    ∷ no (from 40 (bare 1 40) (section 0 1 0))
    ∷ yes (from 40 (disk 1 40 80) (section 0 1 0 ++ (65 ∷ 0 ∷ [])))
    -- a path into the sections, and one without its NUL
    ∷ no (from 40 (disk 1 40 79) (section 0 1 0 ++ (65 ∷ 0 ∷ [])))
    ∷ no (from 40 (disk 1 40 80) (section 0 1 0 ++ (65 ∷ [])))
    -- type 3, an error flag, and the second of two sections
    ∷ no (from 40 (bare 1 40) (asked 3))
    ∷ no (from 40 (bare 1 40) (section 1 1 1))
    ∷ no (from 40 (bare 2 40) (asked 1 ++ asked 3))
    ∷ []

abbrev pub StructureCases : Type 0
StructureCases = T (agree good_structure cases)
