-- Claims about index work areas, cited by the contract of `check_area`.
use Rattle.std.specs.Prelude.{◌≡◌, ℕ, ◌-◌, ◌<◌, ◌≤◌, Bool, true, false, ◌&&◌, List, [], ◌∷◌, ◌++◌, T, eqb, length, replicate, Result, Ok, Err}
use Rattle.words.specs.Numbers.{Bytes, be_bytes}
use Rattle.words.specs.Claims.Cases.{all}
use Rattle.inventory.specs.Inventory.{well_formed}
use Rattle.inventory.specs.Listing.{Entry, listed}
use Rattle.inventory.specs.Claims.Sound.{Sound}
use Rattle.words.specs.declared.refused.Refused.{Refused}
use Rattle.indices.specs.declared.reading.Refusal.{Refusal}
use Rattle.indices.specs.Area.{run, answer, written, ample_size}
use Rattle.words.specs.Reading.{read}
use Rattle.indices.specs.Reading.{refusal_number, reading, check_of}

-- ---- "Reading what was written gives back the same entries": of any entries with 32-bit indices and good codes

abbrev pub RoundTrip : Type 0
RoundTrip = (area : List ℕ) (es : List Entry) → length es < 0x1_0000_0000 → Sound es → reading (written area es) ≡ read es

-- so of every run of the entries of an inventory
abbrev pub ReadsBack : Type 0
ReadsBack = (area inventory : List ℕ) (flag type size number : ℕ) → Bytes inventory → well_formed inventory ≡ true
    → reading (written area (run size number (listed flag type inventory))) ≡ read (run size number (listed flag type inventory))

-- ---- "never zero entries", 02, M-113: "the size that always holds the entry due (1,036)"

abbrev pub HoldsDue : Type 0
HoldsDue = (size number : ℕ) (es : List Entry) → Sound es → number - 1 < length es → ample_size ≤ size → 1 ≤ length (run size number es)

-- the run and its count fill no more than the area
abbrev pub Fits : Type 0
Fits = (size number : ℕ) (es : List Entry) → 4 ≤ size → length (answer (run size number es)) ≤ size

abbrev pub AreaClaims : Type 0
AreaClaims = RoundTrip × ReadsBack × HoldsDue × Fits

-- ---- readings, for example; `IndexReaderExactly` is of every area

-- what a check is to find: a number of entries, or the number of a refusal and its byte offset
pub data Found : Type 0 where
  entries : ℕ → Found
  refusal : ℕ → ℕ → Found

pub record ReadingCase : Type 0 where
  pub area : List ℕ
  pub finds : Found

-- an area of a count and what stands after it
abbrev pub case : ℕ → List ℕ → Found → ReadingCase
case count setsBehind found = record { area = be_bytes 4 count ++ setsBehind; finds = found }

-- a set of index 7: its length, and the bytes after it
abbrev pub set_of : ℕ → List ℕ → List ℕ
set_of n bytes = be_bytes 4 7 ++ (be_bytes 4 n ++ bytes)

-- so many letters, then so many NULs
abbrev pub letters_and_nuls : ℕ → ℕ → List ℕ
letters_and_nuls letters nuls = replicate letters 65 ++ replicate nuls 0

abbrev pub reading_cases : List ReadingCase
reading_cases =
    -- the shortest and the longest code, and two sets
    case 1 (set_of 4 (letters_and_nuls 1 3)) (entries 1)
    ∷ case 1 (set_of 1024 (letters_and_nuls 1023 1)) (entries 1)
    ∷ case 2 (set_of 4 (letters_and_nuls 3 1) ++ set_of 8 (letters_and_nuls 4 4)) (entries 2)
    -- each refusal: under 4 bytes, a set that isn't there, a code of 1,024 bytes, five NULs
    ∷ record { area = 0 ∷ 0 ∷ 0 ∷ []; finds = refusal 30 0 }
    ∷ case 2 (set_of 4 (letters_and_nuls 3 1)) (refusal 31 16)
    ∷ case 1 (set_of 1028 (letters_and_nuls 1024 4)) (refusal 32 4)
    ∷ case 2 (set_of 4 (letters_and_nuls 3 1) ++ set_of 8 (letters_and_nuls 3 5)) (refusal 33 16)
    ∷ []

abbrev pub matches : Result ℕ (Refused Refusal) → Found → Bool
matches (Ok n) (entries m) = eqb n m
matches (Ok n) (refusal r at) = false
matches (Err x) (entries m) = false
matches (Err x) (refusal r at) = eqb (refusal_number x.refusal) r && eqb x.offset at

abbrev pub agrees : ReadingCase → Bool
agrees c = matches (check_of (reading c.area)) c.finds

abbrev pub ReadingCases : Type 0
ReadingCases = T (all agrees reading_cases)
