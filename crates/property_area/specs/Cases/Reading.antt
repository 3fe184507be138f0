-- Readings of property areas, for example (document 02, M-103), cited by the contract of `check_area`; `PropertyReaderExactly` is of every area.
use Rattle.std.specs.Prelude.{ℕ, ◌-◌, Bool, false, ◌&&◌, List, [], ◌∷◌, ◌++◌, T, eqb, length, replicate, Result, Ok, Err}
use Rattle.words.specs.Numbers.{be_bytes}
use Rattle.words.specs.Claims.Cases.{all}
use Rattle.property_area.specs.declared.reading.Refusal.{Refusal}
use Rattle.words.specs.declared.refused.Refused.{Refused}
use Rattle.property_area.specs.Reading.{refusal_number, reading, check_of}

-- what a check is to find: a number of properties, or the number of a refusal and its byte offset
pub data Found : Type 0 where
  properties : ℕ → Found
  refusal : ℕ → ℕ → Found

pub record ReadingCase : Type 0 where
  pub area : List ℕ
  pub finds : Found

-- bytes, and as many sevens as fill 4,096
abbrev pub filled_up : List ℕ → List ℕ
filled_up bytes = bytes ++ replicate (4096 - length bytes) 7

-- an area of phandle 42 and state 9, a count, and what stands after it
abbrev pub case : ℕ → List ℕ → Found → ReadingCase
case count behind found = record { area = filled_up ((0 ∷ 0 ∷ 0 ∷ 42 ∷ 0 ∷ 0 ∷ 0 ∷ 9 ∷ replicate 8 0) ++ (be_bytes 4 count ++ behind)); finds = found }

-- a name of so many letters with its NUL, a descriptor, and bytes after it
abbrev pub property : ℕ → ℕ → List ℕ → List ℕ
property letters descriptor value = replicate letters 65 ++ (0 ∷ (be_bytes 4 descriptor ++ value))

abbrev pub bytes : ℕ → List ℕ
bytes n = replicate n 0

abbrev pub reading_cases : List ReadingCase
reading_cases =
    -- a whole value, a part of a value, a deletion, and two properties
    case 1 (property 3 5 (bytes 5)) (properties 1)
    ∷ case 1 (property 3 0xffff_fffb (bytes 5)) (properties 1)
    ∷ case 1 (property 31 0x8000_0000 []) (properties 1)
    ∷ case 2 (property 2 3 (bytes 3) ++ property 1 0x8000_0000 []) (properties 2)
    -- each refusal: 4,095 bytes, a reserved byte, a name of 32 bytes, a value past the end
    ∷ record { area = replicate 4095 0; finds = refusal 40 0 }
    ∷ record { area = filled_up (replicate 15 0 ++ (128 ∷ replicate 4 0)); finds = refusal 41 8 }
    ∷ case 2 (property 1 0 [] ++ property 32 0 []) (refusal 42 26)
    ∷ case 1 (property 1 4071 (bytes 4070)) (refusal 43 20)
    ∷ []

abbrev pub matches : Result ℕ (Refused Refusal) → Found → Bool
matches (Ok n) (properties m) = eqb n m
matches (Ok n) (refusal r at) = false
matches (Err f) (properties m) = false
matches (Err f) (refusal r at) = eqb (refusal_number f.refusal) r && eqb f.offset at

abbrev pub agrees : ReadingCase → Bool
agrees c = matches (check_of (reading c.area)) c.finds

abbrev pub ReadingCases : Type 0
ReadingCases = T (all agrees reading_cases)
