-- Readings of node areas, cited by the contract of `check_area` (document 01, "Readers"): an area for each refusal, and areas that are read.
use Rattle.std.specs.Prelude.{ℕ, ◌-◌, ◌≡◌, List, [], ◌∷◌, ◌++◌, map, take, replicate}
use Rattle.words.specs.Numbers.{word_bytes}
use Rattle.words.specs.Reading.{Reading, read, refused}
use Rattle.journal.specs.declared.operation.Operation.{Operation}
use Rattle.journal.specs.declared.operation.Operation.TheVariants.{Delete, Update, Add}
use Rattle.node_area.specs.declared.reading.Refusal.{Refusal}
use Rattle.node_area.specs.Reading.{refusal_number, reading}

-- 01: "the entries, or a refusal number with a byte offset"
abbrev pub numbered : Reading Operation Refusal → Reading Operation ℕ
numbered (read os) = read os
numbered (refused r at) = refused (refusal_number r) at

pub record ReadingCase : Type 0 where
  pub scope : ℕ
  pub area : List ℕ
  pub finds : Reading Operation ℕ

-- an area with these words from byte 16 on, and sevens, which are no operator, after them
abbrev pub area : List ℕ → Reading Operation ℕ → ReadingCase
area ws finds = record { scope = 1; area = take 4096 (word_bytes (5 ∷ 0 ∷ 0 ∷ 0 ∷ ws) ++ replicate 4080 7); finds = finds }

-- zero bytes but for one, at an offset, read for a scope
abbrev pub marked : ℕ → ℕ → Reading Operation ℕ → ReadingCase
marked scope at finds = record { scope = scope; area = replicate at 0 ++ (1 ∷ replicate (4095 - at) 0); finds = finds }

abbrev pub reading_cases : List ReadingCase
reading_cases =
    -- "20 not 4,096 bytes (offset 0)"
    record { scope = 1; area = replicate 4095 0; finds = refused 20 0 }
    -- "21 bytes 4 to 15 not zero (offset 4)"; 02: "in scope 3 only bytes 12 to 15 .. (21 at offset 12)"
    ∷ marked 1 4 (refused 21 4)
    ∷ marked 3 12 (refused 21 12)
    -- "word zero ends the list"
    ∷ area (0 ∷ []) (read [])
    ∷ area (0x0100_0001 ∷ 0 ∷ 0x0200_0001 ∷ 8 ∷ 0x0300_0002 ∷ 9 ∷ 10 ∷ 0 ∷ []) (read (Delete 0 ∷ Update 8 ∷ Add 9 10 ∷ []))
    -- "22 opcode not 1 to 3"
    ∷ area (0x0400_0001 ∷ 8 ∷ 0 ∷ []) (refused 22 16)
    -- 02: "A non-zero word whose low three bytes are zero is passed over whatever its opcode, and takes no part in the order test."
    ∷ area (0x0400_0000 ∷ 0 ∷ []) (read [])
    ∷ area (0x0300_0000 ∷ 0x0200_0001 ∷ 8 ∷ 0x0100_0000 ∷ 0x0200_0001 ∷ 9 ∷ 0 ∷ []) (read (Update 8 ∷ Update 9 ∷ []))
    -- "25 odd count for opcode 3"
    ∷ area (0x0300_0001 ∷ 8 ∷ 0 ∷ []) (refused 25 16)
    -- "26 opcode lower than an earlier one": an update after an addition
    ∷ area (0x0300_0002 ∷ 8 ∷ 9 ∷ 0x0200_0001 ∷ 10 ∷ 0 ∷ []) (refused 26 28)
    -- "24 operands past the end", "27 the area ends without a terminator (offset 4096)"
    ∷ area (0x0100_03fc ∷ []) (refused 24 16)
    ∷ area (0x0100_03fb ∷ []) (refused 27 4096)
    -- a full area, of 1,018 deletes
    ∷ area (0x0100_03fa ∷ (replicate 1018 8 ++ (0 ∷ []))) (read (replicate 1018 (Delete 8)))
    ∷ []

abbrev pub ReadingCases : Type 0
ReadingCases = map (λ (c : ReadingCase). numbered (reading c.scope c.area)) reading_cases ≡ map (λ (c : ReadingCase). c.finds) reading_cases
