-- Lookups and views on both sides of each line, in bytes, cited by the contracts.
use Rattle.std.specs.Prelude.{ℕ, Bool, ◌&&◌, List, [], ◌∷◌, ◌++◌, T, eqb, replicate}
use Rattle.words.specs.Numbers.{be_bytes}
use Rattle.words.specs.Claims.Cases.{all, same}
use Rattle.indices.specs.Reading.{refusal_number}
use Rattle.locations.specs.declared.lookups.Location.{Location}
use Rattle.locations.specs.declared.lookups.Location.TheVariants as location
use Rattle.locations.specs.declared.lookups.Answer.{Answer}
use Rattle.locations.specs.declared.lookups.Answer.TheVariants as answer
use Rattle.locations.specs.Locations.{location_of, answer_of, code_of}

-- a set of an index and a code of three letters or of four
abbrev pub set3 : ℕ → ℕ → List ℕ
set3 index letter = be_bytes 4 index ++ (be_bytes 4 4 ++ (letter ∷ letter ∷ letter ∷ 0 ∷ []))

abbrev pub set4 : ℕ → ℕ → List ℕ
set4 index letter = be_bytes 4 index ++ (be_bytes 4 8 ++ (letter ∷ letter ∷ letter ∷ letter ∷ 0 ∷ 0 ∷ 0 ∷ 0 ∷ []))

abbrev pub area_of : ℕ → List ℕ → List ℕ
area_of count sets = be_bytes 4 count ++ sets

-- fixed lists: codes A, none, BC, and D without its NUL
abbrev pub list : List ℕ
list = 65 ∷ 0 ∷ 0 ∷ 66 ∷ 67 ∷ 0 ∷ 68 ∷ []

-- a check as a number: 0 found, 1 not found, or that of a refusal; and its byte offset
abbrev pub number : Answer → ℕ
number answer.Found = 0
number answer.NotFound = 1
number (answer.Refused r at) = refusal_number r

abbrev pub offset : Answer → ℕ
offset answer.Found = 0
offset answer.NotFound = 0
offset (answer.Refused r at) = at

-- which buffer: 1 the area, 2 the fixed list, 0 neither; and where in it
abbrev pub buffer : Location → ℕ
buffer (location.Refused r at) = 0
buffer location.NotFound = 0
buffer (location.InArea p) = 1
buffer (location.InFixed p) = 2

abbrev pub place : Location → ℕ
place (location.Refused r at) = 0
place location.NotFound = 0
place (location.InArea p) = p.start
place (location.InFixed p) = p.start

abbrev pub finds : List ℕ → List ℕ → ℕ → ℕ → ℕ → List ℕ → Bool
finds area fixed index which start code =
    let l = location_of area fixed index in
    (eqb (buffer l) which && eqb (place l) start) && (same (code_of area fixed l) code && eqb (number (answer_of l)) 0)

abbrev pub refuses : List ℕ → List ℕ → ℕ → ℕ → ℕ → Bool
refuses area fixed index n at =
    let l = location_of area fixed index in
    (eqb (number (answer_of l)) n && eqb (offset (answer_of l)) at) && (same (code_of area fixed l) [] && eqb (buffer l) 0)

abbrev pub lookups : List Bool
lookups =
    -- an index listed twice, and one that is in the fixed list too
    finds (area_of 2 (set3 7 88 ++ set4 7 89)) [] 7 1 12 (88 ∷ 88 ∷ 88 ∷ [])
    ∷ finds (area_of 1 (set3 0 88)) list 0 1 12 (88 ∷ 88 ∷ 88 ∷ [])
    -- an area that is refused, here after the index or before the fixed list
    ∷ refuses (area_of 2 (set3 7 88)) list 7 31 16
    ∷ refuses (0 ∷ 0 ∷ 0 ∷ []) list 0 30 0
    ∷ refuses (area_of 1 (be_bytes 4 7 ++ be_bytes 4 0)) list 0 32 4
    ∷ refuses (area_of 1 (be_bytes 4 7 ++ (be_bytes 4 4 ++ replicate 4 0))) list 0 33 4
    -- 0xFFFFFFFF listed; fixed entries: an empty one, one with its code, and one without its NUL
    ∷ refuses (area_of 1 (set3 0xffff_ffff 88)) list 0xffff_ffff 1 0
    ∷ refuses (area_of 0 []) list 1 1 0
    ∷ finds (area_of 0 []) list 2 2 3 (66 ∷ 67 ∷ [])
    ∷ refuses (area_of 0 []) list 3 1 0
    ∷ []

abbrev pub LookupReadings : Type 0
LookupReadings = T (all (λ (b : Bool). b) lookups)
