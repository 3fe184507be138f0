-- Readings of update-properties on both sides of its lines (document 02, M-103), cited by the contract of `call`. Each case is a test of what one call leaves.
use Rattle.std.specs.Prelude.{ℕ, ◌+◌, Bool, ◌&&◌, List, [], ◌∷◌, ◌++◌, T, eqb, replicate}
use Rattle.words.specs.Claims.Cases.{same, every}
use Rattle.words.specs.Numbers.{be32, word_bytes}
use Rattle.journal.specs.Claims.Journal.{short, property}
use Rattle.property_area.specs.Reading.{reading}
use Rattle.dump.specs.declared.registration.Phase.TheVariants.{Unregistered}
use Rattle.calls.specs.Buffer.{Left, call_of}
use Rattle.calls.specs.Claims.Terms.{minus}
use Rattle.calls.specs.Cases.Readings.{at_rest, called, reads, nodes, none}

-- a call of a scope over an area with these first four words and sevens after them
abbrev pub update_properties : List ℕ → ℕ → List ℕ → Left
update_properties j scope head = called (4 ∷ 2 ∷ 1 ∷ 0 ∷ scope ∷ 9 ∷ []) (word_bytes head ++ replicate 4080 7) j [] Unregistered

-- the node 42 is answered from a state on: the status, the properties that the area reads as, the state left
abbrev pub answers : List ℕ → ℕ → ℕ → ℕ → ℕ → Bool
answers j state status n next =
    let x = update_properties j 1 (42 ∷ state ∷ 0 ∷ 0 ∷ []) in
    eqb (be32 x.args 20) status && (reads n (reading x.memory) && (eqb (be32 x.memory 0) 42 && eqb (be32 x.memory 4) next))

-- a call over an area with these first words is refused: the status
abbrev pub refuses : List ℕ → ℕ → List ℕ → ℕ → Bool
refuses j scope head status = eqb (be32 (update_properties j scope head).args 20) status

-- a property of the node 42 with a name of one letter and a value of n bytes, ten bytes and the value; a deleted one; a name of so many letters and no value
abbrev pub update : ℕ → List ℕ
update n = property (8 + n) 5 1 (0 ∷ replicate n 7)

abbrev pub deletion : List ℕ
deletion = property 8 6 1 (0 ∷ [])

abbrev pub named : ℕ → List ℕ
named letters = property (7 + letters) 5 letters (0 ∷ [])

-- a property of the node 43 with a value of n bytes
abbrev pub other : ℕ → List ℕ
other n = (8 + n) ∷ 0 ∷ 5 ∷ 0 ∷ 43 ∷ 0 ∷ 0 ∷ 0 ∷ 65 ∷ 0 ∷ replicate n 7

-- Bytes, so that no definition stands between a case and the paper: of the node 0x01020304 the property AB with the value 1, 2, 3, of another node one of the
-- same name, and a deletion of C. The area has the phandle, state 0, eight zero bytes, the number of properties, then name, NUL, descriptor and value of each.
abbrev pub journal_bytes : List ℕ
journal_bytes =
    (12 ∷ 0 ∷ 5 ∷ 0 ∷ 4 ∷ 3 ∷ 2 ∷ 1 ∷ 65 ∷ 66 ∷ 0 ∷ 1 ∷ 2 ∷ 3 ∷ [])
    ++ ((10 ∷ 0 ∷ 5 ∷ 0 ∷ 4 ∷ 3 ∷ 2 ∷ 2 ∷ 65 ∷ 66 ∷ 0 ∷ 9 ∷ []) ++ (8 ∷ 0 ∷ 6 ∷ 0 ∷ 4 ∷ 3 ∷ 2 ∷ 1 ∷ 67 ∷ 0 ∷ []))

abbrev pub whole_bytes : Left
whole_bytes =
    call_of (at_rest (0 ∷ 0 ∷ 0 ∷ 4 ∷ 0 ∷ 0 ∷ 0 ∷ 2 ∷ 0 ∷ 0 ∷ 0 ∷ 1 ∷ 0 ∷ 0 ∷ 0 ∷ 0 ∷ 255 ∷ 255 ∷ 255 ∷ 255 ∷ 9 ∷ 9 ∷ 9 ∷ 9 ∷ [])
    ((1 ∷ 2 ∷ 3 ∷ 4 ∷ replicate 12 0) ++ replicate 4080 7) journal_bytes [] none)

abbrev pub whole_area : List ℕ
whole_area =
    (1 ∷ 2 ∷ 3 ∷ 4 ∷ 0 ∷ 0 ∷ 0 ∷ 0 ∷ replicate 8 0) ++ ((0 ∷ 0 ∷ 0 ∷ 2 ∷ [])
    ++ ((65 ∷ 66 ∷ 0 ∷ 0 ∷ 0 ∷ 0 ∷ 3 ∷ 1 ∷ 2 ∷ 3 ∷ []) ++ ((67 ∷ 0 ∷ 128 ∷ 0 ∷ 0 ∷ 0 ∷ []) ++ replicate 4060 7)))

abbrev pub cases : List Bool
cases =
    same whole_bytes.memory whole_area
    ∷ eqb (be32 whole_bytes.args 20) 0
    -- a value that fits to the last byte, and one byte more
    ∷ answers (update 4070) 0 0 1 0
    ∷ answers (update 4071) 0 1 1 4080
    -- "dividing only the last value, and only if a byte of it fits": room for one byte, and for none
    ∷ answers (update 4063 ++ update 2) 0 1 2 4084
    ∷ answers (update 4064 ++ update 1) 0 1 1 4074
    -- "names have 1 to 31 non-zero bytes"
    ∷ refuses (named 32) 1 (42 ∷ 0 ∷ 0 ∷ 0 ∷ []) (minus 1)
    -- "a phandle that no kind 5 or 6 record carries", "non-zero reserved bytes", "a state that this node's session never carries"; a scope that
    -- update-nodes refuses
    ∷ refuses (other 5) 1 (42 ∷ 0 ∷ 0 ∷ 0 ∷ []) (minus 3)
    ∷ refuses (update 3) 1 (42 ∷ 0 ∷ 0 ∷ 1 ∷ []) (minus 3)
    ∷ refuses (update 4071) 1 (42 ∷ 4079 ∷ 0 ∷ 0 ∷ []) (minus 3)
    ∷ refuses (update 3) 4 (42 ∷ 0 ∷ 0 ∷ 0 ∷ []) (minus 3)
    -- "Node updates pass over kinds 5 and 6."
    ∷ nodes (update 3 ++ (short 8 2 10 ++ deletion)) 1 0 0 1 0
    ∷ []

abbrev pub PropertyReadings : Type 0
PropertyReadings = T (every cases)
