-- Streams on both sides of each line, in bytes, cited by the contracts of an intake.
use Rattle.std.specs.Prelude.{ℕ, Bool, ◌&&◌, List, [], ◌∷◌, ◌++◌, T, eqb, length, take, replicate}
use Rattle.words.specs.Claims.Cases.{all, same}
use Rattle.records.specs.Cutting.{Standing, fed}
use Rattle.tallies.specs.Keeping.{nothing}
use Rattle.tallies.specs.Cases.Readings.{delete, update, addition, unit, changed, gone, number}
use Rattle.intake.specs.declared.bursts.Ending.{Ending}
use Rattle.intake.specs.declared.bursts.Ending.TheVariants.{Nothing, Unfinished, Malformed, NoRoom, Unfit}
use Rattle.intake.specs.Taking.{Taking, reader}
use Rattle.intake.specs.Bursts.{standing_of, start_of, end_at}

-- an intake over an empty journal in a buffer of so many bytes, given bytes as one burst
abbrev pub stream : ℕ → List ℕ → Standing Taking
stream size b = fed reader (standing_of (replicate size 7) [] (start_of nothing)) b

-- the bytes stored, the fault (0 none, 1 malformed, 2 no room), the record's number, and how many bytes are held
abbrev pub comes : Standing Taking → List ℕ → ℕ → ℕ → ℕ → Bool
comes w stored fault n held =
    (same (take w.state.journal.used w.state.buffer) stored && eqb (number w.state.fault) fault)
    && (eqb w.state.number n && eqb (length w.held) held)

-- an end as a number (0 nothing, 1 malformed, 2 no room, 3 unfinished), with the record's number
abbrev pub end_number : Ending → ℕ
end_number Nothing = 0
end_number (Malformed n) = 1
end_number (NoRoom n) = 2
end_number (Unfinished n) = 3
end_number (Unfit n) = 4

abbrev pub end_record : Ending → ℕ
end_record Nothing = 0
end_record (Malformed n) = n
end_record (NoRoom n) = n
end_record (Unfinished n) = n
end_record (Unfit n) = n

abbrev pub ends : Standing Taking → ℕ → ℕ → Bool
ends w kind n = eqb (end_number (end_at w)) kind && eqb (end_record (end_at w)) n

abbrev pub streams : List Bool
streams =
    comes (stream 90 (delete 10 ++ (update 3 ++ (addition 12 ++ (unit 15 7 ++ (changed ++ gone)))))) (delete 10
    ++ (update 3 ++ (addition 12 ++ (unit 15 7 ++ (changed ++ gone))))) 0 7 0
    -- three bad bytes, and four; the node type waits for the last byte
    ∷ comes (stream 40 (9 ∷ 0 ∷ 1 ∷ [])) [] 0 1 3
    ∷ comes (stream 40 (9 ∷ 0 ∷ 1 ∷ 0 ∷ [])) [] 1 1 0
    ∷ comes (stream 40 (8 ∷ 0 ∷ 1 ∷ 0 ∷ 15 ∷ 0 ∷ 42 ∷ 0 ∷ 0 ∷ [])) [] 0 1 9
    ∷ comes (stream 40 (delete 15)) [] 1 1 0
    -- no room is judged when the record is complete and good: the last byte of room, one short, and a bad record with no room
    ∷ comes (stream 20 (delete 10 ++ update 3)) (delete 10 ++ update 3) 0 3 0
    ∷ comes (stream 19 (delete 10 ++ update 3)) (delete 10) 2 2 0
    ∷ comes (stream 19 (delete 10 ++ delete 15)) (delete 10) 1 2 0
    -- after a fault nothing is taken, also what would fit
    ∷ comes (fed reader (stream 24 (delete 10 ++ unit 15 7)) (update 3)) (delete 10) 2 2 0
    -- what an end says
    ∷ ends (stream 40 (delete 10 ++ (9 ∷ 0 ∷ 1 ∷ []))) 3 2
    ∷ ends (stream 40 (delete 10 ++ (9 ∷ 0 ∷ 1 ∷ 0 ∷ []))) 1 2
    ∷ ends (stream 19 (delete 10 ++ update 3)) 2 2
    ∷ []

abbrev pub IntakeReadings : Type 0
IntakeReadings = T (all (λ (b : Bool). b) streams)
