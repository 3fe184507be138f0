-- Reading a table with a buffer that is lent for the digests: what is answered, and what the buffer holds afterwards.
use Rattle.std.specs.Prelude.{ℕ, ◌/◌, cond, List, ltb, length, replicate}
use Rattle.std.proofs.lemmas.List.Edits.{sets}
use Rattle.month_reading.specs.declared.reading.Read.{Read}
use Rattle.month_table.specs.Reading.{Table, table, wrong}

-- no figure, and no more than this is answered
abbrev pub no_table : ℕ → ℕ → ℕ → Read
no_table number line sessions = record { number = number; line = line; sessions = sessions; table = record { figures = replicate 39 0 } }

-- 61 and the line that is wrong; 60 and the number of sessions if the buffer is too short for their digests; else 0, the number of sessions and the figures.
unfoldable pub read_of : Table → ℕ → Read
read_of (wrong line) room = no_table 61 line 0
read_of (table figures digests) room =
    cond (ltb room (length digests)) (no_table 60 0 (length digests / 32))
    (record { number = 0; line = 0; sessions = length digests / 32; table = record { figures = figures } })

-- The digests from the front of the buffer on, and every byte after them as before; or the buffer as before.
unfoldable pub digests_after : Table → List ℕ → List ℕ
digests_after (wrong line) buffer = buffer
digests_after (table figures digests) buffer = cond (ltb (length buffer) (length digests)) buffer (sets buffer 0 digests)
