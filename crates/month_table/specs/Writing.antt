-- Writing a table into a buffer that is lent: what is answered, and what the buffer holds afterwards.
use Rattle.std.specs.Prelude.{ℕ, ◌%◌, min, Bool, cond, ◌&&◌, List, ltb, leb, eqb, length}
use Rattle.std.proofs.lemmas.List.Edits.{sets}
use Rattle.month_table.specs.declared.writing.Written.{Written}
use Rattle.month_table.specs.Table.{text}

-- digests of 32 bytes each
abbrev pub are_whole : List ℕ → Bool
are_whole digests = eqb (length digests % 32) 0

abbrev pub answer : ℕ → ℕ → Written
answer number size = record { number = number; length = size }

-- 62 if the digests are not whole; 60 and the length that is needed, 2^64 - 1 if it is larger, if the buffer is shorter than the text; else 0 and the
-- text's length.
unfoldable pub written_to : List ℕ → List ℕ → ℕ → Written
written_to figures digests room =
    cond (are_whole digests)
    (cond (ltb room (length (text figures digests))) (answer 60 (min (length (text figures digests)) 0xffff_ffff_ffff_ffff))
    (answer 0 (length (text figures digests))))
    (answer 62 0)

-- The text from the front of the buffer on, and every byte after it as before; or the buffer as before.
unfoldable pub buffer_after : List ℕ → List ℕ → List ℕ → List ℕ
buffer_after figures digests out =
    cond (are_whole digests && leb (length (text figures digests)) (length out)) (sets out 0 (text figures digests)) out
