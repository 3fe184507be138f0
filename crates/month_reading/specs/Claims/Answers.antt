-- What is claimed of the answers of writing and reading, over all inputs. Part of the promise of the exports of a month's table.
use Rattle.std.specs.Prelude.{ℕ, ◌+◌, ◌*◌, ◌/◌, ◌%◌, ◌≤◌, ◌<◌, min, ◌≡◌, List, length, take, get_or, replicate}
use Rattle.std.proofs.lemmas.List.Edits.{sets}
use Rattle.words.specs.Numbers.{Bytes}
use Rattle.words.specs.Claims.Exactly.{Exactly}
use Rattle.month_table.specs.Table.{rows_from, text}
use Rattle.month_table.specs.Reading.{wrong, reading}
use Rattle.month_table.specs.Claims.MonthTable.{Written, TableClaims}
use Rattle.month_table.specs.Writing.{written_to, buffer_after}
use Rattle.month_reading.specs.Answers.{no_table, read_of, digests_after}

-- 62 exactly if the digests are not whole; else 60 exactly if the buffer is shorter than the text; else 0.
pub record WritingExactly : Type 0 where
  pub not_whole : (figures digests : List ℕ) (room : ℕ) → Exactly ((written_to figures digests room).number ≡ 62) (length digests % 32 ≡ 0 → ⊥)
  pub short : (figures digests : List ℕ) (room : ℕ)
      → Exactly ((written_to figures digests room).number ≡ 60) ((length digests % 32 ≡ 0) × (room < length (text figures digests)))
  pub done : (figures digests : List ℕ) (room : ℕ)
      → Exactly ((written_to figures digests room).number ≡ 0) ((length digests % 32 ≡ 0) × (length (text figures digests) ≤ room))
  -- the length that is told
  pub none_told : (figures digests : List ℕ) (room : ℕ) → (written_to figures digests room).number ≡ 62 → (written_to figures digests room).length ≡ 0
  pub needed : (figures digests : List ℕ) (room : ℕ)
      → (written_to figures digests room).number ≡ 60 → (written_to figures digests room).length ≡ min (length (text figures digests)) 0xffff_ffff_ffff_ffff
  pub size : (figures digests : List ℕ) (room : ℕ) → (written_to figures digests room).number ≡ 0
      → (written_to figures digests room).length ≡ length (text figures digests)
  pub sizes : (figures digests : List ℕ) (n : ℕ) → length digests ≡ 32 * n → length (text figures digests) ≡ 19 + length (rows_from 39 0 figures) + 75 * n
  -- the buffer
  pub kept : (figures digests out : List ℕ) → ((written_to figures digests (length out)).number ≡ 0 → ⊥) → buffer_after figures digests out ≡ out
  pub front : (figures digests out : List ℕ)
      → (written_to figures digests (length out)).number ≡ 0 → take (length (text figures digests)) (buffer_after figures digests out) ≡ text figures digests
  pub rest : (figures digests out : List ℕ) (k : ℕ) → length (text figures digests) ≤ k → get_or (buffer_after figures digests out) k 0 ≡ get_or out k 0
  pub same_length : (figures digests out : List ℕ) → length (buffer_after figures digests out) ≡ length out

-- a text that is written for these figures
pub record TextOf (t figures : List ℕ) : Type 0 where
  pub digests : List ℕ
  pub written : Written figures digests
  pub same : t ≡ text figures digests

-- 61 exactly if the text is that of no figures and digests; else 60 exactly if the buffer is too short for the digests; else 0.
pub record ReadingExactly : Type 0 where
  pub done : (figures digests buffer : List ℕ) → Written figures digests → length digests ≤ length buffer
      → (read_of (reading (text figures digests)) (length buffer)
      ≡ record { number = 0; line = 0; sessions = length digests / 32; table = record { figures = figures } })
      × (digests_after (reading (text figures digests)) buffer ≡ sets buffer 0 digests)
  pub short : (figures digests buffer : List ℕ) → Written figures digests → length buffer < length digests
      → (read_of (reading (text figures digests)) (length buffer) ≡ no_table 60 0 (length digests / 32))
      × (digests_after (reading (text figures digests)) buffer ≡ buffer)
  pub short_in_full : (figures digests buffer : List ℕ) → Written figures digests → length buffer < length digests
      → (read_of (reading (text figures digests)) (length buffer)
      ≡ record { number = 60; line = 0; sessions = length digests / 32; table = record { figures = replicate 39 0 } })
      × (digests_after (reading (text figures digests)) buffer ≡ buffer)
  pub other : (t buffer : List ℕ) → Bytes t → ((figures : List ℕ) → TextOf t figures → ⊥)
      → (read_of (reading t) (length buffer) ≡ no_table 61 (read_of (reading t) (length buffer)).line 0)
      × (digests_after (reading t) buffer ≡ buffer)
  pub other_number : (t buffer : List ℕ) → Bytes t → ((figures : List ℕ) → TextOf t figures → ⊥)
      → ((read_of (reading t) (length buffer)).number ≡ 61) × (digests_after (reading t) buffer ≡ buffer)
  -- the line that is wrong
  pub line : (t : List ℕ) (room n : ℕ) → reading t ≡ wrong n → read_of (reading t) room
      ≡ record { number = 61; line = n; sessions = 0; table = record { figures = replicate 39 0 } }
  -- the figures that are told are those of the text
  pub figures : (t : List ℕ) (room : ℕ) → Bytes t → (read_of (reading t) room).number ≡ 0 → TextOf t (read_of (reading t) room).table.figures

pub record AnswerClaims : Type 0 where
  pub tables : TableClaims
  pub writes : WritingExactly
  pub reads : ReadingExactly
