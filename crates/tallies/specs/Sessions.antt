-- Operations one after the other over one lent buffer (document 02, M-106): "From an empty journal with zero tallies, with nobody else writing
-- either, appending, clearing and every later operation keep them equal to the recount."
use Rattle.std.specs.Prelude.{ℕ, List, take}
use Rattle.tallies.specs.declared.keeping.Tallied.{Tallied}
use Rattle.tallies.specs.Keeping.{Left, nothing, append_of, join_of}

-- What stands between two operations: the buffer, and of it the bytes in use, with their tallies.
pub record Standing : Type 0 where
  pub buffer : List ℕ
  pub journal : Tallied

abbrev pub standing_as : List ℕ → Tallied → Standing
standing_as buffer t = record { buffer = buffer; journal = t }

abbrev pub in_use : Standing → List ℕ
in_use s = take s.journal.used s.buffer

-- "From an empty journal with zero tallies", over any lent buffer
abbrev pub fresh : List ℕ → Standing
fresh buffer = standing_as buffer nothing

-- ---- the operations that there are

abbrev pub left_as : Left → Standing
left_as x = standing_as x.buffer x.next

abbrev pub appending : List ℕ → Standing → Standing
appending r s = left_as (append_of s.buffer s.journal r)

abbrev pub clearing : Standing → Standing
clearing s = standing_as s.buffer nothing

abbrev pub joining : List ℕ → Standing → Standing
joining part s = left_as (join_of s.buffer s.journal part)
