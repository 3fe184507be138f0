-- What is claimed of the definitions of `Sessions`.
use Rattle.std.specs.Prelude.{ℕ, ◌≤◌, ◌<◌, ◌≡◌, true, List, [], ◌∷◌, ◌⊎◌, length, get_or}
use Rattle.journal.specs.Journal.{well_formed}
use Rattle.tallies.specs.Tallies.{recount_of}
use Rattle.tallies.specs.Sessions.{Standing, in_use}

-- The bytes in use are a well-formed journal, and the tallies equal its recount.
pub record Counted (s : Standing) : Type 0 where
  pub inside : s.journal.used ≤ length s.buffer
  pub well_formed_claim : well_formed (in_use s) ≡ true
  pub tallies : s.journal.tallies ≡ recount_of (in_use s)

-- An operation changes no byte of the buffer but those that it appended.
pub record OnlyAppends (before after : Standing) : Type 0 where
  pub size : length after.buffer ≡ length before.buffer
  pub others : (i : ℕ) → (i < before.journal.used) ⊎ (after.journal.used ≤ i) → get_or after.buffer i 0 ≡ get_or before.buffer i 0

-- What is asked of an operation, whichever it is.
pub record Keeps (operation : Standing → Standing) : Type 0 where
  pub only_appends : (s : Standing) → OnlyAppends s (operation s)
  pub counted : (s : Standing) → Counted s → Counted (operation s)

-- An operation finds the bytes in use, the use and the tallies that the one before it left; bytes behind the use may have changed.
pub record Continues (left found : Standing) : Type 0 where
  pub journal : found.journal ≡ left.journal
  pub bytes : in_use found ≡ in_use left
  pub size : length found.buffer ≡ length left.buffer

-- One operation of a list, with what it finds.
pub record Turn (S : Type 0) : Type 0 where
  pub found : S
  pub operation : S → S

unfoldable pub standing : Standing → List (Turn Standing) → Standing
standing s [] = s
standing s (t ∷ ts) = standing (t.operation t.found) ts

abbrev pub Session : Standing → List (Turn Standing) → Type 0
Session s [] = Unit {0}
Session s (t ∷ ts) = Continues s t.found × (Keeps t.operation × Session (t.operation t.found) ts)
