-- Terms of contracts inside the crate.
use Rattle.std.specs.Prelude.{ℕ, ◌+◌, ◌-◌, true, cond, Bool, ◌&&◌, Option, Some, None, List, [], ◌∷◌, reverse, eqb, leb}
use Rattle.std.specs.List.{find}
use Rattle.words.specs.Numbers.{le32}
use Rattle.journal.specs.Scope.{Selection}
use Rattle.journal.specs.Journal.{entries, good_frame, good_type}
use Rattle.journal.specs.Marks.{count}
use Rattle.records.specs.Inner.Terms as choosing
use Rattle.journal.specs.declared.marks.Mark.{Mark}
use Rattle.journal.specs.declared.marks.Place.{Place}
use Rattle.journal.specs.declared.scope.Units.{Units}
use Rattle.journal.specs.declared.scope.Units.TheVariants.{All, One}
use Rattle.journal.specs.Reportable.{reports, operation}

-- The operand words of an opcode that a record ends in: a phandle, or a parent's phandle and a drc-index.
abbrev pub operands_before : List ℕ → ℕ → ℕ → List ℕ
operands_before j code end = cond (eqb code 3) (le32 j (end - 8) ∷ le32 j (end - 4) ∷ []) (le32 j (end - 4) ∷ [])

-- the length of a record of a kind
abbrev pub length_for : ℕ → ℕ
length_for kind = cond (eqb kind 4) 16 (cond (eqb kind 3) 12 8)

-- a record of this length and kind fits where so many bytes are left, and has a good frame
abbrev pub framed_at : ℕ → ℕ → ℕ → Bool
framed_at left len kind = leb (len + 2) left && good_frame len kind

-- a record of this length, kind and node type is good where so many bytes are left
abbrev pub good_at : ℕ → ℕ → ℕ → ℕ → Bool
good_at left len kind node = leb (len + 2) left && (good_frame len kind && good_type kind node)

-- a unit is asked for
abbrev pub is_unit : Units → ℕ → Bool
is_unit All unit = true
is_unit (One wanted) unit = eqb unit wanted

-- n operations of an opcode that a selection reports stand before a place
abbrev pub Before : Selection → List ℕ → ℕ → ℕ → ℕ → Type 0
Before selection j at code n = choosing.Before (reports selection code) operation entries j at n

-- the last of the marks with no more than k operations of an opcode before it
abbrev pub last_before : ℕ → ℕ → List Mark → Option Mark
last_before code k marks = find (λ (m : Mark). leb (count code m.counts) k) (reverse marks)

-- from a mark, or from the start, to operation number k of an opcode
abbrev pub place_from : ℕ → ℕ → Option Mark → Place
place_from code k None = record { at = 0; skip = k }
place_from code k (Some m) = record { at = m.at; skip = k - count code m.counts }

-- where to look for operation number k of an opcode: from the last of the marks with no more than k before it, or from the start.
abbrev pub sought : ℕ → ℕ → List Mark → Place
sought code k marks = place_from code k (last_before code k marks)
