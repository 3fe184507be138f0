-- The changes of a node's properties, in journal order (document 02, M-103).
use Rattle.std.specs.Prelude.{ℕ, ◌+◌, ◌-◌, Bool, false, true, cond, ◌&&◌, List, [], ◌∷◌, leb, ltb, eqb, length, take, drop}
use Rattle.records.specs.Records.{kind_of, records}
use Rattle.journal.specs.Property.{phandle_of, name_of, value_start, value_of}
use Rattle.property_area.specs.Piece.{Property}

-- A change of the node, or what is due of one. `at` is the journal offset that is due: the record's while all of it is. `start` is the offset of the value's
-- first byte; a deletion has no value, and there it is the record's end.
pub record Change : Type 0 where
  pub at : ℕ
  pub name : List ℕ
  pub deleted : Bool
  pub start : ℕ
  pub value : List ℕ

-- the change that a record at an offset holds
abbrev pub change_of : ℕ → List ℕ → Change
change_of at r = record { at = at; name = name_of r; deleted = eqb (kind_of r) 6; start = at + value_start r; value = value_of r }

-- a record of kind 5 or 6 that carries the phandle
unfoldable pub is_of : ℕ → List ℕ → Bool
is_of phandle r = leb 5 (kind_of r) && eqb (phandle_of r) phandle

-- the changes that records hold, of which the first stands at an offset
unfoldable pub changes_from : ℕ → ℕ → List (List ℕ) → List Change
changes_from phandle at [] = []
changes_from phandle at (r ∷ rs) =
    let later = changes_from phandle (at + length r) rs in
    cond (is_of phandle r) (change_of at r ∷ later) later

-- 02: "the node's changes in journal order"
abbrev pub changes : ℕ → List ℕ → List Change
changes phandle j = changes_from phandle 0 (records j)

-- what is told of a change
abbrev pub property : Change → Property
property c = record { name = c.name; deleted = c.deleted; value = c.value }

unfoldable pub properties : List Change → List Property
properties [] = []
properties (c ∷ cs) = property c ∷ properties cs

-- the offset behind its last byte
abbrev pub stop : Change → ℕ
stop c = c.start + length c.value

-- The two parts of a change at the offset s of a value byte: what goes before it, and what is due from it on.
abbrev pub before : ℕ → Change → Property
before s c = record { name = c.name; deleted = c.deleted; value = take (s - c.start) c.value }

abbrev pub from : ℕ → Change → Change
from s c = record { at = s; name = c.name; deleted = c.deleted; start = s; value = drop (s - c.start) c.value }

-- 02: "the node's changes in journal order up to the state": the records before it, and of the record in which it lies the value bytes before it
unfoldable pub up_to : ℕ → List Change → List Property
up_to s [] = []
up_to s (c ∷ cs) =
    let rest = up_to s cs in
    cond (ltb c.at s) (before s c ∷ rest) []

-- what is due at a state: all from a change on that it does not reach, or the rest of one in which it lies
unfoldable pub due_at : ℕ → List Change → List Change
due_at s [] = []
due_at s (c ∷ cs) =
    let later = due_at s cs in
    cond (leb s c.at) (c ∷ cs) (cond (ltb s (stop c)) (from s c ∷ cs) later)

-- something is due
abbrev pub is_due : List Change → Bool
is_due [] = false
is_due (c ∷ cs) = true

-- the offset of what is due, e where nothing is
abbrev pub offset_or : ℕ → List Change → ℕ
offset_or e [] = e
offset_or e (c ∷ cs) = c.at
