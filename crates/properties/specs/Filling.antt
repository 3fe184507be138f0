-- One area: what it holds of the changes that are due, and what is due after it (document 02, M-103).
use Rattle.std.specs.Prelude.{ℕ, ◌+◌, ◌-◌, Bool, true, false, cond, not, ◌&&◌, List, [], ◌∷◌, ◌++◌, leb, ltb, eqb, length}
use Rattle.property_area.specs.Piece.{Property, Piece}
use Rattle.properties.specs.Changes.{Change, property, before, from}

-- the bytes of an area behind its head of twenty
abbrev pub area_room : ℕ
area_room = 4076

-- the bytes of a name with its NUL and the descriptor, and of a whole change with them
abbrev pub header : Change → ℕ
header c = length c.name + 5

abbrev pub whole : Change → ℕ
whole c = header c + length c.value

pub record Filled : Type 0 where
  pub pieces : List Piece
  pub due : List Change

-- 02: "A call hands out all that fits, dividing only the last value, and only if a byte of it fits"
unfoldable pub fill : ℕ → List Change → Filled
fill room [] = record { pieces = []; due = [] }
fill room (c ∷ cs) =
    let s = c.start + (room - header c) in
    let rest = fill (room - whole c) cs in
    cond (leb (whole c) room) (record { pieces = record { part = property c; more = false } ∷ rest.pieces; due = rest.due })
    (cond (ltb (header c) room) (record { pieces = record { part = before s c; more = true } ∷ []; due = from s c ∷ cs })
    (record { pieces = []; due = c ∷ cs }))

-- 02: "with a value divided between calls counted as its joined bytes"; 001: "The data value strings for a given property name are concatenated until the
-- final updated property value descriptor is processed."
unfoldable pub same : List ℕ → List ℕ → Bool
same [] [] = true
same [] (b ∷ m) = false
same (a ∷ l) [] = false
same (a ∷ l) (b ∷ m) = eqb a b && same l m

unfoldable pub onto : Property → List Property → List Property
onto p [] = p ∷ []
onto p (q ∷ qs) =
    cond (not q.deleted && same p.name q.name) (record { name = p.name; deleted = p.deleted; value = p.value ++ q.value } ∷ qs) (p ∷ q ∷ qs)

unfoldable pub joined : List Piece → List Property
joined [] = []
joined (p ∷ ps) = cond p.more (onto p.part (joined ps)) (p.part ∷ joined ps)

-- the sum of name + 5 + value bytes
unfoldable pub weight : List Property → ℕ
weight [] = 0
weight (p ∷ ps) = length p.name + 5 + length p.value + weight ps

-- the parts as they stand in an area: their weight is the bytes that they fill
unfoldable pub parts : List Piece → List Property
parts [] = []
parts (p ∷ ps) = p.part ∷ parts ps
