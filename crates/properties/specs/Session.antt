-- The one session of a node, area after area, and the states that it carries (document 02, M-103).
use Rattle.std.specs.Prelude.{ℕ, zero, suc, ◌+◌, ◌-◌, Bool, false, cond, ◌||◌, List, [], ◌∷◌, ◌++◌, leb, ltb, eqb, length}
use Rattle.properties.specs.Changes.{Change, offset_or}
use Rattle.properties.specs.Filling.{area_room, header, fill}

-- what is due after n areas, and the pieces that they hand out
unfoldable pub after : ℕ → List Change → List Change
after zero cs = cs
after (suc n) cs = after n (fill area_room cs).due

-- 02: "state 0 starts a node", "The state is the journal offset of the record due or of the value byte due, and 0 with status 0."
unfoldable pub state : ℕ → List Change → ℕ
state zero cs = 0
state (suc n) cs = offset_or 0 (after (suc n) cs)

-- ---- the same states in one walk over the changes, which carries the room along

-- Where r bytes of a value have room in this area and f in each further one: the offsets at which its l bytes from the offset v on are divided, and the room
-- that is then left behind it.
unfoldable pub cuts : ℕ → ℕ → ℕ → ℕ → List ℕ
cuts f r v zero = []
cuts f zero v (suc l) = v ∷ cuts f (f - 1) (suc v) l
cuts f (suc r) v (suc l) = cuts f r (suc v) l

unfoldable pub room_behind : ℕ → ℕ → ℕ → ℕ
room_behind f r zero = r
room_behind f zero (suc l) = room_behind f (f - 1) l
room_behind f (suc r) (suc l) = room_behind f r l

-- Whether a change with a header of h bytes and a value of l begins in an area with so much room, and how many bytes of its value have room in the area in
-- which it begins.
unfoldable pub begins : ℕ → ℕ → ℕ → Bool
begins room h l = leb (h + l) room || ltb h room

unfoldable pub value_room : ℕ → ℕ → ℕ → ℕ
value_room room h l = cond (begins room h l) room area_room - h

-- The states in one change, whose record is at the offset `at` and whose value is at v: the record's where it does not begin in this area, then those of its
-- value's bytes. And the room that is left behind it.
unfoldable pub stops : ℕ → ℕ → ℕ → ℕ → ℕ → List ℕ
stops room h at v l = cond (begins room h l) [] (at ∷ []) ++ cuts (area_room - h) (value_room room h l) v l

unfoldable pub room_after : ℕ → ℕ → ℕ → ℕ
room_after room h l = room_behind (area_room - h) (value_room room h l) l

unfoldable pub boundaries : ℕ → List Change → List ℕ
boundaries room [] = []
boundaries room (c ∷ cs) =
    stops room (header c) c.at c.start (length c.value) ++ boundaries (room_after room (header c) (length c.value)) cs

unfoldable pub states : List Change → List ℕ
states cs = 0 ∷ boundaries area_room cs

unfoldable pub member : ℕ → List ℕ → Bool
member s [] = false
member s (x ∷ xs) = eqb s x || member s xs
