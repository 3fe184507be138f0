-- What one record adds to a node's changes, and what an area holds of them, exactly when (document 02, M-103). Cited by the contract of `answer`.
use Rattle.std.specs.Prelude.{ℕ, suc, ◌+◌, ◌-◌, ◌<◌, ◌≤◌, min, ◌≡◌, true, false, List, [], ◌∷◌, ◌++◌, ◌⊎◌, length, take, drop}
use Rattle.words.specs.Numbers.{le}
use Rattle.words.specs.Claims.Exactly.{Exactly, Named}
use Rattle.records.specs.Records.{records, whole}
use Rattle.property_area.specs.Piece.{Property, Piece}
use Rattle.properties.specs.Changes.{Change, changes_from, changes, is_due, properties, due_at, up_to, offset_or}
use Rattle.properties.specs.Filling.{fill, weight, parts, joined}
use Rattle.properties.specs.Session.{after, state}
use Rattle.properties.specs.Claims.Session.{Carried}

-- ---- "the node's changes in journal order"

-- the changes that the records of a buffer hold, of which the first stands at an offset of the journal
abbrev pub changes_in : ℕ → ℕ → List ℕ → List Change
changes_in phandle at b = changes_from phandle at (records b)

-- A whole record at an offset, with bytes after it. "Journal kind 5 holds a phandle, a name with one NUL and a new value to the record's end, kind 6
-- a phandle and a
-- deleted property's name with one NUL"
pub record ChangeExactly (phandle at : ℕ) (r rest : List ℕ) : Type 0 where
  pub changed : le 2 r 2 ≡ 5 → le 4 r 4 ≡ phandle → (name value : List ℕ) → Named 31 (drop 8 r) name value
      → changes_in phandle at (r ++ rest)
      ≡ record { at = at; name = name; deleted = false; start = at + (9 + length name); value = value } ∷ changes_in phandle (at + length r) rest
  pub removed : le 2 r 2 ≡ 6 → le 4 r 4 ≡ phandle → (name : List ℕ) → Named 31 (drop 8 r) name []
      → changes_in phandle at (r ++ rest)
      ≡ record { at = at; name = name; deleted = true; start = at + (9 + length name); value = [] } ∷ changes_in phandle (at + length r) rest
  pub other : (le 2 r 2 < 5) ⊎ (le 4 r 4 ≡ phandle → ⊥) → changes_in phandle at (r ++ rest) ≡ changes_in phandle (at + length r) rest

pub record ChangesExactly : Type 0 where
  pub all : (phandle : ℕ) (j : List ℕ) → changes phandle j ≡ changes_in phandle 0 j
  pub none : (phandle at : ℕ) → changes_in phandle at [] ≡ []
  pub each : (phandle at : ℕ) (r rest : List ℕ) → whole r ≡ true → ChangeExactly phandle at r rest

-- ---- "A call hands out all that fits, dividing only the last value, and only if a byte of it fits"

-- the pieces of whole changes
abbrev pub whole_pieces : List Change → List Piece
whole_pieces [] = []
whole_pieces (c ∷ cs) = record { part = record { name = c.name; deleted = c.deleted; value = c.value }; more = false } ∷ whole_pieces cs

-- of one change the first n bytes of its value, and what is then due of it
abbrev pub divided : ℕ → Change → Piece
divided n c = record { part = record { name = c.name; deleted = c.deleted; value = take n c.value }; more = true }

abbrev pub remainder : ℕ → Change → Change
remainder n c = record { at = c.start + n; name = c.name; deleted = c.deleted; start = c.start + n; value = drop n c.value }

-- What `room` bytes hold of changes that are due: whole ones, then a part of the next one or nothing.
pub data AllThatFits (room : ℕ) (cs : List Change) (pieces : List Piece) (due : List Change) : Type 0 where
  -- nothing is left
  all : pieces ≡ whole_pieces cs → due ≡ [] → weight (properties cs) ≤ room → AllThatFits room cs pieces due
  -- n bytes of a value, and at least one, fill the room to its last byte
  some : (before : List Change) (c : Change) (after : List Change) (n : ℕ) → cs ≡ before ++ (c ∷ after) → pieces ≡ whole_pieces before ++ (divided n c ∷ [])
      → due ≡ remainder n c ∷ after → 1 ≤ n → n < length c.value → weight (properties before) + (length c.name + 5 + n) ≡ room
      → AllThatFits room cs pieces due
  -- not a byte of the next value fits, or, if it has none, not its name and descriptor
  none : (before : List Change) (c : Change) (after : List Change) → cs ≡ before ++ (c ∷ after) → pieces ≡ whole_pieces before → due ≡ c ∷ after
      → weight (properties before) ≤ room → room < weight (properties before) + (length c.name + 5 + min 1 (length c.value))
      → AllThatFits room cs pieces due

abbrev pub FillExactly : Type 0
FillExactly = (room : ℕ) (cs : List Change) → AllThatFits room cs (fill room cs).pieces (fill room cs).due

-- ---- a session: what is due after each area and at a state, and what was told before it

pub record DueExactly (s : ℕ) (c : Change) (cs : List Change) : Type 0 where
  -- "the journal offset of the record due": all from a change on that the state does not reach
  pub whole : s ≤ c.at → (due_at s (c ∷ cs) ≡ c ∷ cs) × (up_to s (c ∷ cs) ≡ [])
  -- "or of the value byte due"
  pub within : c.at < s → s < c.start + length c.value
      → due_at s (c ∷ cs) ≡ record { at = s; name = c.name; deleted = c.deleted; start = s; value = drop (s - c.start) c.value } ∷ cs
  pub past : c.at < s → c.start + length c.value ≤ s → due_at s (c ∷ cs) ≡ due_at s cs
  pub told : c.at < s → up_to s (c ∷ cs) ≡ record { name = c.name; deleted = c.deleted; value = take (s - c.start) c.value } ∷ up_to s cs

-- "with a value divided between calls counted as its joined bytes": a part and what follows it
pub record JoinedParts (p : Piece) (q : Property) (ps : List Piece) (qs : List Property) : Type 0 where
  pub whole : p.more ≡ false → joined (p ∷ ps) ≡ p.part ∷ joined ps
  pub last : p.more ≡ true → joined ps ≡ [] → joined (p ∷ ps) ≡ p.part ∷ []
  pub onward : p.more ≡ true → joined ps ≡ q ∷ qs → p.part.name ≡ q.name → q.deleted ≡ false
      → joined (p ∷ ps) ≡ record { name = q.name; deleted = p.part.deleted; value = p.part.value ++ q.value } ∷ qs
  pub other : p.more ≡ true → joined ps ≡ q ∷ qs → (p.part.name ≡ q.name → ⊥) ⊎ (q.deleted ≡ true) → joined (p ∷ ps) ≡ p.part ∷ q ∷ qs

pub record SessionExactly : Type 0 where
  pub first : (cs : List Change) → (after 0 cs ≡ cs) × (state 0 cs ≡ 0)
  pub next : (n : ℕ) (cs : List Change) → (after (suc n) cs ≡ after n (fill 4076 cs).due) × (state (suc n) cs ≡ offset_or 0 (after (suc n) cs))
  pub offset : (e : ℕ) (c : Change) (cs : List Change) → (offset_or e [] ≡ e) × (offset_or e (c ∷ cs) ≡ c.at)
  pub nothing : (s : ℕ) → (due_at s [] ≡ []) × ((up_to s [] ≡ []) × (joined [] ≡ []))
  pub due : (s : ℕ) (c : Change) (cs : List Change) → DueExactly s c cs
  pub joins : (p : Piece) (q : Property) (ps : List Piece) (qs : List Property) → JoinedParts p q ps qs
  pub carried : (cs : List Change) (s : ℕ) → Exactly (Carried cs s) ((n : ℕ) × (is_due (after n cs) ≡ true) × (state n cs ≡ s))
  pub is_due_claim : (is_due [] ≡ false) × ((c : Change) (cs : List Change) → is_due (c ∷ cs) ≡ true)
  pub properties_told : (c : Change) (cs : List Change) → properties (c ∷ cs)
      ≡ record { name = c.name; deleted = c.deleted; value = c.value } ∷ properties cs
  -- the bytes that pieces fill: name, NUL, descriptor and value
  pub no_bytes : weight (parts []) ≡ 0
  pub bytes : (p : Piece) (ps : List Piece) → weight (parts (p ∷ ps)) ≡ length p.part.name + 5 + length p.part.value + weight (parts ps)
