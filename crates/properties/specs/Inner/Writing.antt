-- Terms of the contracts of the writer, which no promise of `answer` cites.
use Rattle.std.specs.Prelude.{ℕ, ◌+◌, ◌-◌, ◌≤◌, ◌<◌, ◌≡◌, true, Option, Some, None, unwrap_or, cond, List, [], ◌∷◌, ◌++◌, leb, ltb, length, take, drop}
use Rattle.std.proofs.lemmas.List.Edits.{sets}
use Rattle.words.specs.Numbers.{be_bytes}
use Rattle.records.specs.Records.{size_of, first_record, records, all_good}
use Rattle.journal.specs.Journal.{good_record}
use Rattle.node_area.specs.Head.{area_size}
use Rattle.property_area.specs.Head.{first_at}
use Rattle.property_area.specs.Piece.{deletion, pieces_bytes}
use Rattle.property_area.specs.Area.{written}
use Rattle.properties.specs.declared.writing.Portion.{Portion}
use Rattle.properties.specs.declared.writing.Handed.{Handed}
use Rattle.properties.specs.Changes.{Change, change_of, is_of, changes, from, due_at, offset_or}
use Rattle.properties.specs.Filling.{area_room, Filled, fill}

-- good records stand from a place on, which may be the end
pub record GoodFrom (j : List ℕ) (at : ℕ) : Type 0 where
  pub inside : at ≤ length j
  pub good : all_good good_record (records (drop at j)) ≡ true

-- the place of the next record of the node's changes, among records of which the first stands at a place; their end where there is none
unfoldable pub next_change : ℕ → ℕ → List (List ℕ) → ℕ
next_change phandle at [] = at
next_change phandle at (r ∷ rs) =
    let later = next_change phandle (at + length r) rs in
    cond (is_of phandle r) at later

-- what is due at a state of a change in which it lies, or that it does not reach
abbrev pub due_of : ℕ → Change → Change
due_of s c = cond (leb s c.at) c (from s c)

-- the change of the record at a place
abbrev pub change_at : List ℕ → ℕ → Change
change_at j at = change_of at (first_record (drop at j))

-- what is due of it, where it stands in the journal
abbrev pub portion_at : List ℕ → ℕ → ℕ → Portion
portion_at j at s =
    let c = due_of s (change_at j at) in
    record {
      at = c.at;
      name = at + 8;
      name_length = length c.name;
      deleted = c.deleted;
      value = c.start;
      length = length c.value;
      end = at + size_of (drop at j);
    }

-- the bytes of a piece: its name, the descriptor, and the first n bytes of what is due of its value
abbrev pub stored_bytes : List ℕ → Portion → ℕ → ℕ → List ℕ
stored_bytes j p descriptor n = take p.name_length (drop p.name j) ++ (0 ∷ (be_bytes 4 descriptor ++ take n (drop p.value j)))

abbrev pub last_descriptor : Portion → ℕ
last_descriptor p = cond p.deleted deletion p.length

-- what is due of a change stands in the journal and does not fit an area whole, of which `to` bytes are filled with so many pieces
pub record Unfit (area : List ℕ) (to : ℕ) (j : List ℕ) (p : Portion) (count : ℕ) : Type 0 where
  pub sized : length area ≡ area_size
  pub filled : to ≤ area_size
  pub few : count ≤ to
  pub name : p.name + p.name_length ≤ length j
  pub value : p.value + p.length ≤ length j
  pub over : area_size < to + (p.name_length + 5 + p.length)

-- the last piece of an area: the bytes of the value that fit behind name and descriptor, where there is room for one; what was handed out with it
abbrev pub last_bytes : List ℕ → Portion → ℕ → List ℕ
last_bytes j p room =
    let n = room - (p.name_length + 5) in
    cond (ltb (p.name_length + 5) room) (stored_bytes j p (0x1_0000_0000 - n) n) []

abbrev pub last_handed : Portion → ℕ → ℕ → Handed
last_handed p room count =
    let n = room - (p.name_length + 5) in
    cond (ltb (p.name_length + 5) room) (record { count = count + 1; due = Some (p.value + n) }) (record { count = count; due = Some p.at })

-- the offset of what is due, where something is
abbrev pub first_due : List Change → Option ℕ
first_due [] = None
first_due (c ∷ cs) = Some c.at

-- what is due at the state is handed out: the pieces stand behind the head, and the rest is told
pub record HandsOut (phandle s : ℕ) (j area left : List ℕ) (h : Handed) : Type 0 where
  pub stored : left ≡ sets area first_at (pieces_bytes (fill area_room (due_at s (changes phandle j))).pieces)
  pub counted : h.count ≡ length (fill area_room (due_at s (changes phandle j))).pieces
  pub next : h.due ≡ first_due (fill area_room (due_at s (changes phandle j))).due
  pub few : h.count ≤ area_size
  pub inside : unwrap_or h.due 0 ≤ length j

-- what a call leaves in its area, by what is due after it
abbrev pub answered : List ℕ → ℕ → Filled → List ℕ
answered area phandle f = written area phandle (offset_or 0 f.due) f.pieces
