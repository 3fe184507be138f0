-- The journal's records (document 01, "Journal and inventory").
use Rattle.std.specs.Prelude.{ℕ, ◌≤◌, Bool, cond, ◌&&◌, ◌||◌, List, [], ◌∷◌, map, leb, eqb}
use Rattle.words.specs.Numbers.{le, le16, le32}
use Rattle.records.specs.Records.{length_of, kind_of, records, well_formed_by, size_limit}
use Rattle.journal.specs.Property.{good_property}
use Rattle.journal.specs.declared.operation.Opcode.{Opcode}
use Rattle.journal.specs.declared.operation.Opcode.TheVariants as codes
use Rattle.journal.specs.declared.operation.Operation.{Operation}
use Rattle.journal.specs.declared.operation.Operation.TheVariants.{Delete, Update, Add}

abbrev pub within : ℕ → ℕ → ℕ → Bool
within a b n = leb a n && leb n b

-- 01: "kinds 1 (delete) and 2 (update) hold a two-byte node type and a phandle, length 8; kind 3 (add) holds node type, parent phandle and drc-index,
-- length 12."
-- 02, M-100: "Journal kind 4 holds type, an eight-byte unit address and a phandle, length 16"
unfoldable pub good_frame : ℕ → ℕ → Bool
good_frame len kind = (eqb kind 1 && eqb len 8) || ((eqb kind 2 && eqb len 8) || ((eqb kind 3 && eqb len 12) || (eqb kind 4 && eqb len 16)))

unfoldable pub node_type : List ℕ → ℕ
node_type r = le16 r 4

-- 01: "Node types: 1 root, .. 14 memory-utilization instrumentation."; 02: "Node types 15 (coherent platform facility) and 16 (function)"
abbrev pub largest_type : ℕ
largest_type = 16

-- 02: "for these types alone; .. these types in kinds 1 to 3 are malformed."
abbrev pub good_type : ℕ → ℕ → Bool
good_type kind node = cond (eqb kind 4) (within 15 largest_type node) (within 1 14 node)

-- a good record of a node: the frame, then the body
unfoldable pub good_node : List ℕ → Bool
good_node r = good_frame (length_of r) (kind_of r) && good_type (kind_of r) (node_type r)

-- 01: "Any other kind, length, node type or flag .. is malformed." 02, M-103: kinds 5 and 6 tell of properties
unfoldable pub good_record : List ℕ → Bool
good_record r = good_node r || good_property r

-- 01: "Journal, at most 1,048,576 bytes", "Records fill the buffer exactly."
unfoldable pub well_formed : List ℕ → Bool
well_formed j = well_formed_by size_limit good_record j

-- 01: "An operation is an opcode (1 delete, 2 update, 3 add) with its operands: the phandle, or for an addition the parent phandle and the drc-index."
abbrev pub opcode : Operation → ℕ
opcode (Delete p) = 1
opcode (Update p) = 2
opcode (Add p i) = 3

abbrev pub number : Opcode → ℕ
number codes.Delete = 1
number codes.Update = 2
number codes.Add = 3

pub record IsOpcode (code : ℕ) : Type 0 where
  pub low : 1 ≤ code
  pub high : code ≤ 3

abbrev pub operands : Operation → List ℕ
operands (Delete p) = p ∷ []
operands (Update p) = p ∷ []
operands (Add p i) = p ∷ i ∷ []

-- the operation of a record of kinds 1 to 4; 02, of kind 4: "it is an update". For the others nothing looks at it.
unfoldable pub operation_of : List ℕ → Operation
operation_of r =
    cond (eqb (kind_of r) 1) (Delete (le32 r 6))
    (cond (eqb (kind_of r) 2) (Update (le32 r 6))
    (cond (eqb (kind_of r) 3) (Add (le32 r 6) (le32 r 10))
    (Update (le32 r 14))))

-- the unit address of a record of kind 4; 0 for the others, where nothing looks at it
unfoldable pub unit_of : List ℕ → ℕ
unit_of r = cond (eqb (kind_of r) 4) (le 8 r 6) 0

-- a journal's operations, each with its node type and its unit; records of kinds 5 and 6 have no node type, and there it is 0
pub record Entry : Type 0 where
  pub node : ℕ
  pub unit : ℕ
  pub operation : Operation

abbrev pub entry_of : List ℕ → Entry
entry_of r = record { node = cond (leb 5 (kind_of r)) 0 (node_type r); unit = unit_of r; operation = operation_of r }

unfoldable pub entries : List ℕ → List Entry
entries j = map entry_of (records j)
