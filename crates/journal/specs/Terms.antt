-- Terms of the contracts by which records of nodes are judged, units asked for and marks sought, for the walk and for the scan above; no promise of a
-- call cites them.
use Rattle.std.specs.Prelude.{ℕ, ◌+◌, ◌≤◌, Bool, Option, Some, None, cond, ◌&&◌, List, leb, eqb, drop}
use Rattle.words.specs.Numbers.{le16}
use Rattle.records.specs.Records.{kind_of, size_of, first_record, whole}
use Rattle.journal.specs.declared.judging.Shape.{Shape}
use Rattle.journal.specs.declared.scope.Units.{Units}
use Rattle.journal.specs.declared.scope.Units.TheVariants.{All, One}
use Rattle.journal.specs.Journal.{good_node, entry_of}
use Rattle.journal.specs.Reportable.{asks}

-- the four kinds of records of nodes, and the opcode of each
pub record IsKind (kind : ℕ) : Type 0 where
  pub low : 1 ≤ kind
  pub high : kind ≤ 4

abbrev pub opcode_for : ℕ → ℕ
opcode_for kind = cond (eqb kind 4) 2 kind

-- a good record of a node stands at a place
abbrev pub node_here : List ℕ → ℕ → Bool
node_here j at = whole (first_record (drop at j)) && good_node (first_record (drop at j))

-- its size, kind and node type
abbrev pub shape_at : List ℕ → ℕ → Shape
shape_at j at = record { size = size_of (drop at j); kind = kind_of (drop at j); node = le16 j (at + 4) }

-- what the code tells of it, where it is of a kind up to this
abbrev pub verdict_at : ℕ → List ℕ → ℕ → Option Shape
verdict_at most j at = cond (leb (kind_of (drop at j)) most && node_here j at) (Some (shape_at j at)) None

-- the unit that is wanted, where one is
abbrev pub wanted_of : Units → ℕ
wanted_of All = 0
wanted_of (One wanted) = wanted

-- of so many records those that are asked for, where so many are of the unit wanted
abbrev pub tallied : Units → ℕ → ℕ → ℕ
tallied All passed same = passed
tallied (One wanted) passed same = same

-- what is left of a weight where the record at a place is of a unit that is not asked for
abbrev pub asked : Units → List ℕ → ℕ → ℕ → ℕ
asked units j at weight = cond (asks units (entry_of (first_record (drop at j)))) weight 0
