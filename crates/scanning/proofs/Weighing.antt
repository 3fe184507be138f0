-- What a good record adds to the packed counts.
use Rattle.std.proofs.Common.{◌≡◌, ℕ, ◌+◌, ◌-◌, ◌^◌, ◌≤◌, Bool, true, false, cond, ◌&&◌, eqb, List, length, get_or, drop, sym, refl, ap, ◌∙◌, arith, eqb-true}
use mathlib.Core.Bool.{and-true, and-false}
use Rattle.words.specs.Numbers.{le}
use Rattle.records.specs.Records.{kind_of, first_record}
use Rattle.records.proofs.Choosing.{one_if_lem}
use Rattle.journal.specs.declared.scope.Units.{Units}
use Rattle.journal.specs.declared.scope.Units.TheVariants.{All, One}
use Rattle.journal.specs.declared.judging.Shape.{Shape}
use Rattle.journal.specs.Journal.{largest_type, IsOpcode, entry_of}
use Rattle.journal.specs.Scope.{holds, Selection}
use Rattle.journal.specs.Reportable.{asks, reports}
use Rattle.journal.specs.Marks.{count_limit, count}
use Rattle.journal.specs.Terms.{opcode_for, node_here, shape_at, tallied}
use Rattle.scanning.specs.Inner.Terms.{largest_weight, Weighed}
use Rattle.words.proofs.Choice.{choose}
use Rattle.journal.proofs.Opcodes.{each-code, kind_opcode}
use Rattle.journal.proofs.RecordLaws.{good_size_lem, good_fits, good_kind, good_node_lem, good_reports}

-- one operation of a kind counts under its own opcode alone
count_one : (kind code : ℕ) → IsOpcode kind → IsOpcode code → count code (count_limit ^ (kind - 1)) ≡ one_if_lem (eqb kind code)
count_one kind code o = each-code (λ (k : ℕ). (c : ℕ) → IsOpcode c → count c (count_limit ^ (k - 1)) ≡ one_if_lem (eqb k c))
    (each-code (λ (c : ℕ). count c (count_limit ^ (1 - 1)) ≡ one_if_lem (eqb 1 c)) refl refl refl)
    (each-code (λ (c : ℕ). count c (count_limit ^ (2 - 1)) ≡ one_if_lem (eqb 2 c)) refl refl refl)
    (each-code (λ (c : ℕ). count c (count_limit ^ (3 - 1)) ≡ one_if_lem (eqb 3 c)) refl refl refl) kind o code

count-zero : (code : ℕ) → IsOpcode code → count code 0 ≡ 0
count-zero = each-code (λ (c : ℕ). count c 0 ≡ 0) refl refl refl

-- the weight of an opcode, where a set holds it
abbrev weight_in : ℕ → ℕ → ℕ
weight_in set op = cond (holds set op) (count_limit ^ (op - 1)) 0

weight_adds : (set op code : ℕ) → IsOpcode op → IsOpcode code → count code (weight_in set op) ≡ one_if_lem (eqb op code && holds set code)
weight_adds set op code of o = go (holds set op) (eqb op code) refl refl
  where
    go : (t u : Bool) → holds set op ≡ t → eqb op code ≡ u → count code (cond (holds set op) (count_limit ^ (op - 1)) 0) ≡ one_if_lem (eqb op code && holds set code)
    go true true p q = rw (p, count_one op code of o, q, ← eqb-true op code q, p)
    go true false p q = rw (p, count_one op code of o, q)
    go false true p q = rw (p, count-zero code o, q, ← eqb-true op code q, p)
    go false false p q = rw (p, count-zero code o, q)

-- at most one operation
abbrev pub Light : ℕ → Type 0
Light w = (count 1 w + count 2 w + count 3 w ≤ 1) × (w ≤ largest_weight)

light_none : Light 0
light_none = (omega arith, omega arith)

pub weight_light : (set op : ℕ) → IsOpcode op → Light (weight_in set op)
weight_light set = each-code (λ (k : ℕ). Light (weight_in set k)) (go 1 1 (omega arith, omega arith)) (go 2 count_limit (omega arith, omega arith)) (go 3 largest_weight (omega arith, omega arith))
  where
    go : (k w : ℕ) → Light w → Light (cond (holds set k) w 0)
    go k w h = choose (holds set k) Light {x = w} {y = 0} (λ _. h) (λ _. light_none)

-- ---- a record with its weight

module _ (sel : Selection) (j : List ℕ) (at size weight : ℕ) (g : Weighed sel j at size weight) where
  pub weighed_size : (10 ≤ size) × (size ≤ 18)
  weighed_size = rw g.size_is at (good_size_lem j at g.good)

  pub weighed_fits : size ≤ length j - at
  weighed_fits = rw g.size_is at (good_fits j at g.good)

  -- its set and its opcode, and whether it is asked for
  abbrev set : ℕ
  set = get_or sel.sets (le 2 j (at + 4)) 0

  abbrev op : ℕ
  op = opcode_for (kind_of (drop at j))

  abbrev wanted : Bool
  wanted = asks sel.units (entry_of (first_record (drop at j)))

  opcode_here : IsOpcode op
  opcode_here = kind_opcode (kind_of (drop at j)) (good_kind j at g.good)

  pub weighed_light : Light weight
  weighed_light = rw g.weight_is (choose wanted Light {x = weight_in set op} {y = 0} (λ _. weight_light set op opcode_here) (λ _. light_none))

  pub weighed_adds : (code : ℕ) → IsOpcode code → count code weight ≡ one_if_lem (reports sel code (entry_of (first_record (drop at j))))
  weighed_adds code o = rw (g.weight_is, good_reports j at g.good sel code) (go wanted)
    where
      go : (t : Bool) → count code (cond t (weight_in set op) 0) ≡ one_if_lem ((eqb op code && holds set code) && t)
      go true = weight_adds set op code opcode_here o ∙ ap one_if_lem (sym (and-true (eqb op code && holds set code)))
      go false = count-zero code o ∙ ap one_if_lem (sym (and-false (eqb op code && holds set code)))

-- the bounds of a judged record's shape, by which its weight stands in the table
pub shape_bounds : (j : List ℕ) (at : ℕ) → node_here j at ≡ true → (s : Shape) → s ≡ shape_at j at → (s.kind ≤ 4) × (s.node ≤ largest_type)
shape_bounds j at good s e = rw e ((good_kind j at good).high, good_node_lem j at good)

-- ---- units

-- none, and two more
pub asked_none : (units : Units) → tallied units 0 0 ≡ 0
asked_none All = refl
asked_none (One wanted) = refl

pub tally_two : (units : Units) (passed same a b : ℕ) → tallied units passed same + (tallied units 1 a + tallied units 1 b) ≡ tallied units (passed + 2) (same + (a + b))
tally_two All passed same a b = refl
tally_two (One wanted) passed same a b = refl
