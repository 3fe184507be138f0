-- What is known of the record at a place by its length, kind and node type, what it adds, and that its header tells as much.
use mathlib.Core.Path.{◌≡◌, refl, sym, ap, ◌∙◌}
use mathlib.Core.Bool.{Bool, true, false, cond, ◌&&◌, ◌||◌, and-false, or-false, false≢true}
use mathlib.Core.List.{List}
use Prim.Native.Nat.{ℕ, ◌+◌, ◌-◌, ◌*◌, ◌/◌, ◌<◌, ◌≤◌}
use native.Mathlib.Omega.{arith}
use lib.Dec.{leb, eqb}
use lib.ListN.{length, get_or, drop}
use borrow.Author.Tests.{le-leb, lt-leb, ne_eqb, leb-true, leb-false, eqb-true, eqb-false}
use Rattle.std.specs.Prelude.{Option, Some, None}
use Rattle.std.proofs.lemmas.Option.{cond_some}
use Rattle.words.specs.Numbers.{le}
use Rattle.records.specs.Records.{length_of, kind_of, size_of, first_record, whole}
use Rattle.records.proofs.Choosing.{one_if_lem, one_if_le}
use Rattle.records.proofs.Steps.{field_at, record_length, record_kind, whole_at}
use Rattle.journal.specs.declared.scope.Units.{Units}
use Rattle.journal.specs.declared.scope.Units.TheVariants.{All, One}
use Rattle.journal.specs.declared.judging.Shape.{Shape}
use Rattle.journal.specs.Journal.{within, largest_type, good_frame, good_type, node_type, good_node, opcode, operation_of, unit_of, entry_of}
use Rattle.journal.specs.Scope.{holds, Selection}
use Rattle.journal.specs.Reportable.{asks, reports}
use Rattle.journal.specs.Terms.{IsKind, opcode_for, node_here, shape_at, verdict_at, wanted_of, tallied, asked}
use Rattle.journal.specs.Inner.Terms.{length_for, framed_at, good_at, is_unit}
use Rattle.words.proofs.Choice.{decide, and_left, and_right}
use Rattle.journal.proofs.Given.{cond_none}
use Rattle.journal.proofs.Opcodes.{kind_1, kind_2, kind_3, kind_4, each_kind}

-- ---- length and kind

-- the length that a kind has
pub frame_is : (len kind : ℕ) → IsKind kind → good_frame len kind ≡ eqb len (length_for kind)
unfolding good_frame
frame_is len = each_kind (λ (k : ℕ). ((eqb k 1 && eqb len 8) || ((eqb k 2 && eqb len 8) || ((eqb k 3 && eqb len 12) || (eqb k 4 && eqb len 16)))) ≡ eqb len (length_for k))
    (or-false (eqb len 8)) (or-false (eqb len 8)) (or-false (eqb len 12)) refl

-- and the code's arithmetic of it
pub length_is : (kind : ℕ) → IsKind kind → 8 + ((kind + 1) / 4 + kind / 4) * 4 ≡ length_for kind
length_is = each_kind (λ (k : ℕ). 8 + ((k + 1) / 4 + k / 4) * 4 ≡ length_for k) refl refl refl refl

pub frame_none : (len kind : ℕ) → (IsKind kind → ⊥) → good_frame len kind ≡ false
unfolding good_frame
frame_none len kind h =
    let other : (k : ℕ) → IsKind k → eqb kind k ≡ false = λ k o. ne_eqb kind k (λ e. h (rw e o)) in
    rw (other 1 kind_1, other 2 kind_2, other 3 kind_3, other 4 kind_4)

frame_short : (len kind : ℕ) → len < 6 → good_frame len kind ≡ false
unfolding good_frame
frame_short len kind h =
    let p : (len ≡ 8 → ⊥) = λ e. omega arith in
    let q : (len ≡ 12 → ⊥) = λ e. omega arith in
    let r : (len ≡ 16 → ⊥) = λ e. omega arith in
    simp (ne_eqb len 8 p, ne_eqb len 12 q, ne_eqb len 16 r, and-false)

-- what a good frame is: one of the four kinds, with its length
pub record Framed (len kind : ℕ) : Type 0 where
  pub of : IsKind kind
  pub length_is : len ≡ length_for kind
  pub large : 8 ≤ len
  pub small : len ≤ 16

pub framed : (len kind : ℕ) → good_frame len kind ≡ true → Framed len kind
framed len kind h = go (leb 1 kind) (leb kind 4) refl refl
  where
    no : (IsKind kind → ⊥) → Framed len kind
    no n = let f = frame_none len kind n in let z : ◌≡◌ {A = ℕ} 0 1 = cc in absurd (omega arith)

    bounds : (k : ℕ) → IsKind k → (8 ≤ length_for k) × (length_for k ≤ 16)
    bounds = each_kind (λ (k : ℕ). (8 ≤ length_for k) × (length_for k ≤ 16)) (omega arith) (omega arith) (omega arith) (omega arith)

    go : (a b : Bool) → leb 1 kind ≡ a → leb kind 4 ≡ b → Framed len kind
    go true true p q =
        let of : IsKind kind = record { low = leb-true 1 kind p; high = leb-true kind 4 q } in
        let e = eqb-true len (length_for kind) (sym (frame_is len kind of) ∙ h) in
        record { of = of; length_is = e; large = omega (arith, bounds kind of); small = omega (arith, bounds kind of) }
    go false b p q = no (λ o. omega (arith, leb-false 1 kind p, o.low))
    go true false p q = no (λ o. omega (arith, leb-false kind 4 q, o.high))

-- what a good node type is
pub record Typed (kind node : ℕ) : Type 0 where
  pub low : 1 ≤ node
  pub high : node ≤ largest_type
  pub unit : kind ≡ 4 → 15 ≤ node
  pub other : (kind ≡ 4 → ⊥) → node ≤ 14

pub typed : (kind node : ℕ) → good_type kind node ≡ true → Typed kind node
typed kind node = go (eqb kind 4) refl
  where
    go : (t : Bool) → eqb kind 4 ≡ t → cond t (within 15 largest_type node) (within 1 14 node) ≡ true → Typed kind node
    go true e h =
        let four = eqb-true kind 4 e in
        let low = leb-true 15 node (and_left _ (leb node largest_type) h) in
        record { low = omega arith; high = leb-true node largest_type (and_right (leb 15 node) _ h); unit = λ _. low; other = λ n. absurd (n four) }
    go false e h =
        let small = leb-true node 14 (and_right (leb 1 node) _ h) in
        record { low = leb-true 1 node (and_left _ (leb node 14) h); high = omega arith; unit = λ f. absurd (eqb-false kind 4 e f); other = λ _. small }

-- and the code's arithmetic of it
pub type_is : (kind node : ℕ) → IsKind kind → good_type kind node ≡ within (1 + 14 * (kind / 4)) (14 + 2 * (kind / 4)) node
type_is kind node = each_kind (λ (k : ℕ). good_type k node ≡ within (1 + 14 * (k / 4)) (14 + 2 * (k / 4)) node) refl refl refl refl kind

-- ---- the test of a record in code

module _ (left len kind node : ℕ) where
  -- without a good frame there is no good record, and with one the node type decides
  pub frame_bad : (t : Bool) → (t && framed_at left len kind) ≡ false → (t && good_at left len kind node) ≡ false
  frame_bad t = go t (leb (len + 2) left) (good_frame len kind)
    where
      go : (t a b : Bool) → (t && (a && b)) ≡ false → (t && (a && (b && good_type kind node))) ≡ false
      go false a b e = refl
      go true false b e = refl
      go true true b e = rw e

  pub frame_type : (t : Bool) → (t && framed_at left len kind) ≡ true → (t && good_at left len kind node) ≡ within (1 + 14 * (kind / 4)) (14 + 2 * (kind / 4)) node
  frame_type t e =
      let f = and_right t (framed_at left len kind) e in
      let good = and_right (leb (len + 2) left) (good_frame len kind) f in
      rw (and_left t (framed_at left len kind) e, and_left (leb (len + 2) left) (good_frame len kind) f, good) (type_is kind node (framed len kind good).of)

  -- what a good record tells
  pub room : good_at left len kind node ≡ true → len + 2 ≤ left
  room e = leb-true (len + 2) left (and_left _ (good_frame len kind && good_type kind node) e)

  pub frame_good : good_at left len kind node ≡ true → good_frame len kind ≡ true
  frame_good e = and_left _ (good_type kind node) (and_right (leb (len + 2) left) _ e)

  pub frame : good_at left len kind node ≡ true → Framed len kind
  frame e = framed len kind (frame_good e)

  pub type_good : good_at left len kind node ≡ true → Typed kind node
  type_good e = typed kind node (and_right (good_frame len kind) _ (and_right (leb (len + 2) left) _ e))

opcode_kind : (r : List ℕ) (k : ℕ) → kind_of r ≡ k → IsKind k → opcode (operation_of r) ≡ opcode_for k
unfolding operation_of
opcode_kind r k e o = each_kind (λ (n : ℕ). kind_of r ≡ n → opcode (operation_of r) ≡ opcode_for n) (λ q. rw q) (λ q. rw q) (λ q. rw q) (λ q. rw q) k o e

-- ---- units

-- one record is asked for, as the code tells it
pub asked_same : (units : Units) (unit : ℕ) → tallied units 1 (cond (eqb unit (wanted_of units)) 1 0) ≡ cond (is_unit units unit) 1 0
asked_same All unit = refl
asked_same (One wanted) unit = refl

-- ---- the record at a place

module _ (j : List ℕ) (at : ℕ) where
  abbrev here : List ℕ
  here = first_record (drop at j)

  abbrev left : ℕ
  left = length j - at

  abbrev len : ℕ
  len = length_of (drop at j)

  abbrev kind : ℕ
  kind = kind_of (drop at j)

  abbrev node : ℕ
  node = le 2 j (at + 4)

  node_here_lem : 4 ≤ len → node_type here ≡ node
  unfolding node_type
  node_here_lem h = field_at j at 2 4 (omega arith)

  good_here_lem : node_here j at ≡ good_at left len kind node
  unfolding good_node
  good_here_lem = go (leb 6 len) refl
    where
      go : (t : Bool) → leb 6 len ≡ t → (whole here && (good_frame (length_of here) (kind_of here) && good_type (kind_of here) (node_type here))) ≡ good_at left len kind node
      go true e =
          let l = leb-true 6 len e in
          rw (whole_at j at, record_length j at, record_kind j at (omega arith), node_here_lem (omega arith), le-leb 2 len (omega arith))
      go false e =
          let l = leb-false 6 len e in
          rw (record_length j at) (simp (frame_short len (kind_of here) l, frame_short len kind l, and-false))

  pub good_read : (l k n : ℕ) → l ≡ len → k ≡ kind → n ≡ node → node_here j at ≡ good_at left l k n
  good_read l k n p q r = rw (p, q, r) good_here_lem

  -- too few bytes for any record
  pub short_bad : left < 10 → node_here j at ≡ false
  short_bad h = good_here_lem ∙ go (good_at left len kind node) refl
    where
      go : (t : Bool) → good_at left len kind node ≡ t → t ≡ false
      go true e = absurd (omega (arith, room left len kind node e, frame left len kind node e))
      go false e = refl

  pub test_read : (f : ℕ → Bool) (l k n : ℕ) → l ≡ len → k ≡ kind → n ≡ node → (f kind && node_here j at) ≡ (f k && good_at left l k n)
  test_read f l k n p q r = ap (λ (x : ℕ). f x && node_here j at) (sym q) ∙ ap (λ (t : Bool). f k && t) (good_read l k n p q r)

  -- what the code gives, by a further test
  pub test_short : (t : Bool) → left < 10 → None ≡ cond (t && node_here j at) (Some (shape_at j at)) None
  test_short t h = rw (short_bad h, and-false t)

  pub test_bad : (t : Bool) → (t && node_here j at) ≡ false → None ≡ cond (t && node_here j at) (Some (shape_at j at)) None
  test_bad t e = rw e

  pub test_good : (t : Bool) (s : Shape) → s ≡ shape_at j at → (t && node_here j at) ≡ true → Some s ≡ cond (t && node_here j at) (Some (shape_at j at)) None
  test_good t s q e = rw (e, q)

  -- and what was given: any good record is of a kind up to 4
  pub given_bad : (v : Option Shape) → v ≡ None → v ≡ verdict_at 4 j at → node_here j at ≡ false
  given_bad v e q =
      let told = cond_none (leb kind 4 && node_here j at) (shape_at j at) (sym q ∙ e) in
      decide (node_here j at)
      (λ g. let high = le-leb kind 4 (frame left len kind node (sym good_here_lem ∙ g)).of.high in absurd (false≢true (sym told ∙ rw (high, g))))
      (λ g. g)

  pub given_good : (most : ℕ) (v : Option Shape) (s : Shape) → v ≡ Some s → v ≡ verdict_at most j at → (node_here j at ≡ true) × (s ≡ shape_at j at)
  given_good most v s e q =
      let told = cond_some (leb kind most && node_here j at) (shape_at j at) s (sym q ∙ e) in
      (and_right (leb kind most) _ told.0, sym told.1)

  -- what a good record tells
  module _ (good : node_here j at ≡ true) where
    good_is : good_at left len kind node ≡ true
    good_is = sym good_here_lem ∙ good

    frame_here : Framed len kind
    frame_here = frame left len kind node good_is

    pub good_length : size_of (drop at j) ≡ length_for kind + 2
    good_length = ap (λ (n : ℕ). n + 2) frame_here.length_is

    pub good_size_lem : (10 ≤ size_of (drop at j)) × (size_of (drop at j) ≤ 18)
    good_size_lem = (omega (arith, frame_here.large), omega (arith, frame_here.small))

    pub good_fits : size_of (drop at j) ≤ left
    good_fits = room left len kind node good_is

    pub good_kind : IsKind kind
    good_kind = frame_here.of

    type_here : Typed kind node
    type_here = type_good left len kind node good_is

    pub good_node_lem : node ≤ largest_type
    good_node_lem = type_here.high

    kind_here : kind_of here ≡ kind
    kind_here = record_kind j at (omega (arith, frame_here.large))

    entry_node : (entry_of here).node ≡ node
    entry_node = rw (kind_here, lt-leb 5 kind (omega (arith, good_kind.high)), node_here_lem (omega (arith, frame_here.large)))

    -- whether a selection reports it, by its kind, node type and unit
    pub good_reports : (sel : Selection) (code : ℕ) → reports sel code (entry_of here) ≡ ((eqb (opcode_for kind) code && holds (get_or sel.sets node 0) code) && asks sel.units (entry_of here))
    unfolding reports
    good_reports sel code = rw (opcode_kind here kind kind_here good_kind, entry_node, le-leb 1 node type_here.low)

    -- a record that is reported under an opcode is of one of its kinds
    pub reported_kind : (sel : Selection) (code : ℕ) → reports sel code (entry_of here) ≡ true → opcode_for kind ≡ code
    reported_kind sel code e =
        let both = and_left _ (asks sel.units (entry_of here)) (sym (good_reports sel code) ∙ e) in
        eqb-true (opcode_for kind) code (and_left _ (holds (get_or sel.sets node 0) code) both)

    -- whether its unit is asked for: of kind 4 by the address, of the other kinds always
    pub asked_unit : (units : Units) (w : ℕ) → kind ≡ 4 → asked units j at w ≡ cond (is_unit units (le 8 j (at + 6))) w 0
    unfolding unit_of
    asked_unit All w e = refl
    asked_unit (One u) w e =
        let small : leb (entry_of here).node 14 ≡ false = lt-leb (entry_of here).node 14 (omega (arith, entry_node, type_here.unit e)) in
        rw (small, kind_here, e, field_at j at 8 6 (omega (arith, good_length, ap length_for e)))

    pub asked_other : (units : Units) (w : ℕ) → (kind ≡ 4 → ⊥) → asked units j at w ≡ w
    asked_other All w n = refl
    asked_other (One u) w n = rw (le-leb (entry_of here).node 14 (omega (arith, entry_node, type_here.other n)))

    pub unit_node : kind ≡ 4 → 15 ≤ node
    unit_node = type_here.unit

    -- the eight bytes that the code compares are inside
    pub unit_inside : at + 6 * (kind / 4) + 8 ≤ length j
    unit_inside =
        let room : 6 * (kind / 4) + 8 ≤ length_for kind + 2 = each_kind (λ (k : ℕ). 6 * (k / 4) + 8 ≤ length_for k + 2) (omega arith) (omega arith) (omega arith) (omega arith) kind good_kind in
        omega (arith, room, good_length, good_fits)

    -- and what it computes of them
    pub asked_one : (units : Units) (same : ℕ) → same ≡ cond (is_unit units (le 8 j (at + 6 * (kind / 4)))) 1 0 → (2 - kind / 4 + same) / 2 ≡ asked units j at 1
    asked_one units same e = decide (eqb kind 4)
        (λ t. let four = eqb-true kind 4 t in
        let place : at + 6 * (kind / 4) ≡ at + 6 = rw four in
        let bit : same ≡ one_if_lem (is_unit units (le 8 j (at + 6))) = e ∙ ap (λ (i : ℕ). cond (is_unit units (le 8 j i)) 1 0) place in
        omega (arith, bit, one_if_le (is_unit units (le 8 j (at + 6))), asked_unit units 1 four))
        (λ t. let other = eqb-false kind 4 t in
        omega (arith, asked_other units 1 other, good_kind.high, e, one_if_le (is_unit units (le 8 j (at + 6 * (kind / 4))))))
