-- The claim on reading a node area, part by part: an operator, the head, and what ends the list.
use mathlib.Core.Path.{◌≡◌, refl, sym, ◌∙◌}
use mathlib.Core.Bool.{true, false, cond, ◌&&◌}
use mathlib.Core.List.{List, [], ◌∷◌, ◌++◌, map}
use mathlib.Core.Logic.{◌⊎◌, ⊎_elim}
use Prim.Native.Nat.{ℕ, zero, suc, ◌+◌, ◌*◌, ◌-◌, ◌/◌, ◌%◌, ◌<◌, ◌≤◌}
use native.Mathlib.Nat.{add-zero}
use native.Mathlib.Numerals.{sub-one}
use native.Mathlib.Omega.{arith}
use lib.Dec.{ltb, eqb}
use lib.ListN.{length, take, drop, get_or}
use lib.Seq.{slice, length-slice, get_or-drop, get_or-take}
use borrow.Author.Tests.{eq-eqb, ne_eqb, le-leb, lt-leb, lt-ltb, le-ltb, eqb-true, eqb-false}
use Rattle.words.specs.Numbers.{zeros}
use Rattle.words.specs.Reading.{read, Refuses, joined}
use Rattle.words.proofs.Claims.{joined_exactly}
use Rattle.words.proofs.Choice.{choose, decide, and_left, and_right}
use Rattle.journal.specs.declared.operation.Operation.{Operation}
use Rattle.node_area.specs.declared.reading.Refusal.{Refusal}
use Rattle.node_area.specs.declared.reading.Refusal.TheVariants.{Size, Reserved, Opcode, Past, Odd, Order, Unterminated}
use Rattle.std.specs.Prelude.{Ok, Err}
use Rattle.node_area.specs.Head.{reserved_from, is_reserved}
use Rattle.node_area.specs.Reading.{refusal_number, opcode_in, count_in, fault_of, last_after, single, operations_at, reading}
use Rattle.node_area.specs.Reading.{Verdict, good, bad, verdict, read_by}
use Rattle.node_area.specs.Claims.Reader.{reading_from, additions, operations_of, Sound, OperatorExactly, TestedFrom, NodeReaderExactly}
use Rattle.node_area.proofs.Verdicts.{operations_end, operations_more, operations_next, operations_single, operations_pair}
use Rattle.node_area.proofs.Verdicts.{verdict_end, verdict_bad, verdict_fine, verdict_none}

-- ---- the operations of operand words

-- one word to a delete or an update, two words to an addition; then those of the operators after them
singles : (code n : ℕ) (ws : List ℕ) → (code ≡ 3 → ⊥) → n ≤ length ws
    → operations_at ws code n ≡ map (λ w. single code w) (take n ws) ++ operations_at (drop n ws) 0 0
singles code zero ws h l = operations_next ws code
singles code (suc n) [] h l = absurd (omega arith)
singles code (suc n) (w ∷ ws) h l = rw (operations_single code w ws (suc n) h (omega arith), sub-one (suc n), singles code n ws h (omega arith))

pairs : (n : ℕ) (ws : List ℕ) → n + n ≤ length ws → operations_at ws 3 (n + n) ≡ additions (take (n + n) ws) ++ operations_at (drop (n + n) ws) 0 0
pairs zero ws l = operations_next ws 3
pairs (suc n) [] l = absurd (omega arith)
pairs (suc n) (w ∷ []) l = absurd (omega arith)
pairs (suc n) (w ∷ v ∷ ws) l =
    let two : suc n + suc n ≡ suc (suc (n + n)) = omega arith in
    rw (two, operations_pair 3 w v ws (suc (suc (n + n))) refl (omega arith), sub-one (suc (suc (n + n))), sub-one (suc (n + n)), pairs n ws (omega arith))

split : (last code count : ℕ) (ws : List ℕ) → Sound last code count → count ≤ length ws
    → operations_at ws code count ≡ operations_of code (take count ws) ++ operations_at (drop count ws) 0 0
split last zero count ws s l = absurd (omega (arith, s.low))
split last (suc zero) count ws s l = singles 1 count ws (λ e. omega arith) l
split last (suc (suc zero)) count ws s l = singles 2 count ws (λ e. omega arith) l
split last (suc (suc (suc zero))) count ws s l =
    let halves : count / 2 + count / 2 ≡ count = omega (arith, s.even refl) in
    rw halves at (pairs (count / 2) ws (omega arith))
split last (suc (suc (suc (suc code)))) count ws s l = absurd (omega (arith, s.high))

then_more : (os ps : List Operation) (v : Verdict) → read_by v (os ++ ps) ≡ joined (read os) (read_by v ps)
unfolding joined
then_more os ps good = refl
then_more os ps (bad r at) = refl

-- ---- an operator

module _ (code count : ℕ) (h : count < 0x0100_0000) where
  opcode_of_lem : opcode_in (code * 0x0100_0000 + count) ≡ code
  opcode_of_lem = omega arith

  count_of : count_in (code * 0x0100_0000 + count) ≡ count
  count_of = omega arith

module _ (last at code count w : ℕ) (ws : List ℕ) (opcode : opcode_in w ≡ code) (number : count_in w ≡ count) where
  refuses : (r : Refusal) → (w ≡ 0 → ⊥) → fault_of w last (length ws) ≡ Err r → Refuses refusal_number (reading_from last at (w ∷ ws)) (refusal_number r) at
  refuses r h e = (r, (refl, rw (verdict_bad w at last ws r h e)))

  reads : (w ≡ 0 → ⊥) → fault_of w last (length ws) ≡ Ok (tt {0})
      → reading_from last at (w ∷ ws) ≡ read_by (verdict 0 (at + 4 + 4 * count) (last_after last w) (drop count ws)) (operations_at ws code count)
  reads h e = rw (verdict_fine w at last ws h e, operations_more 0 w ws h, opcode, number)

  -- if there are no operands
  module _ (none : count_in w ≡ 0) where
    fine : fault_of w last (length ws) ≡ Ok (tt {0})
    unfolding fault_of
    fine = rw (eq-eqb (count_in w) 0 none)

    last_kept : last_after last w ≡ last
    unfolding last_after
    last_kept = rw (eq-eqb (count_in w) 0 none)

  empty : 1 ≤ code → count ≡ 0 → reading_from last at (w ∷ ws) ≡ reading_from last (at + 4) ws
  empty low none =
      let z = number ∙ none in
      reads (λ e. omega arith) (fine z) ∙ rw (last_kept z, none, add-zero (at + 4), operations_next ws code)

  -- if there are operands
  module _ (some : 1 ≤ count) where
    filled : eqb (count_in w) 0 ≡ false
    filled = ne_eqb (count_in w) 0 (λ e. omega arith)

    last-is : last_after last w ≡ code
    unfolding last_after
    last-is = rw (filled, opcode)

    not_known : (code ≡ 0) ⊎ (3 < code) → fault_of w last (length ws) ≡ Err Opcode
    unfolding fault_of
    not_known h =
        rw (filled, opcode) (⊎_elim (λ (e : code ≡ 0). rw e) (λ (e : 3 < code). rw (le-leb 1 code (omega arith), lt-leb code 3 e)) h)

    odd : code ≡ 3 → count % 2 ≡ 1 → fault_of w last (length ws) ≡ Err Odd
    unfolding fault_of
    odd three one = rw (filled, opcode, number, three, one)

    -- the tests for the order and for the end are left
    allowed : 1 ≤ code → code ≤ 3 → (code ≡ 3 → count % 2 ≡ 0)
        → fault_of w last (length ws) ≡ cond (ltb code last) (Err Order) (cond (ltb (length ws) count) (Err Past) (Ok (tt {0})))
    unfolding fault_of
    allowed low high h =
        let even : (eqb code 3 && eqb (count % 2) 1) ≡ false = decide (eqb code 3) (λ t. rw (t, h (eqb-true code 3 t))) (λ t. rw t) in
        rw (filled, opcode, number, le-leb 1 code low, le-leb code 3 high, even)

  module _ (s : Sound last code count) where
    in_order : fault_of w last (length ws) ≡ cond (ltb (length ws) count) (Err Past) (Ok (tt {0}))
    in_order = allowed s.some s.low s.high s.even ∙ rw (le-ltb code last s.ordered)

    sound : count ≤ length ws
        → reading_from last at (w ∷ ws) ≡ joined (read (operations_of code (take count ws))) (reading_from code (at + 4 + 4 * count) (drop count ws))
    sound l =
        reads (λ e. omega (arith, s.some)) (in_order ∙ rw (le-ltb (length ws) count l))
        ∙ rw (last-is s.some, split last code count ws s l) (then_more _ _ (verdict 0 (at + 4 + 4 * count) code (drop count ws)))

  operator_exactly : OperatorExactly last at code count ws (reading_from last at (w ∷ ws))
  operator_exactly =
      record {
        empty = empty;
        opcode = λ some h. refuses Opcode (λ e. omega arith) (not_known some h);
        odd = λ three one. refuses Odd (λ e. omega arith) (odd (omega arith) three one);
        order = λ some low high h less. refuses Order (λ e. omega arith) (allowed some low high h ∙ rw (lt-ltb code last less));
        past = λ s less. refuses Past (λ e. omega (arith, s.some)) (in_order s ∙ rw (lt-ltb (length ws) count less));
        operations = sound;
      }

-- ---- the head

-- the test of bytes for zero tells each of them
zeros_byte : (l : List ℕ) (i : ℕ) → zeros l ≡ true → get_or l i 0 ≡ 0
unfolding zeros
zeros_byte [] i e = refl
zeros_byte (b ∷ bs) zero e = eqb-true b 0 (and_left (eqb b 0) (zeros bs) e)
zeros_byte (b ∷ bs) (suc i) e = zeros_byte bs i (and_right (eqb b 0) (zeros bs) e)

zeros_all : (l : List ℕ) → ((i : ℕ) → i < length l → get_or l i 0 ≡ 0) → zeros l ≡ true
unfolding zeros
zeros_all [] h = refl
zeros_all (b ∷ bs) h = rw (eq-eqb b 0 (h 0 (omega arith))) (zeros_all bs (λ i l. h (suc i) (omega arith)))

module _ (scope from : ℕ) (area : List ℕ) (t : TestedFrom scope from) where
  tested : reserved_from scope ≡ from
  tested = choose (eqb scope 3) (λ (k : ℕ). k ≡ from) (λ e. sym (t.unit (eqb-true scope 3 e))) (λ e. sym (t.other (eqb-false scope 3 e)))

  byte : (i : ℕ) → from + i < 16 → get_or (slice from 16 area) i 0 ≡ get_or area (from + i) 0
  byte i h = rw (get_or-drop, get_or-take)

  marked : (k : ℕ) → from ≤ k → k < 16 → (get_or area k 0 ≡ 0 → ⊥) → is_reserved scope area ≡ false
  unfolding is_reserved
  marked k low high h =
      let i = k - from in
      let place : from + i ≡ k = omega arith in
      let same : get_or area k 0 ≡ get_or (slice from 16 area) i 0 = rw place at (sym (byte i (omega arith))) in
      rw tested (decide (zeros (slice from 16 area)) (λ e. absurd (h (same ∙ zeros_byte (slice from 16 area) i e))) (λ e. e))

  clear : length area ≡ 4096 → ((k : ℕ) → from ≤ k → k < 16 → get_or area k 0 ≡ 0) → is_reserved scope area ≡ true
  unfolding is_reserved
  clear size h =
      let inside : (i : ℕ) → i < length (slice from 16 area) → from + i < 16 = λ i l. omega (arith, length-slice from 16 area (omega arith)) in
      rw tested (zeros_all (slice from 16 area) (λ i l. byte i (inside i l) ∙ h (from + i) (omega arith) (inside i l)))

-- ---- the claim

pub node_reader_exactly : NodeReaderExactly
unfolding reading
node_reader_exactly =
    record {
      in_turn = joined_exactly;
      size = λ scope area h. (Size, (refl, rw (ne_eqb (length area) 4096 h)));
      reserved =
          λ scope from area t size k low high h.
          (Reserved, (refl, rw (eq-eqb (length area) 4096 size, marked scope from area t k low high h, tested scope from area t)));
      operators = λ scope from area t size h. rw (eq-eqb (length area) 4096 size, clear scope from area t size h);
      terminator = λ last at ws. rw (verdict_end 0 at last ws refl, operations_end 0 0 ws refl);
      unterminated = λ last at. (Unterminated, (refl, rw (verdict_none at last)));
      operator = λ last at code count ws h. operator_exactly last at code count (code * 0x0100_0000 + count) ws (opcode_of_lem code count h) (count_of code count h);
    }
