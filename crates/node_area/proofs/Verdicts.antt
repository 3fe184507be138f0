-- Laws of the words of an area: what is judged of them, and the operations that they hold.
use mathlib.Core.Path.{◌≡◌, refl, sym, ap, ◌∙◌}
use mathlib.Core.Bool.{Bool, true, false, cond, ◌&&◌, not}
use mathlib.Core.List.{List, [], ◌∷◌}
use Prim.Native.Nat.{ℕ, zero, suc, ◌+◌, ◌*◌, ◌-◌, ◌/◌, ◌%◌, ◌<◌, ◌≤◌}
use native.Mathlib.Nat.{zero-add, add-zero, add_assoc}
use native.Mathlib.Numerals.{sub-one}
use native.Mathlib.Omega.{arith}
use lib.Dec.{leb, ltb, eqb}
use lib.ListN.{length, drop, length-drop}
use lib.Seq.{drop-drop}
use borrow.Author.Tests.{eq-eqb, ne_eqb, leb-true, ltb-false, eqb-true, eqb-false}
use Rattle.words.specs.Numbers.{be, words}
use Rattle.words.proofs.Words.{words_step, words_short, words_drop, length_words}
use Rattle.words.proofs.Choice.{choose}
use Rattle.journal.specs.declared.operation.Operation.{Operation}
use Rattle.journal.specs.declared.operation.Operation.TheVariants.{Add}
use Rattle.node_area.specs.declared.reading.Refusal.{Refusal}
use Rattle.node_area.specs.declared.reading.Refusal.TheVariants.{Size, Reserved, Opcode, Past, Odd, Order, Unterminated}
use Rattle.std.specs.Prelude.{Result, Ok, Err}
use Rattle.words.specs.declared.refused.Refused.{Refused}
use Rattle.words.specs.Reading.{read, refused}
use Rattle.node_area.specs.Reading.{opcode_in, count_in, fault_of, last_after, Verdict, good, bad, verdict, single, operations_at, read_by, reading, check_of}
use Rattle.node_area.specs.Inner.Terms.{operations_in}
use Rattle.node_area.specs.Head.{area_size, head_size, reserved_from, is_reserved}
use Rattle.node_area.specs.Claims.Cursor.{remaining, EntriesInOrder}

-- ---- a fine operator

-- where there are operands and no test finds a fault, those for the opcode, an odd count and operands past the end do not
fault_none : (a b c d e : Bool) → cond (not (a && b)) (Err Opcode) (cond c (Err Odd) (cond d (Err Order) (cond e (Err Past) (Ok (tt {0}))))) ≡ Ok (tt {0}) → (a ≡ true) × (b ≡ true) × (c ≡ false) × (e ≡ false)
fault_none false b c d e h = (cc, cc, cc, cc)
fault_none true false c d e h = (cc, cc, cc, cc)
fault_none true true true d e h = (cc, cc, cc, cc)
fault_none true true false true e h = (cc, cc, cc, cc)
fault_none true true false false true h = (cc, cc, cc, cc)
fault_none true true false false false h = (refl, refl, refl, refl)

-- what a fine operator is: its operands are inside, additions have an even number of them, and where there are any the opcode is one of the three
pub record Operator (word left : ℕ) : Type 0 where
  pub fits : count_in word ≤ left
  pub even : opcode_in word ≡ 3 → count_in word % 2 ≡ 0
  pub range : 0 < count_in word → (1 ≤ opcode_in word) × (opcode_in word ≤ 3)

pub operator : (word last left : ℕ) → fault_of word last left ≡ Ok (tt {0}) → Operator word left
unfolding fault_of
operator word last left = go (eqb (count_in word) 0) refl
  where
    odd : Bool
    odd = eqb (opcode_in word) 3 && eqb (count_in word % 2) 1

    not_odd : eqb (opcode_in word) 3 ≡ true → odd ≡ false → count_in word % 2 ≡ 0
    not_odd h o = let p : (count_in word % 2 ≡ 1 → ⊥) = eqb-false (count_in word % 2) 1 (rw h at o) in omega arith

    go : (t : Bool) → eqb (count_in word) 0 ≡ t
        → cond t (Ok (tt {0})) (cond (not (leb 1 (opcode_in word) && leb (opcode_in word) 3)) (Err Opcode) (cond odd (Err Odd) (cond (ltb (opcode_in word) last) (Err Order) (cond (ltb left (count_in word)) (Err Past) (Ok (tt {0})))))) ≡ Ok (tt {0})
        → Operator word left
    go true z e = let none = eqb-true (count_in word) 0 z in record { fits = omega arith; even = λ h. omega arith; range = λ h. absurd (omega arith) }
    go false z e =
        let none = fault_none (leb 1 (opcode_in word)) (leb (opcode_in word) 3) odd (ltb (opcode_in word) last) (ltb left (count_in word)) e in
        record {
          fits = ltb-false left (count_in word) none.3;
          even = λ h. not_odd (eq-eqb (opcode_in word) 3 h) none.2;
          range = λ h. (leb-true 1 (opcode_in word) none.0, leb-true (opcode_in word) 3 none.1);
        }

-- it stands before the next operator where it has operands
pub last_filled : (last word : ℕ) → 0 < count_in word → last_after last word ≡ opcode_in word
unfolding last_after
last_filled last word h = rw (ne_eqb (count_in word) 0 (λ e. omega arith))

-- ---- the operations at words

-- at an operator
module _ (code w : ℕ) (ws : List ℕ) where
  pub operations_end : w ≡ 0 → operations_at (w ∷ ws) code 0 ≡ []
  unfolding operations_at
  operations_end e = rw e

  pub operations_more : (w ≡ 0 → ⊥) → operations_at (w ∷ ws) code 0 ≡ operations_at ws (opcode_in w) (count_in w)
  unfolding operations_at
  operations_more h = rw (ne_eqb w 0 h)

-- where no operand word is left the opcode tells nothing
pub operations_next : (ws : List ℕ) (code : ℕ) → operations_at ws code 0 ≡ operations_at ws 0 0
unfolding operations_at
operations_next [] code = refl
operations_next (w ∷ ws) code = refl

-- at the operands of an operation
pub operations_single : (code w : ℕ) (ws : List ℕ) (n : ℕ) → (code ≡ 3 → ⊥) → 0 < n → operations_at (w ∷ ws) code n ≡ single code w ∷ operations_at ws code (n - 1)
unfolding operations_at
operations_single code w ws zero h l = absurd (omega arith)
operations_single code w [] (suc n) h l = rw (ne_eqb code 3 h)
operations_single code w (v ∷ ws) (suc n) h l = rw (sub-one (suc n), ne_eqb code 3 h)

pub operations_pair : (code w v : ℕ) (ws : List ℕ) (n : ℕ) → code ≡ 3 → 0 < n → operations_at (w ∷ v ∷ ws) code n ≡ Add w v ∷ operations_at ws code (n - 1 - 1)
unfolding operations_at
operations_pair code w v ws zero e l = absurd (omega arith)
operations_pair code w v ws (suc n) e l = rw (sub-one (suc n), eq-eqb code 3 e)

-- past operand words
operations_singles : (code n : ℕ) (ws : List ℕ) → (code ≡ 3 → ⊥) → n ≤ length ws → length (operations_at ws code n) ≡ n + length (operations_at (drop n ws) code 0)
operations_singles code zero ws h l = sym (zero-add _)
operations_singles code (suc n) [] h l = absurd (omega arith)
operations_singles code (suc n) (w ∷ ws) h l = rw (operations_single code w ws (suc n) h (omega arith), sub-one (suc n), operations_singles code n ws h (omega arith)) (omega arith)

operations_pairs : (code n : ℕ) (ws : List ℕ) → code ≡ 3 → n + n ≤ length ws → length (operations_at ws code (n + n)) ≡ n + length (operations_at (drop (n + n) ws) code 0)
operations_pairs code zero ws h l = sym (zero-add _)
operations_pairs code (suc n) [] h l = absurd (omega arith)
operations_pairs code (suc n) (w ∷ []) h l = absurd (omega arith)
operations_pairs code (suc n) (w ∷ v ∷ ws) h l =
    let two : suc n + suc n ≡ suc (suc (n + n)) = omega arith in
    rw (two, operations_pair code w v ws (suc (suc (n + n))) h (omega arith), sub-one (suc (suc (n + n))), sub-one (suc (n + n)), operations_pairs code n ws h (omega arith)) (omega arith)

pub operations_passed : (code n : ℕ) (ws : List ℕ) → n ≤ length ws → (code ≡ 3 → n % 2 ≡ 0)
    → length (operations_at ws code n) ≡ cond (eqb code 3) (n / 2) n + length (operations_at (drop n ws) code 0)
operations_passed code n ws l even =
    choose (eqb code 3) (λ (k : ℕ). length (operations_at ws code n) ≡ k + length (operations_at (drop n ws) code 0)) pairs (λ e. operations_singles code n ws (eqb-false code 3 e) l)
  where
    pairs : eqb code 3 ≡ true → length (operations_at ws code n) ≡ n / 2 + length (operations_at (drop n ws) code 0)
    pairs e =
        let three = eqb-true code 3 e in
        let halves : n / 2 + n / 2 ≡ n = omega (arith, even three) in
        rw halves at (operations_pairs code (n / 2) ws three (omega arith))

pub verdict_passed : (n at last : ℕ) (ws : List ℕ) → n ≤ length ws → verdict n at last ws ≡ verdict 0 (at + 4 * n) last (drop n ws)
unfolding verdict
verdict_passed zero at last ws h = rw (add-zero at)
verdict_passed (suc n) at last [] h = absurd (omega arith)
verdict_passed (suc n) at last (w ∷ ws) h =
    let e : at + 4 + 4 * n ≡ at + 4 * suc n = omega arith in
    verdict_passed n (at + 4) last ws (omega arith) ∙ ap (λ (k : ℕ). verdict 0 k last (drop n ws)) e

-- ---- the verdict on an operator

module _ (w at last : ℕ) (ws : List ℕ) where
  pub verdict_end : w ≡ 0 → verdict 0 at last (w ∷ ws) ≡ good
  unfolding verdict
  verdict_end e = rw e

  pub verdict_bad : (r : Refusal) → (w ≡ 0 → ⊥) → fault_of w last (length ws) ≡ Err r → verdict 0 at last (w ∷ ws) ≡ bad r at
  unfolding verdict
  verdict_bad r h e = rw (ne_eqb w 0 h, e)

  pub verdict_fine : (w ≡ 0 → ⊥) → fault_of w last (length ws) ≡ Ok (tt {0}) → verdict 0 at last (w ∷ ws) ≡ verdict 0 (at + 4 + 4 * count_in w) (last_after last w) (drop (count_in w) ws)
  unfolding verdict
  verdict_fine h e = rw (ne_eqb w 0 h, e) (verdict_passed (count_in w) (at + 4) (last_after last w) ws (operator w last (length ws) e).fits)

pub verdict_none : (at last : ℕ) → verdict 0 at last [] ≡ bad Unterminated area_size
unfolding verdict
verdict_none at last = refl

-- ---- the check of an area from a place on

abbrev tally : Verdict → ℕ → Result ℕ (Refused Refusal)
tally good n = Ok n
tally (bad r at) n = Err (record { refusal = r; offset = at })

-- what a check finds that stands at a place and has counted so many operations
unfoldable pub found : List ℕ → ℕ → ℕ → ℕ → Result ℕ (Refused Refusal)
found a at last entries = tally (verdict 0 at last (words (drop at a))) (entries + length (operations_at (words (drop at a)) last 0))

-- what the whole check finds
abbrev checked : List ℕ → Result ℕ (Refused Refusal)
checked a = check_of (read_by (verdict 0 16 0 (words (drop 16 a))) (operations_at (words (drop 16 a)) 0 0))

-- a check that stands at the place of an operator: what it finds from there on is what the whole check finds
pub record Stands (a : List ℕ) (at last entries : ℕ) : Type 0 where
  pub inside : at ≤ area_size
  pub place : at % 4 ≡ 0
  pub few : entries ≤ at
  pub finds : checked a ≡ found a at last entries

pub stands_first : (a : List ℕ) → Stands a 16 0 0
unfolding found
stands_first a =
    record {
      inside = omega arith;
      place = refl;
      few = omega arith;
      finds = rw zero-add (go (verdict 0 16 0 (words (drop 16 a))) (operations_at (words (drop 16 a)) 0 0));
    }
  where
    go : (v : Verdict) (os : List Operation) → check_of (read_by v os) ≡ tally v (length os)
    go good os = refl
    go (bad r at) os = refl

few_operations : (w : ℕ) → operations_in w ≤ count_in w
few_operations w = choose (eqb (opcode_in w) 3) (λ (k : ℕ). k ≤ count_in w) (λ _. omega arith) (λ _. omega arith)

module _ (a : List ℕ) (at last entries : ℕ) (s : Stands a at last entries) where
  pub stands_out : length a ≤ at → Err (record { refusal = Unterminated; offset = area_size }) ≡ checked a
  unfolding found
  stands_out h = rw (s.finds, words_short a at (omega arith), verdict_none at last)

  -- at an operator
  module _ (w : ℕ) (size : length a ≡ area_size) (more : at < area_size) (word : w ≡ be 4 a at) where
    ahead : words (drop at a) ≡ w ∷ words (drop (at + 4) a)
    ahead = rw word (words_step a at (omega (arith, s.place)))

    behind : (area_size - (at + 4)) / 4 ≡ length (words (drop (at + 4) a))
    behind = sym (length_words ((area_size - (at + 4)) / 4) (drop (at + 4) a) (omega (arith, s.place, length-drop (at + 4) a)))

    pub stands_end : w ≡ 0 → Ok entries ≡ checked a
    unfolding found
    stands_end e = rw (s.finds, ahead, verdict_end w at last _ e, operations_end last w _ e, add-zero entries)

    pub stands_bad : (r : Refusal) → (w ≡ 0 → ⊥) → fault_of w last ((area_size - (at + 4)) / 4) ≡ Err r → Err (record { refusal = r; offset = at }) ≡ checked a
    unfolding found
    stands_bad r h e = rw (s.finds, ahead, verdict_bad w at last _ r h (rw behind at e))

    pub stands_fine : (w ≡ 0 → ⊥) → fault_of w last ((area_size - (at + 4)) / 4) ≡ Ok (tt {0}) → Stands a (at + 4 + 4 * count_in w) (last_after last w) (entries + operations_in w)
    unfolding found
    stands_fine h e =
        let n = count_in w in
        let ws = words (drop (at + 4) a) in
        let o = operator w last ((area_size - (at + 4)) / 4) e in
        let passed = operations_passed (opcode_in w) n ws (rw behind at o.fits) o.even in
        let rest : drop n ws ≡ words (drop (at + 4 + 4 * n) a) = words_drop n (drop (at + 4) a) ∙ ap words (drop-drop (4 * n) (at + 4) a) in
        record {
          inside = omega (arith, s.place, o.fits);
          place = omega (arith, s.place);
          few = omega (arith, s.few, few_operations w);
          finds = rw (s.finds, ahead, verdict_fine w at last ws h (rw behind at e), operations_more last w ws h, passed, rest, operations_next _ (opcode_in w), operations_next _ (last_after last w), add_assoc entries);
        }

-- the ways of the code, for the tactics
pub ruleset turns = (stands_first, stands_out, stands_end, stands_bad, stands_fine)

-- ---- the operations of a reading, in order

read_found : (a b : Bool) (k : ℕ) (v : Verdict) (os ps : List Operation) → cond a (refused Size 0) (cond b (refused Reserved k) (read_by v os)) ≡ read ps → os ≡ ps
read_found true b k v os ps e = cc
read_found false true k v os ps e = cc
read_found false false k good os ps e = cc
read_found false false k (bad r at) os ps e = cc

pub entries_in_order : EntriesInOrder
unfolding reading remaining
entries_in_order scope area os e =
    let ws = drop 4 (words area) in
    rw (words_drop 4 area) at (read_found (not (eqb (length area) area_size)) (not (is_reserved scope area)) (reserved_from scope) (verdict 0 head_size 0 ws) (operations_at ws 0 0) os e)
