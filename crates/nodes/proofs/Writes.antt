-- The writer's steps: what is left to write, stored in the area as it is, gives what was to be written.
use mathlib.Core.Path.{◌≡◌, refl, sym, ap, ◌∙◌}
use mathlib.Core.Bool.{Bool, true, false, cond}
use mathlib.Core.List.{List, [], ◌∷◌, ◌++◌}
use Prim.Native.Nat.{ℕ, zero, suc, ◌+◌, ◌-◌, ◌*◌, ◌<◌, ◌≤◌}
use native.Mathlib.Nat.{mul-zero, mul-one, mul-le-mul_left, mul-le-mul}
use native.Mathlib.Numerals.{sub-one}
use native.Mathlib.Omega.{arith}
use lib.Dec.{eqb}
use lib.ListN.{length, take, drop, length-drop}
use lib.Seq.{sets, length-sets, length-take-le}
use borrow.Author.Tests.{eq-eqb, ne_eqb}
use Rattle.words.proofs.Choice.{choose}
use Rattle.journal.specs.Scope.{Selection}
use Rattle.words.specs.Numbers.{le, be_bytes, word_bytes}
use Rattle.words.proofs.Stores.{sets_over, length_word_bytes, words_behind, store_first}
use Rattle.records.specs.Records.{size_of, first_record}
use Rattle.records.proofs.Choosing.{one_if_lem, chosen_here, chosen_later, still_inside}
use Rattle.journal.specs.declared.operation.Operation.{Operation}
use Rattle.journal.specs.Journal.{well_formed, IsOpcode, operation_of, entry_of, entries}
use Rattle.journal.specs.Reportable.{operation, reports, chosen}
use Rattle.journal.specs.Marks.{Resumes}
use Rattle.journal.specs.Inner.Terms.{operands_before}
use Rattle.journal.proofs.Opcodes.{each-code}
use Rattle.journal.proofs.Entries.{each_entry}
use Rattle.journal.proofs.Walks.{all_good_lem, walked_on, walked_fits, walked_size, walked_operands}
use Rattle.nodes.specs.Run.{part_words, operator, area_words}
use Rattle.nodes.specs.Claims.Longest.{AllOf}
use Rattle.nodes.specs.Area.{part}
use Rattle.nodes.specs.Inner.Terms.{words_of}
use Rattle.nodes.specs.Inner.Writing.{width, Due, due_words, part_from}
use Rattle.nodes.proofs.Runs.{length_part}
use Rattle.nodes.proofs.Cut.{code_take, words_one, words_two}
use Rattle.nodes.proofs.Listed.{chosen_code, first_code}

-- ---- how many words are due

pub words_width : (code : ℕ) (os : List Operation) → IsOpcode code → AllOf code os → length (words_of os) ≡ width code * length os
words_width code os o =
    each-code (λ (k : ℕ). AllOf k os → length (words_of os) ≡ width k * length os)
    (λ c. omega (arith, words_one 1 os (omega arith) c)) (λ c. omega (arith, words_one 2 os (omega arith) c)) (words_two os) code o

pub width_some : (code : ℕ) → (1 ≤ width code) × (width code ≤ 2)
width_some code = go (eqb code 3)
  where
    go : (t : Bool) → (1 ≤ cond t 2 1) × (cond t 2 1 ≤ 2)
    go true = omega arith
    go false = omega arith

length_operands : (j : List ℕ) (code end : ℕ) → length (operands_before j code end) ≡ width code
length_operands j code end = choose (eqb code 3) (λ (ws : List ℕ). length ws ≡ width code) (λ e. rw e) (λ e. rw e)

module _ (selection : Selection) (j : List ℕ) (code at n : ℕ) (d : Due selection j code at n) where
  pub due_length : length (due_words selection j code at n) ≡ width code * n
  unfolding due_words
  due_length =
      let os = chosen selection code (entries (drop at j)) in
      words_width code (take n os) d.of (code_take code n os (chosen_code selection code (entries (drop at j))))
      ∙ ap (λ (k : ℕ). width code * k) (length-take-le n os d.enough)

  -- while an operation is due, a record stands at the place, and its operands are inside
  pub due_inside : 0 < n → at < length j
  due_inside h = still_inside (reports selection code) operation each_entry j at (omega (arith, d.enough))

  -- its size, and where it ends
  pub due_record : 0 < n → (10 ≤ size_of (drop at j)) × (at + size_of (drop at j) ≤ length j)
  due_record h = (walked_size j at (due_inside h) d.sound, walked_fits j at (due_inside h) d.sound)

-- ---- the loop of the operands

due_words_lem : (selection : Selection) (j : List ℕ) (code at past left : ℕ) → chosen selection code (entries (drop at j)) ≡ chosen selection code (entries (drop past j)) → due_words selection j code past left ≡ due_words selection j code at left
unfolding due_words
due_words_lem selection j code at past left c = ap (λ (os : List Operation). words_of (take left os)) (sym c)

pub mul_one_le : (a n : ℕ) → 0 < n → a ≤ a * n
mul_one_le a n h = omega (arith, mul-le-mul_left a h)

pub once_le : (a n : ℕ) → n ≤ 1 → a * n ≤ a
once_le a n h = omega (arith, mul-le-mul_left a h)

-- what the writer stores from here on makes the area what it is to be
pub record Writing (aim : List ℕ) (selection : Selection) (j : List ℕ) (code : ℕ) (area : List ℕ) (at to left : ℕ) : Type 0 where
  pub due : Due selection j code at left
  pub room : to + 4 * (width code * left) ≤ length area
  pub rest : sets area to (word_bytes (due_words selection j code at left)) ≡ aim

module _ (aim : List ℕ) (selection : Selection) (j : List ℕ) (code : ℕ) (area : List ℕ) (at to left : ℕ) (w : Writing aim selection j code area at to left) (h : 0 < left) where
  abbrev shown : Bool
  shown = reports selection code (entry_of (first_record (drop at j)))

  abbrev past : ℕ
  past = at + size_of (drop at j)

  abbrev stored : List ℕ
  stored = sets area to (word_bytes (operands_before j code past))

  inside : at < length j
  inside = due_inside selection j code at left w.due h

  same_size : length stored ≡ length area
  same_size = length-sets area to (word_bytes (operands_before j code past))

  -- a record that counts: its operands stay
  counts : shown ≡ true → Writing aim selection j code stored past (to + 4 * width code) (left - 1)
  unfolding due_words words_of
  counts e =
      let d = w.due in
      let c = chosen_here (reports selection code) operation each_entry j at inside e in
      let os = chosen selection code (entries (drop past j)) in
      let more : width code * left ≡ width code + width code * (left - 1) = pred_mul (width code) left h in
      let first : take left (chosen selection code (entries (drop at j))) ≡ operation_of (first_record (drop at j)) ∷ take (left - 1) os = ap (take left) c ∙ take_one left _ os h in
      let words : words_of (take left (chosen selection code (entries (drop at j)))) ≡ operands_before j code past ++ words_of (take (left - 1) os) =
      ap words_of first ∙ ap (λ (l : List ℕ). l ++ words_of (take (left - 1) os)) (walked_operands j at inside d.sound selection code e) in
      record {
        due = record { of = d.of; sound = walked_on j at inside d.sound; enough = omega (arith, d.enough, ap (λ (l : List Operation). length l) c) };
        room = rw same_size (omega (arith, w.room, more));
        rest = words_behind area to (to + 4 * width code) (operands_before j code past) (words_of (take (left - 1) os)) (omega (arith, length_operands j code past))
            ∙ ap (λ (l : List ℕ). sets area to (word_bytes l)) (sym words) ∙ w.rest;
      }
    where
      take_one : (n : ℕ) (o : Operation) (os : List Operation) → 0 < n → take n (o ∷ os) ≡ o ∷ take (n - 1) os
      take_one zero o os p = absurd (omega arith)
      take_one (suc n) o os p = rw (sub-one (suc n))

      pred_mul : (a n : ℕ) → 0 < n → a * n ≡ a + a * (n - 1)
      pred_mul a zero p = absurd (omega arith)
      pred_mul a (suc n) p = rw (sub-one (suc n)) (omega arith)

  -- a record that is passed over: what was stored is stored over
  passes : shown ≡ false → Writing aim selection j code stored past to left
  passes e =
      let d = w.due in
      let c = chosen_later (reports selection code) operation each_entry j at inside e in
      let words : due_words selection j code past left ≡ due_words selection j code at left = due_words_lem selection j code at past left c in
      let wide : width code ≤ width code * left = mul_one_le (width code) left h in
      record {
        due = record { of = d.of; sound = walked_on j at inside d.sound; enough = omega (arith, d.enough, ap (λ (l : List Operation). length l) c) };
        room = rw same_size w.room;
        rest = ap (λ (l : List ℕ). sets stored to (word_bytes l)) words
            ∙ sets_over (word_bytes (operands_before j code past)) (word_bytes (due_words selection j code at left)) area to
            (omega (arith, length_word_bytes (operands_before j code past), length_operands j code past, length_word_bytes (due_words selection j code at left), due_length selection j code at left d))
            ∙ w.rest;
      }

  pub turn : Writing aim selection j code stored past (to + 4 * width code * one_if_lem shown) (left - one_if_lem shown)
  turn = go shown refl
    where
      go : (t : Bool) → shown ≡ t → Writing aim selection j code stored past (to + 4 * width code * one_if_lem t) (left - one_if_lem t)
      go true e = rw (mul-one (4 * width code)) (counts e)
      go false e = let z : left - 0 ≡ left = omega arith in let y : to + 0 ≡ to = omega arith in rw (mul-zero (4 * width code), z, y) (passes e)

pub writing_start : (selection : Selection) (j : List ℕ) (code at n : ℕ) (area : List ℕ) (to : ℕ) → Due selection j code at n → to + 4 * (width code * n) ≤ length area
    → Writing (sets area to (word_bytes (due_words selection j code at n))) selection j code area at to n
writing_start selection j code at n area to d h = record { due = d; room = h; rest = refl }

pub writing_end : (aim : List ℕ) (selection : Selection) (j : List ℕ) (code : ℕ) (area : List ℕ) (at to left : ℕ) → Writing aim selection j code area at to left → left ≡ 0 → area ≡ aim
unfolding due_words words_of word_bytes
writing_end aim selection j code area at to left w h = rw h at w.rest

pub width_three : (code : ℕ) → code ≡ 3 → width code ≡ 2
width_three code h = rw (eq-eqb code 3 h)

pub operands_three : (j : List ℕ) (code end : ℕ) → code ≡ 3 → operands_before j code end ≡ le 4 j (end - 8) ∷ le 4 j (end - 4) ∷ []
operands_three j code end h = rw (eq-eqb code 3 h)

pub operands_other : (j : List ℕ) (code end : ℕ) → (code ≡ 3 → ⊥) → operands_before j code end ≡ le 4 j (end - 4) ∷ []
operands_other j code end h = rw (ne_eqb code 3 h)

-- ---- one opcode's part

pub part_length : (selection : Selection) (j : List ℕ) (code first count : ℕ) → IsOpcode code → count ≤ length (chosen selection code (entries j)) - first
    → length (part_from selection j code first count) ≡ part_words (width code * count)
part_length selection j code first count of inside =
    let rest = drop first (chosen selection code (entries j)) in
    let all : length (take count rest) ≡ count = length-take-le count rest (rw length-drop inside) in
    length_part code (words_of (take count rest))
    ∙ ap part_words (words_width code (take count rest) of (first_code selection j code first count) ∙ ap (λ (n : ℕ). width code * n) all)

-- the operations from a place that was found are those of the whole journal from number k on
module _ (selection : Selection) (j : List ℕ) (code k from n : ℕ) (r : Resumes selection j code k from 0) where
  pub found_due : well_formed j ≡ true → IsOpcode code → k + n ≤ length (chosen selection code (entries j)) → Due selection j code from n
  found_due w o e = record { of = o; sound = r.sound (all_good_lem j w); enough = omega (arith, r.number) }

  pub found_words : due_words selection j code from n ≡ words_of (take n (drop k (chosen selection code (entries j))))
  unfolding due_words
  found_words = ap (λ (os : List Operation). words_of (take n os)) (sym r.same)

-- the number of operand words that the code computes
pub record Sized (width r n : ℕ) : Type 0 where
  pub is : r * n ≡ width * n
  pub some : 0 < r * n
  pub few : r * n ≤ 2 * area_words

pub sized : (code r n : ℕ) → r ≡ width code → 0 < n → n ≤ area_words → Sized (width code) r n
sized code r n e l h =
    let b = width_some code in
    rw e (record { is = refl; some = omega (arith, mul_one_le (width code) n l); few = omega (arith, mul-le-mul b.1 h) })

pub no_part : (l : List ℕ) (selection : Selection) (j : List ℕ) (code k n to : ℕ) → n ≡ 0 → (to ≡ to + 4 * part_words (width code * n)) × (l ≡ sets l to (word_bytes (part_from selection j code k n)))
unfolding word_bytes words_of operator
no_part l selection j code k n to h = rw (h, mul-zero (width code)) (omega arith, refl)

-- the operator, and the operands behind it
pub part_stored : (l l₁ l₂ : List ℕ) (to code n : ℕ) (ws : List ℕ) → n ≡ length ws → 0 < n → l₁ ≡ sets l to (be_bytes 4 (code * 0x0100_0000 + n)) → l₂ ≡ sets l₁ (to + 4) (word_bytes ws)
    → l₂ ≡ sets l to (word_bytes (part code ws))
part_stored l l₁ l₂ to code n [] e h p q = absurd (omega arith)
part_stored l l₁ l₂ to code n (w ∷ ws) e h p q =
    q ∙ ap (λ (m : List ℕ). sets m (to + 4) (word_bytes (w ∷ ws))) (store_first l l₁ to (code * 0x0100_0000 + n) p ∙ ap (λ (k : ℕ). sets l to (word_bytes ((code * 0x0100_0000 + k) ∷ []))) e)
    ∙ words_behind l to (to + 4) ((code * 0x0100_0000 + length (w ∷ ws)) ∷ []) (w ∷ ws) refl
