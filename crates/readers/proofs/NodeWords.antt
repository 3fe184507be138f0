-- The operations of a node area, stored as words, and what a check of the area tells of its reading.
use mathlib.Core.Path.{◌≡◌, refl, sym, ap, ◌∙◌}
use mathlib.Core.Bool.{Bool, true, false, cond, not}
use mathlib.Core.List.{List, [], ◌∷◌, ◌++◌, append_assoc}
use Prim.Native.Nat.{ℕ, zero, suc, ◌+◌, ◌*◌, ◌-◌, ◌/◌, ◌<◌, ◌≤◌, min}
use native.Mathlib.Nat.{add-zero, mul-zero, sub-zero, min-zero, suc-min-suc}
use native.Mathlib.Omega.{arith}
use lib.Dec.{eqb}
use lib.ListN.{length, take, drop, length-append, length-drop}
use lib.Seq.{sets, length-sets, take-nil, drop-drop, length-take-le}
use borrow.Author.Tests.{eqb-true, ne_eqb}
use Rattle.words.specs.Numbers.{be, words}
use Rattle.words.proofs.Stores.{sets_behind}
use Rattle.words.proofs.Words.{words_step, words_drop}
use Rattle.journal.specs.declared.operation.Operation.{Operation}
use Rattle.journal.specs.declared.operation.Operation.TheVariants.{Delete, Update, Add}
use Rattle.node_area.specs.Head.{area_size}
use Rattle.std.specs.Prelude.{Result, Ok, Err}
use Rattle.node_area.specs.declared.reading.Refusal.{Refusal}
use Rattle.node_area.specs.declared.reading.Refusal.TheVariants.{Size}
use Rattle.words.specs.declared.refused.Refused.{Refused}
use Rattle.words.specs.Reading.{Reading, read, refused}
use Rattle.node_area.specs.Reading as nodes
use Rattle.node_area.specs.Reading.{opcode_in, count_in, fault_of, last_after, verdict, single, operations_at, reading, check_of}
use Rattle.node_area.specs.Inner.Terms.{operations_in}
use Rattle.node_area.specs.Claims.Cursor.{remaining, start_of}
use Rattle.node_area.proofs.Verdicts.{Operator, operator, operations_end, operations_more, operations_single, operations_pair, operations_passed, verdict_fine, operations_next, entries_in_order}
use Rattle.node_area.proofs.Walks.{good_words, good_fine, words_inside, singles_cut, pairs_cut, operator_split}
use Rattle.readers.specs.Readings.{operation_words, operations_words, nodes_out}

-- ---- operations stored one after the other

-- the next operation is stored three places further
length_operation : (o : Operation) → length (operation_words o) ≡ 3
length_operation (Delete p) = refl
length_operation (Update p) = refl
length_operation (Add p d) = refl

length_operations : (os : List Operation) → length (operations_words os) ≡ 3 * length os
unfolding operations_words
length_operations [] = refl
length_operations (o ∷ os) = rw (length-append (operation_words o) (operations_words os)) (omega (arith, length_operation o, length_operations os))

operations_append : (os ps : List Operation) → operations_words (os ++ ps) ≡ operations_words os ++ operations_words ps
unfolding operations_words
operations_append [] ps = refl
operations_append (o ∷ os) ps = rw (operations_append os ps) (sym (append_assoc (operation_words o) (operations_words os) (operations_words ps)))

-- operations stored behind operations are one store
module _ (l m : List ℕ) (i : ℕ) where
  stored_many : (k : ℕ) (os ps : List Operation) → m ≡ sets l i (operations_words os) → k ≡ i + 3 * length os → sets m k (operations_words ps) ≡ sets l i (operations_words (os ++ ps))
  stored_many k os ps e h = rw (e, operations_append os ps) (sets_behind l i k (operations_words os) (operations_words ps) (rw length_operations h))

  stored_one : (o : Operation) (os : List Operation) → m ≡ sets l i (operation_words o) → sets m (i + 3) (operations_words os) ≡ sets l i (operations_words (o ∷ os))
  unfolding operations_words
  stored_one o os e = rw e (sets_behind l i (i + 3) (operation_words o) (operations_words os) (rw length_operation))

-- Operations of one opcode stand at a place of an area, each in so many bytes; `count` tells the operand words of so many of them.
module _ (area start : List ℕ) (size : ℕ) (count : ℕ → ℕ) (at code n to : ℕ) where
  -- i of n operations are stored: storing the others gives the whole
  pub record Partly (l : List ℕ) (i : ℕ) : Type 0 where
    pub rest : sets l (to + 3 * i) (operations_words (take (n - i) (operations_at (words (drop (at + size * i) area)) code (count (n - i)))))
        ≡ sets start to (operations_words (take n (operations_at (words (drop at area)) code (count n))))

  pub partly_first : Partly start 0
  partly_first = record { rest = simp (sub-zero, mul-zero, add-zero) }

module _ {area start l : List ℕ} {size : ℕ} {count : ℕ → ℕ} {at code n to i : ℕ} (s : Partly area start size count at code n to l i) where
  pub partly_length : length l ≡ length start
  partly_length = simp length-sets at (ap length s.rest)

  pub partly_all : n ≤ i → l ≡ sets start to (operations_words (take n (operations_at (words (drop at area)) code (count n))))
  unfolding operations_words
  partly_all h = let none : n - i ≡ 0 = omega arith in rw none at s.rest

  -- one more is stored
  partly_next : (m : List ℕ) (o : Operation) → i < n
      → operations_at (words (drop (at + size * i) area)) code (count (n - i)) ≡ o ∷ operations_at (words (drop (at + size * (i + 1)) area)) code (count (n - (i + 1)))
      → m ≡ sets l (to + 3 * i) (operation_words o) → Partly area start size count at code n to m (i + 1)
  partly_next m o more one stored =
      let left : n - i ≡ suc (n - (i + 1)) = omega arith in
      let place : to + 3 * (i + 1) ≡ to + 3 * i + 3 = omega arith in
      let others = operations_at (words (drop (at + size * (i + 1)) area)) code (count (n - (i + 1))) in
      record { rest = rw place (stored_one l m (to + 3 * i) o (take (n - (i + 1)) others) stored ∙ (rw left at (rw one at s.rest))) }

-- ---- operations of one operand word

single_words : (code w : ℕ) → 1 ≤ code → code < 3 → operation_words (single code w) ≡ code ∷ w ∷ 0 ∷ []
single_words zero w h l = absurd (omega arith)
single_words (suc zero) w h l = refl
single_words (suc (suc zero)) w h l = refl
single_words (suc (suc (suc n))) w h l = absurd (omega arith)

pub singles_next : {area start l : List ℕ} {at code n to i : ℕ} → Partly area start 4 (λ k. k) at code n to l i → (m : List ℕ) (w : ℕ) → 1 ≤ code → code < 3 → i < n → at + 4 * n ≤ length area
    → w ≡ be 4 area (at + 4 * i) → m ≡ sets l (to + 3 * i) (code ∷ w ∷ 0 ∷ []) → Partly area start 4 (λ k. k) at code n to m (i + 1)
singles_next {area} {l = l} {at} {code} {n} {to} {i} s m w low high more fits word stored =
    let ws = words (drop (at + 4 * (i + 1)) area) in
    let less : n - i - 1 ≡ n - (i + 1) = omega arith in
    let behind : at + 4 * i + 4 ≡ at + 4 * (i + 1) = omega arith in
    let here : words (drop (at + 4 * i) area) ≡ w ∷ ws = rw (behind, ← word) at (words_step area (at + 4 * i) (omega arith)) in
    partly_next s m (single code w) more (rw here (rw less at (operations_single code w ws (n - i) (λ e. omega arith) (omega arith))))
    (stored ∙ ap (sets l (to + 3 * i)) (sym (single_words code w low high)))

-- ---- additions

pub pairs_next : {area start l : List ℕ} {at n to i : ℕ} → Partly area start 8 (λ k. k + k) at 3 n to l i → (m : List ℕ) (w v : ℕ) → i < n → at + 8 * n ≤ length area
    → w ≡ be 4 area (at + 8 * i) → v ≡ be 4 area (at + 8 * i + 4) → m ≡ sets l (to + 3 * i) (operation_words (Add w v)) → Partly area start 8 (λ k. k + k) at 3 n to m (i + 1)
pairs_next {area} {at = at} {n} {to} {i} s m w v more fits first second stored =
    let ws = words (drop (at + 8 * (i + 1)) area) in
    let k = n - (i + 1) in
    let less : n - i + (n - i) - 1 - 1 ≡ k + k = omega arith in
    let behind : at + 8 * i + 4 + 4 ≡ at + 8 * (i + 1) = omega arith in
    let later : words (drop (at + 8 * i + 4) area) ≡ v ∷ ws = rw (behind, ← second) at (words_step area (at + 8 * i + 4) (omega arith)) in
    let here : words (drop (at + 8 * i) area) ≡ w ∷ v ∷ ws = rw (later, ← first) at (words_step area (at + 8 * i) (omega arith)) in
    partly_next s m (Add w v) more (rw here (rw less at (operations_pair 3 w v ws (n - i + (n - i)) refl (omega arith)))) stored

-- ---- the operations of an operator

module _ (word most r at to : ℕ) (area start m : List ℕ) (inside : count_in word ≤ length (words (drop at area))) where
  abbrev Operands : Type 0
  Operands = (r ≡ min (operations_in word) most) × (m ≡ sets start to (operations_words (take r (operations_at (words (drop at area)) (opcode_in word) (count_in word)))))

  pub operands_pairs : opcode_in word ≡ 3 → r ≡ min (count_in word / 2) most → m ≡ sets start to (operations_words (take r (operations_at (words (drop at area)) 3 (r + r)))) → Operands
  operands_pairs e least stored = (rw e least, rw e (stored ∙ ap (λ (os : List Operation). sets start to (operations_words os)) (pairs_cut r (count_in word) (words (drop at area)) (omega arith) (omega arith))))

  pub operands_singles : (opcode_in word ≡ 3 → ⊥) → r ≡ min (count_in word) most → m ≡ sets start to (operations_words (take r (operations_at (words (drop at area)) (opcode_in word) r))) → Operands
  operands_singles h least stored = (rw (ne_eqb (opcode_in word) 3 h) least, stored ∙ ap (λ (os : List Operation). sets start to (operations_words os)) (singles_cut (opcode_in word) h r (count_in word) (words (drop at area)) (omega arith) (omega arith)))

-- ---- a walk over the operators

module _ (area start : List ℕ) (count : ℕ) where
  -- the buffer with the first operations of an area, so many of them
  abbrev whole : List ℕ
  whole = sets start 0 (operations_words (take count (remaining area start_of)))

  -- i operations are stored, and a good operator or the end stands at a place: storing the others, which begin there, gives the whole
  pub record Walking (l : List ℕ) (at i : ℕ) : Type 0 where
    pub last : ℕ
    pub fine : verdict 0 at last (words (drop at area)) ≡ nodes.good
    pub within : i ≤ count
    pub ahead : count - i ≤ length (operations_at (words (drop at area)) 0 0)
    pub rest : sets l (3 * i) (operations_words (take (count - i) (operations_at (words (drop at area)) 0 0))) ≡ whole

  pub walking_first : count ≤ length (remaining area start_of) → verdict 0 16 0 (words (drop 16 area)) ≡ nodes.good → Walking start 16 0
  unfolding remaining
  walking_first h g = record { last = 0; fine = g; within = omega arith; ahead = rw sub-zero h; rest = rw sub-zero }

-- operations stand in words
some_words : (ws : List ℕ) → 0 < length (operations_at ws 0 0) → 1 ≤ length ws
unfolding operations_at
some_words [] h = absurd (omega arith)
some_words (w ∷ ws) h = omega arith

module _ {area start l : List ℕ} {count at i : ℕ} (s : Walking area start count l at i) where
  -- stores keep the length
  pub walking_length : length l ≡ length start
  walking_length = simp length-sets at (ap length s.rest)

  -- all are stored
  pub walking_all : count ≤ i → l ≡ whole area start count
  unfolding operations_words
  walking_all h = let none : count - i ≡ 0 = omega arith in rw none at s.rest

  module _ (more : i < count) where
    -- an operator stands there
    pub walking_fits : at + 4 ≤ length area
    walking_fits = omega (arith, some_words (words (drop at area)) (omega (arith, s.ahead)), words_inside (drop at area), length-drop at area)

    module _ (w : ℕ) (word : w ≡ be 4 area at) where
      abbrev ws : List ℕ
      ws = words (drop (at + 4) area)

      here : words (drop at area) ≡ w ∷ ws
      here = rw (← word) at (words_step area at walking_fits)

      some : w ≡ 0 → ⊥
      some z = let none = rw (here, operations_end 0 w ws z) at s.ahead in omega arith

      fault : fault_of w s.last (length ws) ≡ Ok (tt {0})
      fault = good_fine w at s.last ws some (rw here at s.fine)

      pub walking_operator : Operator w (length ws)
      walking_operator = operator w s.last (length ws) fault

      pub walking_inside : at + 4 + 4 * count_in w ≤ length area
      walking_inside = omega (arith, walking_fits, walking_operator.fits, words_inside (drop (at + 4) area), length-drop (at + 4) area)

      -- its operations are stored
      pub walking_next : (r : ℕ) (m : List ℕ) → r ≡ min (operations_in w) (count - i) → m ≡ sets l (3 * i) (operations_words (take r (operations_at ws (opcode_in w) (count_in w)))) → Walking area start count m (at + 4 + 4 * count_in w) (i + r)
      walking_next r m least stored =
          let n = count_in w in
          let os = operations_at ws (opcode_in w) n in
          let o = walking_operator in
          let behind : drop n ws ≡ words (drop (at + 4 + 4 * n) area) = words_drop n (drop (at + 4) area) ∙ ap words (drop-drop (4 * n) (at + 4) area) in
          let first : operations_at (words (drop at area)) 0 0 ≡ os = rw here (operations_more 0 w ws some) in
          let enough : count - i ≤ length os = rw first at s.ahead in
          let less : count - i - r ≡ count - (i + r) = omega arith in
          let passed = rw (operations_next (drop n ws) (opcode_in w), behind) at (operations_passed (opcode_in w) n ws o.fits o.even) in
          let split = rw (less, behind) at (operator_split (opcode_in w) n (count - i) r ws o.fits o.even least) in
          let place : 3 * (i + r) ≡ 3 * i + 3 * length (take r os) = omega (arith, length-take-le r os (omega arith)) in
          record {
            last = last_after s.last w;
            fine = sym (rw behind at (verdict_fine w at s.last ws some fault)) ∙ (rw here at s.fine);
            within = omega (arith, s.within);
            ahead = omega arith;
            rest = stored_many l m (3 * i) (3 * (i + r)) (take r os) _ stored place ∙ (rw (first, split) at s.rest);
          }

-- ---- what a check of an area tells of its reading

-- a check that refuses tells the refusal of the reading
pub refused_reading : (scope : ℕ) (area : List ℕ) (x : Result ℕ (Refused Refusal)) (r : Refused Refusal) → x ≡ check_of (reading scope area) → x ≡ Err r → reading scope area ≡ refused r.refusal r.offset
refused_reading scope area x r told e = go (reading scope area) told
  where
    go : (y : Reading Operation Refusal) → x ≡ check_of y → y ≡ refused r.refusal r.offset
    go (read os) h = cc
    go (refused q k) h = cc

-- of another size nothing is read
whole_size : (b : Bool) (x : Reading Operation Refusal) (os : List Operation) → cond (not b) (refused Size 0) x ≡ read os → b ≡ true
whole_size true x os e = refl
whole_size false x os e = cc

-- so the state of an area that is read can be read
area_size_lem : (scope : ℕ) (area : List ℕ) (os : List Operation) → reading scope area ≡ read os → length area ≡ area_size
unfolding reading
area_size_lem scope area os e = eqb-true (length area) area_size (whole_size (eqb (length area) area_size) _ os e)

-- an area that is read, of so many operations: those that a cursor at its start has before it
pub record Good (scope : ℕ) (area : List ℕ) (n : ℕ) : Type 0 where
  pub size : length area ≡ area_size
  pub is : reading scope area ≡ read (remaining area start_of)
  pub fine : verdict 0 16 0 (words (drop 16 area)) ≡ nodes.good
  pub entries : length (remaining area start_of) ≡ n

-- a check that finds operations passes such an area
pub good : (scope : ℕ) (area : List ℕ) (x : Result ℕ (Refused Refusal)) (n : ℕ) → x ≡ check_of (reading scope area) → x ≡ Ok n → Good scope area n
good scope area x n told e = go (reading scope area) refl told
  where
    go : (y : Reading Operation Refusal) → reading scope area ≡ y → x ≡ check_of y → Good scope area n
    go (read os) g h = let ahead = entries_in_order scope area os g in record { size = area_size_lem scope area os g; is = rw ahead g; fine = good_words scope area os g; entries = rw ahead (cc) }
    go (refused r at) g h = record { size = cc; is = cc; fine = cc; entries = cc }

-- taking more than all takes all
take_min : (os : List Operation) (k : ℕ) → take (min (length os) k) os ≡ take k os
take_min [] k = simp take-nil
take_min (o ∷ os) zero = rw min-zero
take_min (o ∷ os) (suc k) = rw suc-min-suc (ap (λ (ps : List Operation). o ∷ ps) (take_min os k))

-- the buffer with the first of its operations, no more than there are, is the reading's
pub good_out : {scope : ℕ} {area : List ℕ} {n : ℕ} → Good scope area n → (out m : List ℕ) (count : ℕ) → count ≡ min n (length out / 3) → m ≡ sets out 0 (operations_words (take count (remaining area start_of))) → m ≡ nodes_out out (reading scope area)
good_out g out m count least stored = stored ∙ rw (g.is, least, ← g.entries, take_min)
