-- Laws of runs: what they cost, how long the longest is, and that one which leaves something has at least 1,015 operand words.
use mathlib.Core.Path.{◌≡◌, refl, ap, ◌∙◌, sym, subst}
use mathlib.Core.Bool.{Bool, true, false, cond}
use mathlib.Core.List.{List, [], ◌∷◌, ◌++◌}
use mathlib.Core.Logic.{⊎_elim}
use Prim.Native.Nat.{ℕ, zero, suc, ◌+◌, ◌*◌, ◌-◌, ◌≤◌, ◌<◌}
use native.Mathlib.Omega.{arith}
use native.Mathlib.Nat.{eq-or-lt_of_le, lt_of_not-le}
use lib.Dec.{leb, eqb}
use borrow.Author.Tests.{leb-true, leb-false}
use lib.ListN.{length, take, drop, length-append, length-take, length-drop, take-append-drop}
use lib.Seq.{take-add, length-take-le, take-take}
use Rattle.journal.specs.declared.operation.Operation.{Operation}
use Rattle.journal.specs.declared.operation.Operation.TheVariants.{Delete, Update, Add}
use Rattle.journal.specs.Journal.{opcode, operands}
use Rattle.journal.specs.Reportable.{operand_words}
use Rattle.words.proofs.Choice.{choose}
use Rattle.nodes.specs.Run.{area_words, filled_words, present, cost, longest, run, remains, next_state, operator, part_words}
use Rattle.nodes.specs.Claims.Longest.{LongestOf, LongestRun}
use Rattle.nodes.specs.Area.{operands_of, part, body}

-- ---- operators

pub operator_zero : (n : ℕ) → n ≡ 0 → operator n ≡ 0
unfolding operator
operator_zero zero h = refl
operator_zero (suc n) h = absurd (omega arith)

pub operator_pos : (n : ℕ) → 0 < n → operator n ≡ 1
unfolding operator
operator_pos zero h = absurd (omega arith)
operator_pos (suc n) h = refl

pub operator_le : (n : ℕ) → operator n ≤ 1
unfolding operator
operator_le zero = omega arith
operator_le (suc n) = omega arith

pub length_part : (code : ℕ) (ws : List ℕ) → length (part code ws) ≡ part_words (length ws)
unfolding operator
length_part code [] = refl
length_part code (w ∷ ws) = omega arith

-- ---- operand words

pub operands_some : (o : Operation) → (0 < length (operands o)) × (length (operands o) ≤ 2)
operands_some (Delete p) = (omega arith, omega arith)
operands_some (Update p) = (omega arith, omega arith)
operands_some (Add p i) = (omega arith, omega arith)

pub operand_words_append : (os ps : List Operation) → operand_words (os ++ ps) ≡ operand_words os + operand_words ps
unfolding operand_words
operand_words_append [] ps = omega arith
operand_words_append (o ∷ os) ps = omega (arith, operand_words_append os ps)

pub length_le_operand_words : (os : List Operation) → length os ≤ operand_words os
unfolding operand_words
length_le_operand_words [] = omega arith
length_le_operand_words (o ∷ os) = omega (arith, operands_some o, length_le_operand_words os)

pub operand_words_le : (os : List Operation) → operand_words os ≤ 2 * length os
unfolding operand_words
operand_words_le [] = omega arith
operand_words_le (o ∷ os) = omega (arith, operands_some o, operand_words_le os)

-- one operation more is at most two operand words more
operand_words_suc : (m : ℕ) (os : List Operation) → operand_words (take (suc m) os) ≤ operand_words (take m os) + 2
unfolding operand_words
operand_words_suc m [] = omega arith
operand_words_suc zero (o ∷ os) = omega (arith, operands_some o)
operand_words_suc (suc m) (o ∷ os) = omega (arith, operand_words_suc m os)

-- the operand words of a list are those of its three opcodes
pub length_operands_of : (os : List Operation) → length (operands_of 1 os) + length (operands_of 2 os) + length (operands_of 3 os) ≡ operand_words os
unfolding operands_of operand_words
length_operands_of [] = refl
length_operands_of (Delete p ∷ os) = omega (arith, length_operands_of os)
length_operands_of (Update p ∷ os) = omega (arith, length_operands_of os)
length_operands_of (Add p i ∷ os) = omega (arith, length_operands_of os)

-- ---- what a run costs

-- an opcode is present where it has operand words
present_is : (code : ℕ) (os : List Operation) → present code os ≡ operator (length (operands_of code os))
unfolding present operands_of operator
present_is code [] = refl
present_is code (o ∷ os) = go (eqb (opcode o) code) (present_is code os)
  where
    go : (b : Bool) → present code os ≡ operator (length (operands_of code os)) → cond b 1 (present code os) ≡ operator (length (cond b (operands o) [] ++ operands_of code os))
    go true ih = sym (operator_pos (length (operands o ++ operands_of code os)) (simp length-append (omega (arith, operands_some o))))
    go false ih = ih

-- a body is as long as its run costs
pub length_body : (os : List Operation) → length (body os) ≡ cost os
unfolding body cost
length_body os =
    simp (length-append, length_part) (omega (arith, present_is 1 os, present_is 2 os, present_is 3 os, length_operands_of os))

present_le : (code : ℕ) (os : List Operation) → present code os ≤ 1
present_le code os = rw (present_is code os) (operator_le (length (operands_of code os)))

cost_le : (os : List Operation) → cost os ≤ 3 + operand_words os
unfolding cost
cost_le os = omega (arith, present_le 1 os, present_le 2 os, present_le 3 os)

-- an opcode that a part of a list has, the list has
present_parts : (code : ℕ) (os ps : List Operation) → (present code os ≤ present code (os ++ ps)) × (present code ps ≤ present code (os ++ ps))
unfolding present
present_parts code [] ps = omega arith
present_parts code (o ∷ os) ps = go (eqb (opcode o) code) (present_parts code os ps)
  where
    go : (b : Bool) → (present code os ≤ present code (os ++ ps)) × (present code ps ≤ present code (os ++ ps))
        → (cond b 1 (present code os) ≤ cond b 1 (present code (os ++ ps))) × (present code ps ≤ cond b 1 (present code (os ++ ps)))
    go true ih = omega (arith, present_le code ps)
    go false ih = ih

-- a part of a run costs no more: its first operations, and what stands behind them
cost_parts : (os ps : List Operation) → (cost os ≤ cost (os ++ ps)) × (cost ps ≤ cost (os ++ ps))
unfolding cost
cost_parts os ps = omega (arith, present_parts 1 os ps, present_parts 2 os ps, present_parts 3 os ps, operand_words_append os ps)

pub cost_take : (m : ℕ) (os : List Operation) → cost (take m os) ≤ cost os
cost_take m os = rw take-append-drop at (cost_parts (take m os) (drop m os)).0

pub cost_drop : (m : ℕ) (os : List Operation) → cost (drop m os) ≤ cost os
cost_drop m os = rw take-append-drop at (cost_parts (take m os) (drop m os)).1

cost_shorter : (m n : ℕ) (os : List Operation) → m ≤ n → cost (take m os) ≤ cost (take n os)
cost_shorter m n os h = subst (λ (x : List Operation). cost x ≤ cost (take n os)) (take-take m n os h) (cost_take m (take n os))

-- ---- the longest run

-- its length is within the bound, so many operations fit, and no more do
longest_within : (n : ℕ) (os : List Operation) → longest n os ≤ n
unfolding longest
longest_within zero os = omega arith
longest_within (suc n) os = choose (leb (cost (take (suc n) os)) area_words) (λ (m : ℕ). m ≤ suc n) (λ e. omega arith) (λ e. omega (arith, longest_within n os))

longest_fits : (n : ℕ) (os : List Operation) → cost (take (longest n os) os) ≤ area_words
unfolding longest cost present operand_words
longest_fits zero os = omega arith
longest_fits (suc n) os = choose (leb (cost (take (suc n) os)) area_words) (λ (m : ℕ). cost (take m os) ≤ area_words) (λ e. leb-true _ _ e) (λ e. longest_fits n os)

longest_most : (n : ℕ) (os : List Operation) (m : ℕ) → m ≤ n → longest n os < m → area_words < cost (take m os)
unfolding longest
longest_most zero os m h = λ l. absurd (omega arith)
longest_most (suc n) os m h = choose (leb (cost (take (suc n) os)) area_words) (λ (k : ℕ). k < m → area_words < cost (take m os))
    (λ e l. absurd (omega arith))
    (λ e l. ⊎_elim
    (λ q. subst (λ (i : ℕ). area_words < cost (take i os)) (sym q) (leb-false _ _ e))
    (λ g. longest_most n os m (omega arith) l)
    (eq-or-lt_of_le h))

longest_is : (os : List Operation) → LongestOf os (take (longest (length os) os) os)
longest_is os =
    let m = longest (length os) os in
    let t : length (take m os) ≡ m = length-take-le m os (longest_within (length os) os) in
    record { first = rw t; fits = longest_fits (length os) os; no_longer = λ n l h. longest_most (length os) os n h (omega arith) }

-- so are the first m operations that fit, where with one operation more they do not
pub longest_by : (os : List Operation) (m : ℕ) → m ≤ length os → cost (take m os) ≤ area_words → (m < length os → area_words < cost (take (suc m) os)) → LongestOf os (take m os)
longest_by os m within fits full =
    let t : length (take m os) ≡ m = length-take-le m os within in
    record { first = rw t; fits = fits; no_longer = λ n h g. omega (arith, full (omega arith), cost_shorter (suc m) n os (omega arith)) }

module _ (os : List Operation) where
  longest_inside : (a : List Operation) → LongestOf os a → length a ≤ length os
  longest_inside a l = omega (arith, ap length l.first, length-take (length a) os)

  -- none is longer than another
  longest_le : (a b : List Operation) → LongestOf os a → LongestOf os b → length b ≤ length a
  longest_le a b l k =
      let h : length b < suc (length a) = lt_of_not-le (λ h. omega (arith, l.no_longer (length b) (omega arith) (longest_inside b k), k.fits, ap cost k.first)) in
      omega arith

  -- so there is but one
  pub longest_one : (a b : List Operation) → LongestOf os a → LongestOf os b → a ≡ b
  longest_one a b l k =
      let n : length a ≡ length b = omega (arith, longest_le a b l k, longest_le b a k l) in
      l.first ∙ ap (λ (i : ℕ). take i os) n ∙ sym k.first

-- ---- the run of a call

pub longest_run : LongestRun
unfolding run
longest_run os state = longest_is (drop state os)

-- The run from a state on fits and ends within the list; with what stands before the state it is the list's first operations; it leaves something only
-- after 1,015 operand words; and it is not empty where something is left.
pub record RunFacts (os : List Operation) (k : ℕ) : Type 0 where
  pub fits : cost (run os k) ≤ area_words
  pub within : k + length (run os k) ≤ length os
  pub so_far : take k os ++ run os k ≡ take (k + length (run os k)) os
  pub words_so_far : operand_words (take (k + length (run os k)) os) ≡ operand_words (take k os) + operand_words (run os k)
  pub many : k + length (run os k) < length os → filled_words ≤ operand_words (run os k)
  pub some_more : k < length os → 0 < length (run os k)

pub run_facts : (os : List Operation) (k : ℕ) → k ≤ length os → RunFacts os k
run_facts os k h =
    let r = drop k os in
    let m = length (run os k) in
    let l : LongestOf r (run os k) = longest_run os k in
    let d : length r ≡ length os - k = length-drop k os in
    let joins : take k os ++ run os k ≡ take (k + m) os = ap (λ (x : List Operation). take k os ++ x) l.first ∙ sym (take-add k m os) in
    let full : m < length r → filled_words ≤ operand_words (run os k) = λ g. omega (arith, l.no_longer (suc m) (omega arith) g, cost_le (take (suc m) r), operand_words_suc m r, ap operand_words l.first) in
    let inside : m ≤ length r = longest_inside r (run os k) l in
    record {
      fits = l.fits;
      within = omega arith;
      so_far = joins;
      words_so_far = ap operand_words (sym joins) ∙ operand_words_append (take k os) (run os k);
      many = λ g. full (omega arith);
      some_more = λ g. ⊎_elim (λ q. omega arith) (λ q. omega (arith, full q, operand_words_le (run os k))) (eq-or-lt_of_le inside);
    }

-- the state after a call is a place in the list
pub next_le : (os : List Operation) (k : ℕ) → k ≤ length os → next_state os k ≤ length os
unfolding next_state
next_le os k h = choose (remains os k) (λ (n : ℕ). n ≤ length os) (λ e. (run_facts os k h).within) (λ e. omega arith)
