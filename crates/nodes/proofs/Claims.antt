-- The claims about node areas hold.
use mathlib.Core.Path.{◌≡◌, refl, ap, ◌∙◌}
use mathlib.Core.Bool.{true, cond}
use mathlib.Core.List.{List, [], ◌∷◌, ◌++◌, append_assoc, append-nil}
use Prim.Native.Nat.{ℕ, zero, suc, ◌≤◌, ◌<◌}
use native.Mathlib.Omega.{arith}
use lib.Dec.{eqb}
use lib.ListN.{length, take, drop, length-append, length-drop}
use borrow.Author.Tests.{eq-eqb, ne_eqb, ltb-true}
use Rattle.journal.specs.Scope.{units_of, Selection}
use Rattle.journal.specs.declared.scope.Units.{Units}
use Rattle.words.specs.Numbers.{Small, word_bytes, words}
use Rattle.words.proofs.Stores.{length_word_bytes}
use Rattle.words.proofs.Words.{words_bytes}
use Rattle.records.specs.Choosing.{chosen_by}
use Rattle.journal.specs.declared.operation.Operation.{Operation}
use Rattle.journal.specs.Journal.{Entry, opcode, operands, entries}
use Rattle.journal.specs.Reportable.{reports, chosen, reportable, operand_words}
use Rattle.words.proofs.Choice.{choose}
use Rattle.journal.proofs.Entries.{operations_few}
use Rattle.journal.proofs.Operands.{SmallEntries, entries_small}
use Rattle.journal.proofs.Walks.{within_limit}
use Rattle.node_area.specs.Head.{area_size, head_size, address_of, is_reserved}
use Rattle.nodes.specs.Run.{area_words, present, cost, longest, run, remains, next_state}
use Rattle.nodes.specs.Claims.Longest.{AllOf}
use Rattle.nodes.specs.Area.{operands_of, part, body, answer, written}
use Rattle.words.specs.Reading.{read}
use Rattle.node_area.specs.Reading.{good, verdict, operations_at, reading}
use Rattle.nodes.specs.Claims.Nodes.{CostExactly, part_of, OperatorsExactly, NextExactly, Sorted, SmallOperands, Listed, operators_at, Filled, ReportableListed, NeverEmpty, WellFilled, AreaClaims}
use Rattle.nodes.proofs.Runs.{length_operands_of, length_body, longest_run, run_facts, next_le}
use Rattle.nodes.proofs.Listed.{chosen_code}
use Rattle.nodes.proofs.Decoding.{sorted_lower, body_reads}
use Rattle.nodes.proofs.Carried.{reserved_of, written_head}

-- ---- every reportable list is listed

-- operations of an opcode, and behind them those of higher ones
sorted_join : (code : ℕ) (os ps : List Operation) → AllOf code os → Sorted (suc code) ps → Sorted code (os ++ ps)
sorted_join code [] ps c s = sorted_lower code (suc code) ps (omega arith) s
sorted_join code (o ∷ os) ps c s = (omega (arith, c.0), rw c.0 (sorted_join code os ps c.1 s))

small_join : (os ps : List Operation) → SmallOperands os → SmallOperands ps → SmallOperands (os ++ ps)
small_join [] ps h g = g
small_join (o ∷ os) ps h g = (h.0, small_join os ps h.1 g)

chosen_small : (selection : Selection) (code : ℕ) (es : List Entry) → SmallEntries es → SmallOperands (chosen selection code es)
unfolding chosen_by
chosen_small selection code [] h = tt
chosen_small selection code (e ∷ es) h =
    choose (reports selection code e) SmallOperands {x = e.operation ∷ chosen selection code es} {y = chosen selection code es}
    (λ _. (h.0, chosen_small selection code es h.1))
    (λ _. chosen_small selection code es h.1)

reportable_listed : ReportableListed
unfolding reportable
reportable_listed selection j bytes formed =
    let of : ℕ → List Operation = λ code. chosen selection code (entries j) in
    let from : (code : ℕ) (ps : List Operation) → Sorted (suc code) ps → Sorted code (of code ++ ps) = λ code ps s. sorted_join code (of code) ps (chosen_code selection code (entries j)) s in
    let fit : (code : ℕ) → SmallOperands (of code) = λ code. chosen_small selection code (entries j) (entries_small j bytes) in
    record {
      sorted = sorted_lower 0 1 (of 1 ++ (of 2 ++ of 3)) (omega arith) (from 1 (of 2 ++ of 3) (from 2 (of 3) (rw append-nil at (from 3 [] tt))));
      small = small_join (of 1) (of 2 ++ of 3) (fit 1) (small_join (of 2) (of 3) (fit 2) (fit 3));
      few = simp length-append (omega (arith, within_limit j formed, operations_few selection j 1, operations_few selection j 2, operations_few selection j 3));
    }

-- ---- the words of an answer

small_append : (xs ys : List ℕ) → Small xs → Small ys → Small (xs ++ ys)
small_append [] ys h g = g
small_append (x ∷ xs) ys h g = (h.0, small_append xs ys h.1 g)

small_operands_of : (code : ℕ) (os : List Operation) → SmallOperands os → Small (operands_of code os)
unfolding operands_of
small_operands_of code [] h = tt
small_operands_of code (o ∷ os) h =
    small_append (cond (eqb (opcode o) code) (operands o) []) (operands_of code os)
    (choose (eqb (opcode o) code) Small {x = operands o} {y = []} (λ _. h.0) (λ _. tt)) (small_operands_of code os h.1)

small_part : (code : ℕ) (ws : List ℕ) → code ≤ 3 → length ws < 0x0100_0000 → Small ws → Small (part code ws)
small_part code [] h l s = tt
small_part code (w ∷ ws) h l s = (omega arith, s)

small_body : (os : List Operation) → cost os ≤ area_words → SmallOperands os → Small (body os)
unfolding body cost
small_body os h s =
    let sum = length_operands_of os in
    small_append (part 1 (operands_of 1 os)) _ (small_part 1 (operands_of 1 os) (omega arith) (omega arith) (small_operands_of 1 os s))
    (small_append (part 2 (operands_of 2 os)) _ (small_part 2 (operands_of 2 os) (omega arith) (omega arith) (small_operands_of 2 os s))
    (small_part 3 (operands_of 3 os) (omega arith) (omega arith) (small_operands_of 3 os s)))

-- ---- a run of a listed list

small_take : (n : ℕ) (os : List Operation) → SmallOperands os → SmallOperands (take n os)
small_take zero os h = tt
small_take (suc n) [] h = tt
small_take (suc n) (o ∷ os) h = (h.0, small_take n os h.1)

small_drop : (n : ℕ) (os : List Operation) → SmallOperands os → SmallOperands (drop n os)
small_drop zero os h = h
small_drop (suc n) [] h = tt
small_drop (suc n) (o ∷ os) h = small_drop n os h.1

sorted_take : (n least : ℕ) (os : List Operation) → Sorted least os → Sorted least (take n os)
sorted_take zero least os s = tt
sorted_take (suc n) least [] s = tt
sorted_take (suc n) least (o ∷ os) s = (s.0, sorted_take n (opcode o) os s.1)

sorted_drop : (n least : ℕ) (os : List Operation) → Sorted least os → Sorted least (drop n os)
sorted_drop zero least os s = s
sorted_drop (suc n) least [] s = tt
sorted_drop (suc n) least (o ∷ os) s = sorted_drop n least os (sorted_lower least (opcode o) os s.0 s.1)

module _ (scope unit : ℕ) (area : List ℕ) (os : List Operation) (state : ℕ) (small : unit < 0x1_0000_0000_0000_0000) (size : length area ≡ area_size) (l : Listed os) (inside : state ≤ length os) where
  abbrev units : Units
  units = units_of scope unit

  abbrev behind : List ℕ
  behind = drop (length (word_bytes (answer units os state))) area

  run_sorted : Sorted 0 (run os state)
  unfolding run
  run_sorted = sorted_take (longest (length (drop state os)) (drop state os)) 0 (drop state os) (sorted_drop state 0 os l.sorted)

  run_small : SmallOperands (run os state)
  unfolding run
  run_small = small_take (longest (length (drop state os)) (drop state os)) (drop state os) (small_drop state os l.small)

  run_fits : cost (run os state) ≤ area_words
  run_fits = (run_facts os state inside).fits

  address_small : address_of units < 0x1_0000_0000_0000_0000
  unfolding units_of
  address_small = choose (eqb scope 3) (λ (u : Units). address_of u < 0x1_0000_0000_0000_0000) (λ _. small) (λ _. omega arith)

  answer_small : Small (answer units os state)
  unfolding answer
  answer_small =
      let behind = small_append (body (run os state)) (0 ∷ []) (small_body (run os state) run_fits run_small) (omega arith, tt) in
      let address = address_small in
      (omega (arith, next_le os state inside, l.few), (omega arith, (omega arith, (omega arith, behind))))

  written_size : length (written units area os state) ≡ area_size
  unfolding written answer
  written_size = simp (length-append, length-drop, length_word_bytes, length_body) (omega (arith, run_fits))

  written_zeros : is_reserved scope (written units area os state) ≡ true
  written_zeros = reserved_of (written units area os state) scope unit (next_state os state) (written_head units area os state)

  written_words : drop 4 (words (written units area os state)) ≡ body (run os state) ++ (0 ∷ words behind)
  unfolding written answer
  written_words = ap (drop 4) (words_bytes (answer units os state) behind answer_small) ∙ append_assoc (body (run os state)) (0 ∷ []) (words behind)

  reads : (verdict 0 head_size 0 (body (run os state) ++ (0 ∷ words behind)) ≡ good) × (operations_at (body (run os state) ++ (0 ∷ words behind)) 0 0 ≡ run os state) × Filled (operators_at 0 (body (run os state) ++ (0 ∷ words behind)))
  reads = body_reads (run os state) (words behind) run_sorted run_fits head_size 0 (omega arith)

  read_back : reading scope (written units area os state) ≡ read (run os state)
  unfolding reading
  read_back = rw (written_size, written_zeros, written_words, reads.0, reads.1)

  none_empty : Filled (operators_at 0 (drop 4 (words (written units area os state))))
  none_empty = rw written_words reads.2

-- ---- all of them

never_empty : NeverEmpty
never_empty os state h = (run_facts os state (omega arith)).some_more h

well_filled : WellFilled
unfolding remains
well_filled os state h r = (run_facts os state h).many (ltb-true _ _ r)

-- ---- what a run costs, and the words of an answer

cost_exactly : CostExactly
unfolding cost present operand_words
cost_exactly = record {
  sum = λ os. refl;
  absent = λ code. refl;
  here = λ o os. rw (eq-eqb (opcode o) (opcode o) refl);
  other = λ code o os n. rw (ne_eqb (opcode o) code n);
  no_words = refl;
  delete = λ p os. (refl, refl);
  update = λ p os. (refl, refl);
  add = λ p d os. (refl, refl);
}

same_part : (code : ℕ) (ws : List ℕ) → part_of code ws ≡ part code ws
same_part code [] = refl
same_part code (w ∷ ws) = refl

operators_exactly : OperatorsExactly
unfolding answer body
operators_exactly units os state =
    let handed = run os state in
    rw (same_part 1 (operands_of 1 handed), same_part 2 (operands_of 2 handed), same_part 3 (operands_of 3 handed))

next_exactly : NextExactly
unfolding next_state remains
next_exactly os state = (refl, refl)

pub area_claims : AreaClaims
unfolding written
area_claims =
    record {
      cost_exactly = cost_exactly;
      operators = operators_exactly;
      states = next_exactly;
      whole_area_claim = λ units area os state. refl;
      within = λ state all. refl;
      reportable_listed = reportable_listed;
      round_trip = read_back;
      none_empty = none_empty;
      longest_run = longest_run;
      never_empty = never_empty;
      well_filled = well_filled;
    }
