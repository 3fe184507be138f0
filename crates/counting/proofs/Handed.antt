-- What an answered update-nodes call hands out: the operations of its run, and the words that the run costs.
use mathlib.Core.Path.{◌≡◌, refl, sym, ap, ◌∙◌}
use mathlib.Core.Bool.{true}
use mathlib.Core.Logic.{⊎_elim}
use mathlib.Core.List.{List, [], ◌∷◌, ◌++◌, append_assoc}
use Prim.Native.Nat.{ℕ, suc, ◌+◌, ◌*◌, ◌%◌, ◌≤◌, ◌<◌}
use native.Mathlib.Nat.{mod-eq_of_lt}
use native.Mathlib.Omega.{arith}
use lib.Arith.{digits_mod}
use lib.ListN.{length, drop, length-append}
use lib.Seq.{drop_at}
use borrow.Author.Tests.{leb-true}
use Rattle.words.specs.Numbers.{Bytes, be32, be64, be_bytes, word_bytes, words}
use Rattle.words.specs.Reading.{read}
use Rattle.words.proofs.Numbers.{be_bytes_lem}
use Rattle.words.proofs.Stores.{length_word_bytes, word_bytes_append}
use Rattle.words.proofs.Choice.{and_left, and_right}
use Rattle.journal.specs.declared.operation.Operation.{Operation}
use Rattle.journal.specs.declared.scope.Units.{Units}
use Rattle.journal.specs.Scope.{units_of, selection_of}
use Rattle.journal.specs.Reportable.{reportable}
use Rattle.node_area.specs.Head.{head_words}
use Rattle.node_area.specs.Reading.{reading}
use Rattle.nodes.specs.Run.{cost, run, next_state}
use Rattle.nodes.specs.Area.{operands_of, part, body, answer, written}
use Rattle.nodes.proofs.Runs.{length_part, length_body, run_facts}
use Rattle.calls.specs.Status.{is_given}
use Rattle.calls.specs.Lent.{part_at}
use Rattle.calls.specs.Buffer.{input, is_nodes, Found, Left, call_of, answered}
use Rattle.calls.specs.Claims.Terms.{Asks, status_of}
use Rattle.calls.specs.Claims.ExactNodes.{ExactNodes}
use Rattle.calls.proofs.Heads.{asked, has_status, number_is}
use Rattle.calls.proofs.Memory.{part_length, part_stored, written_length}
use Rattle.calls.proofs.Exact.{demand2}
use Rattle.counting.specs.Area.{words_used, tally_of}
use Rattle.counting.specs.Counts.{handed_out}
use Rattle.counting.specs.Claims.Counts.{RunCounted}
use Rattle.counting.proofs.UsedWords.{used_end, used_more}
use Rattle.counting.proofs.Ways.{handed_is}
use Rattle.counting.proofs.OwnBuffer.{word_kept}

-- ---- the words of a run

-- the first of words in bytes
first_word : (w : ℕ) (ws r : List ℕ) → words (word_bytes (w ∷ ws) ++ r) ≡ w % 0x1_0000_0000 ∷ words (word_bytes ws ++ r)
unfolding words word_bytes be_bytes
first_word w ws r = rw (be_bytes_lem 4 w [])

-- operands are used whatever they are
used_operands : (vs r : List ℕ) → words_used (length vs) (words (word_bytes vs ++ r)) ≡ length vs + words_used 0 (words r)
unfolding words_used word_bytes
used_operands [] r = omega arith
used_operands (v ∷ vs) r = rw (first_word v vs r) (omega (arith, used_operands vs r))

used_part : (code : ℕ) (vs r : List ℕ) → code ≤ 3 → length vs < 0x0100_0000 → words_used 0 (words (word_bytes (part code vs) ++ r)) ≡ length (part code vs) + words_used 0 (words r)
unfolding word_bytes
used_part code [] r h l = omega arith
used_part code (v ∷ vs) r h l =
    let w = code * 0x0100_0000 + length (v ∷ vs) in
    let small : w % 0x1_0000_0000 ≡ w = mod-eq_of_lt (omega arith) in
    let rest = words (word_bytes (v ∷ vs) ++ r) in
    ap (words_used 0) (first_word w (v ∷ vs) r ∙ ap (λ (n : ℕ). n ∷ rest) small) ∙ used_more w rest (λ e. omega arith)
    ∙ ap (λ (n : ℕ). suc (words_used n rest)) (digits_mod code l) ∙ omega (arith, used_operands (v ∷ vs) r)

used_zero : (r : List ℕ) → words_used 0 (words (word_bytes (0 ∷ []) ++ r)) ≡ 0
used_zero r = ap (words_used 0) (first_word 0 [] r) ∙ used_end 0 _ refl

used_body : (os : List Operation) (r : List ℕ) → cost os ≤ 1019 → words_used 0 (words (word_bytes (body os ++ (0 ∷ [])) ++ r)) ≡ cost os
unfolding body
used_body os r h =
    let p : ℕ → List ℕ = λ code. part code (operands_of code os) in
    let e = word_bytes (0 ∷ []) ++ r in
    let size : length (p 1) + (length (p 2) + length (p 3)) ≡ cost os = simp length-append at (length_body os) in
    let whole : word_bytes (p 1 ++ (p 2 ++ p 3) ++ (0 ∷ [])) ++ r ≡ word_bytes (p 1) ++ (word_bytes (p 2) ++ (word_bytes (p 3) ++ e)) = simp (word_bytes_append, append_assoc) in
    ap (λ (l : List ℕ). words_used 0 (words l)) whole
    ∙ omega (
      arith,
      used_part 1 (operands_of 1 os) (word_bytes (p 2) ++ (word_bytes (p 3) ++ e)) (omega arith) (omega (arith, length_part 1 (operands_of 1 os))),
      used_part 2 (operands_of 2 os) (word_bytes (p 3) ++ e) (omega arith) (omega (arith, length_part 2 (operands_of 2 os))),
      used_part 3 (operands_of 3 os) e (omega arith) (omega (arith, length_part 3 (operands_of 3 os))),
      used_zero r,
    )

-- behind the head of an area that was written
used_written : (units : Units) (area : List ℕ) (os : List Operation) (state : ℕ) → state ≤ length os → words_used 0 (words (drop 16 (written units area os state))) ≡ cost (run os state)
unfolding written answer
used_written units area os state h =
    let head = head_words units (next_state os state) in
    let more = body (run os state) ++ (0 ∷ []) in
    let rest = drop (length (word_bytes (answer units os state))) area in
    let cut : written units area os state ≡ word_bytes head ++ (word_bytes more ++ rest) = ap (λ (l : List ℕ). l ++ rest) (word_bytes_append head more) ∙ append_assoc (word_bytes head) (word_bytes more) rest in
    ap (λ (l : List ℕ). words_used 0 (words (drop 16 l))) cut
    ∙ ap (λ (l : List ℕ). words_used 0 (words l)) (drop_at (word_bytes head) (word_bytes more ++ rest) 16 (length_word_bytes head))
    ∙ used_body (run os state) rest (run_facts os state h).fits

-- ---- the call

tally_by_lem : (scope : ℕ) (area : List ℕ) (os : List Operation) → reading scope area ≡ read os → words_used 0 (words (drop 16 area)) ≡ cost os
    → tally_of scope area ≡ record { operations = length os; words = cost os }
unfolding tally_of
tally_by_lem scope area os e u = rw (e, u)

module _ (f : Found) (own : is_nodes f.args ≡ true) (told : answered f.args (call_of f) ≡ true) where
  abbrev b : List ℕ
  b = f.args

  abbrev x : Left
  x = call_of f

  abbrev address : ℕ
  address = input b 0

  abbrev scope : ℕ
  scope = input b 1

  abbrev area : List ℕ
  area = part_at f.memory address 4096

  abbrev os : List Operation
  os = reportable (selection_of scope (be64 area 4)) f.journal

  abbrev state : ℕ
  state = be32 area 0

  abbrev left : List ℕ
  left = part_at x.memory address 4096

  asks : Asks 1 2 1 b
  asks = asked 1 2 1 b own

  low : status_of b x ≤ 1
  unfolding answered
  low = leb-true _ 1 (and_right (is_given x.number) _ told)

  exact : ExactNodes f.memory f.journal address scope (status_of b x) x.memory
  unfolding answered
  exact = ((demand2.statuses f (has_status f (ap is_given (sym (number_is f)) ∙ and_left _ _ told))).nodes asks).0

  within : state ≤ length os
  within = ⊎_elim (λ e. omega (arith, e)) (λ l. omega (arith, l)) (exact.answered.0 low).1.begun

  size : length (written (units_of scope (be64 area 4)) area os state) ≡ 4096
  size = written_length _ area os state (part_length f.memory address 4096 (exact.answered.0 low).0.inside) within

  left_is : left ≡ written (units_of scope (be64 area 4)) area os state
  left_is = ap (λ (l : List ℕ). part_at l address 4096) (exact.memory low) ∙ part_stored f.memory address 4096 (exact.answered.0 low).0.inside _ size

  tally_is : Bytes f.memory → Bytes f.journal → tally_of scope left ≡ record { operations = length (run os state); words = cost (run os state) }
  tally_is memory journal =
      tally_by_lem scope left (run os state) (exact.answers memory journal low).reads_back
      (ap (λ (l : List ℕ). words_used 0 (words (drop 16 l))) left_is ∙ used_written _ area os state within)

  handed : handed_out (status_of b x) x.args x.memory ≡ tally_of scope left
  handed =
      handed_is x.args x.memory (status_of b x) (word_kept f 0 (omega arith) ∙ asks.0) (word_kept f 4 (omega arith) ∙ asks.1) (word_kept f 8 (omega arith) ∙ asks.2) low
      ∙ rw (word_kept f 12 (omega (arith, asks)), word_kept f 16 (omega (arith, asks)))

pub run_counted : RunCounted
run_counted f memory journal own told = handed f own told ∙ tally_is f own told memory journal
