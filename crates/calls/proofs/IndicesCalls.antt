-- Laws of a call: what an answered get-indices call leaves, and when it is answered.
use mathlib.Core.Path.{◌≡◌, refl, ap, ◌∙◌, sym}
use mathlib.Core.Bool.{Bool, true, false, cond, false≢true}
use mathlib.Core.List.{List, []}
use Prim.Native.Nat.{ℕ, ◌+◌, ◌-◌, ◌≤◌, ◌<◌}
use native.Mathlib.Nat.{mod-eq_of_lt}
use native.Mathlib.Omega.{arith}
use lib.Dec.{ltb}
use lib.ListN.{length, take, drop, length-drop}
use borrow.Author.Tests.{ltb-true, le-leb}
use Rattle.words.specs.Numbers.{Bytes, be32}
use Rattle.words.proofs.Choice.{choose, and_left, and_right}
use Rattle.inventory.specs.Inventory.{code_limit, well_formed}
use Rattle.inventory.specs.Listing.{Entry, listed}
use Rattle.indices.specs.Area.{run}
use Rattle.words.specs.Reading.{read}
use Rattle.indices.specs.Reading.{reading}
use Rattle.inventory.proofs.Listed.{listed_few, listed_sound}
use Rattle.indices.proofs.Written.{fitting_few, fitting_front, holds_due}
use Rattle.inventory.specs.declared.edition.Edition.{Edition}
use Rattle.calls.specs.Claims.Terms.{naming}
use Rattle.calls.specs.declared.reading_record.ReadingRecord.{ReadingRecord}
use Rattle.calls.specs.declared.request.Request.{Request}
use Rattle.calls.specs.ReadingRecord.{is_named, is_current}
use Rattle.calls.specs.Lent.{part_at}
use Rattle.calls.specs.Status.{is_given, is_answer, status_word}
use Rattle.calls.specs.GetIndices.{askable, lendable, entries_for, number_in, run_for, good_number, due_fits, more_entries, indices_status, indices_memory, next_number}
use Rattle.calls.specs.Buffer.{token, input, status_at, number_for, is_indices, request_of, Outcome, indices_outcome, outcome, Found, call_of, answered}
use Rattle.calls.specs.Claims.Session.{is_answered, status_then}
use Rattle.calls.specs.Claims.IndexSession.{area_then, number_then, Made}
use Rattle.calls.proofs.Heads.{whole_buffer, given_by, asks_by, asked, carried_out, outcome_ways, indices_outcome_lem}
use Rattle.calls.proofs.Calls.{status_word_lem, answered_by, word_either, second_stored}
use Rattle.calls.proofs.ReadingRecords.{record_either}
use Rattle.calls.proofs.Requests.{Passed, passed_is, indices_status_lem, indices_answers, reads_back, run_some, some_due}

-- the next number fits its word: an inventory has no more entries than bytes
next_fits : (i : List ℕ) (q : Request) → well_formed i ≡ true → next_number i q < 0x1_0000_0000
unfolding next_number more_entries
next_fits i q w = choose (more_entries i q) (λ (n : ℕ). n < 0x1_0000_0000)
    (λ e. omega (arith, ltb-true (number_in q - 1 + length (run_for i q)) (length (entries_for i q)) e, listed_few q.flag q.item_type i w))
    (λ _. omega arith)

module _ (c : Found) where
  abbrev b : List ℕ
  b = c.args

  abbrev m : List ℕ
  m = c.memory

  abbrev i : List ℕ
  i = c.inventory

  abbrev ed : Edition
  ed = c.edition

  abbrev r : ReadingRecord
  r = c.reading

  abbrev q : Request
  q = request_of b

  pub record Answered : Type 0 where
    pub passed : Passed m i ed r q
    pub memory : (call_of c).memory ≡ indices_memory m i ed r q
    pub reads_back : Bytes i → reading (part_at (call_of c).memory q.address q.size) ≡ read (run_for i q)
    pub status : be32 (call_of c).args (status_at b) ≡ cond (more_entries i q) 1 0
    pub number : be32 (call_of c).args (status_at b + 4) ≡ next_number i q
    pub record_is : (call_of c).reading ≡ cond (more_entries i q) (naming q.flag q.item_type (next_number i q) ed.0) (naming 0 0 1 0)

  -- an answered call with its token has its counts
  indices_only : token b ≡ 2 → is_answer (outcome c).status ≡ true → is_indices b ≡ true
  indices_only n = outcome_ways c (λ (o : Outcome). is_answer o.status ≡ true → is_indices b ≡ true)
      (λ e _. absurd (omega (arith, n, asked 1 2 1 b e))) (λ e _. e) (λ e _. absurd (omega (arith, n, asked 3 3 1 b e))) (λ e _. absurd (omega (arith, n, asked 4 2 1 b e)))
      (λ h. absurd (false≢true h))

  module _ (given : is_given (number_for b) ≡ true) (own : is_indices b ≡ true) where
    work : outcome c ≡ indices_outcome c
    work = indices_outcome_lem c own

    both_inside : status_at b + 8 ≤ length b
    both_inside = let w = whole_buffer b given in omega (arith, asked 2 5 2 b own)

    memory : (call_of c).memory ≡ indices_memory m i ed r q
    unfolding indices_outcome
    memory = rw (carried_out c given, work)

    pub number_word : Passed m i ed r q → be32 (call_of c).args (status_at b + 4) ≡ next_number i q
    unfolding indices_outcome
    number_word p =
        rw (carried_out c given, work, indices_answers m i ed r q p)
        (second_stored b (status_at b) (status_word (indices_status m i ed r q)) (next_number i q) [] both_inside ∙ mod-eq_of_lt (next_fits i q p.formed))

    record_left : Passed m i ed r q → (call_of c).reading ≡ cond (more_entries i q) (naming q.flag q.item_type (next_number i q) ed.0) (naming 0 0 1 0)
    unfolding indices_outcome
    record_left p = rw (carried_out c given, work, indices_status_lem m i ed r q p) (record_either q (next_number i q) ed r (more_entries i q))

    pub will_answer : Passed m i ed r q → answered b (call_of c) ≡ true
    unfolding indices_outcome
    will_answer p = answered_by c ∙ rw (given, work) (indices_answers m i ed r q p)

  pub answered_is : token b ≡ 2 → answered b (call_of c) ≡ true → Answered
  unfolding indices_outcome
  answered_is n h =
      let both = sym (answered_by c) ∙ h in
      let given = and_left _ _ both in
      let good = and_right (is_given (number_for b)) _ both in
      let own = indices_only n good in
      let passed : Passed m i ed r q = passed_is m i ed r q (rw (work given own) at good) in
      record {
        passed = passed;
        memory = memory given own;
        reads_back = λ bytes. ap (λ (l : List ℕ). reading (part_at l q.address q.size)) (memory given own) ∙ reads_back m i ed r q passed bytes;
        status = status_word_lem c given ∙ rw (work given own, indices_status_lem m i ed r q passed) (word_either (more_entries i q));
        number = number_word given own passed;
        record_is = record_left given own passed;
      }

-- ---- the run that an answered call hands out

before_is : (k : ℕ) → k + 1 - 1 ≡ k
before_is k = omega arith

module _ (size k : ℕ) (es : List Entry) where
  run_first : run size (k + 1) es ≡ take (length (run size (k + 1) es)) (drop k es)
  unfolding run
  run_first = rw (before_is k) (fitting_front (size - 4) (drop k es))

  run_within : 1 ≤ length (run size (k + 1) es) → k + length (run size (k + 1) es) ≤ length es
  unfolding run
  run_within = rw (before_is k) (λ h. omega (arith, fitting_few (size - 4) (drop k es), length-drop k es))

-- A call whose Starting Number is k + 1 hands out n entries of a list from its place k on.
pub record Hands (c : Found) (es : List Entry) (k : ℕ) : Type 0 where
  pub n : ℕ
  pub some : 1 ≤ n
  pub inside : k + n ≤ length es
  pub reads : Bytes c.inventory → reading (area_then c) ≡ read (take n (drop k es))
  pub status : status_then c ≡ cond (ltb (k + n) (length es)) 1 0
  pub next : number_then c ≡ cond (ltb (k + n) (length es)) (k + n + 1) 1
  pub record_is : (call_of c).reading ≡ cond (ltb (k + n) (length es)) (naming (input c.args 0) (input c.args 1) (k + n + 1) c.edition.0) (naming 0 0 1 0)

module _ (c : Found) (yes : is_answered c ≡ true) (own : token c.args ≡ 2) (k : ℕ) (number_is : input c.args 4 ≡ k + 1) where
  abbrev es : List Entry
  es = listed (input c.args 0) (input c.args 1) c.inventory

  abbrev handed_run : List Entry
  handed_run = run (input c.args 3) (k + 1) es

  abbrev far : ℕ
  far = k + length handed_run

  left : Answered c
  left = answered_is c own yes

  run_is : run_for c.inventory (request_of c.args) ≡ handed_run
  run_is = rw number_is

  some : 1 ≤ length handed_run
  some = rw run_is at (run_some c.memory c.inventory c.edition c.reading (request_of c.args) left.passed)

  more-is : more_entries c.inventory (request_of c.args) ≡ ltb far (length es)
  unfolding more_entries
  more-is = rw (run_is, number_is, before_is k)

  next-is : next_number c.inventory (request_of c.args) ≡ cond (ltb far (length es)) (far + 1) 1
  unfolding next_number
  next-is = rw (more-is, run_is, number_is) (ap (λ (n : ℕ). cond (ltb far (length es)) n 1) (omega arith))

  -- where entries remain the record names the first of them, and otherwise none
  record_then : (t : Bool) → cond t (naming (input c.args 0) (input c.args 1) (cond t (far + 1) 1) c.edition.0) (naming 0 0 1 0)
      ≡ cond t (naming (input c.args 0) (input c.args 1) (far + 1) c.edition.0) (naming 0 0 1 0)
  record_then true = refl
  record_then false = refl

  pub hands : Hands c es k
  hands =
      record {
        n = length handed_run;
        some = some;
        inside = run_within (input c.args 3) k es some;
        reads = λ bytes. left.reads_back bytes ∙ ap read (run_is ∙ run_first (input c.args 3) k es);
        status = left.status ∙ rw more-is;
        next = left.number ∙ next-is;
        record_is = left.record_is ∙ rw (more-is, next-is) (record_then (ltb far (length es)));
      }

-- ---- a call that is made for the number k + 1, of which there is an entry, is answered where the record lets it pass

module _ (c : Found) (flag type k : ℕ) (m : Made flag type (k + 1) c) (bytes : Bytes c.inventory) (formed : well_formed c.inventory ≡ true) (may : askable flag type ≡ true)
    (k_less : k < length (listed flag type c.inventory)) (named : is_named c.reading (request_of c.args) ≡ true) (current : is_current c.reading c.edition (request_of c.args) ≡ true) where
  abbrev address : ℕ
  address = input c.args 2

  abbrev room : ℕ
  room = input c.args 3

  abbrev all : List Entry
  all = listed flag type c.inventory

  lent : lendable c.memory address room ≡ true
  unfolding lendable
  lent = rw (le-leb 4 room (omega (arith, m.large)), le-leb (address + room) 0x1_0000_0000 m.below, le-leb (address + room) (length c.memory) m.inside)

  good_number_lem : good_number (k + 1) all ≡ true
  unfolding good_number
  good_number_lem = rw (le-leb 1 (length all) (omega (arith, k_less)), le-leb 1 (k + 1) (omega arith), le-leb (k + 1) (length all) (omega (arith, k_less)))

  due : due_fits room (drop (k + 1 - 1) all) ≡ true
  unfolding run code_limit
  due = some_due room (drop (k + 1 - 1) all) (holds_due room (k + 1) all (listed_sound flag type c.inventory formed bytes) (omega (arith, k_less)) m.large)

  passed : Passed c.memory c.inventory c.edition c.reading (request_of c.args)
  passed =
      record {
        askable_is = rw (m.of_flag, m.of_type) may;
        lent = lent;
        named = named;
        current = current;
        formed = formed;
        numbered = rw (m.of_flag, m.of_type, m.numbered) good_number_lem;
        due = rw (m.of_flag, m.of_type, m.numbered) due;
      }

  pub made_answers : is_answered c ≡ true
  made_answers =
      let args = c.args in
      will_answer c (given_by 5 2 args m.five_inputs m.two_outputs refl refl m.whole) (asks_by 2 5 2 args m.indices m.five_inputs m.two_outputs) passed
