-- Demand 2 of get-indices: the exact condition of each status, and what an answer leaves.
use mathlib.Core.Path.{◌≡◌, refl, sym, ap, ◌∙◌}
use mathlib.Core.Bool.{Bool, true, false, ◌&&◌, not}
use mathlib.Core.List.{List, [], ◌∷◌, ◌++◌, append_assoc}
use mathlib.Core.Logic.{inl, inr, ⊎_elim}
use Prim.Native.Nat.{ℕ, ◌+◌, ◌*◌, ◌-◌, ◌/◌, ◌≤◌, ◌<◌}
use native.Mathlib.Omega.{arith}
use native.Mathlib.Nat.{mod-eq_of_lt}
use lib.Dec.{leb, eqb}
use lib.ListN.{length, take, drop, get_or, length-drop}
use Rattle.words.specs.Claims.Exactly.{Exactly}
use Rattle.words.specs.Numbers.{Bytes, be, be32, be_bytes}
use Rattle.words.proofs.Numbers.{be_bytes_lem}
use Rattle.words.proofs.Choice.{and_left, and_right}
use Rattle.inventory.specs.Inventory.{well_formed}
use Rattle.inventory.specs.Listing.{Entry}
use Rattle.indices.specs.Area.{entries_bytes, run, answer, written}
use Rattle.indices.specs.Claims.Longest.{taken}
use Rattle.indices.specs.Reading.{reading}
use Rattle.indices.proofs.Longest.{longest_run, answer_length}
use Rattle.inventory.proofs.Listed.{listed_few}
use Rattle.indices.proofs.Written.{fitting_few}
use Rattle.inventory.specs.declared.edition.Edition.{Edition}
use Rattle.calls.specs.declared.reading_record.ReadingRecord.{ReadingRecord}
use Rattle.calls.specs.declared.request.Request.{Request}
use Rattle.calls.specs.Status.{status_word}
use Rattle.calls.specs.ReadingRecord.{is_named, is_current, record_after}
use Rattle.calls.specs.Lent.{part_at}
use Rattle.calls.specs.GetIndices.{askable, lendable, entries_for, number_in, run_for, good_number, due_fits, more_entries, list_status, reading_status, indices_status, indices_memory, next_number}
use Rattle.calls.specs.Claims.Terms.{minus, naming}
use Rattle.calls.specs.Claims.ExactIndices as exact
use Rattle.calls.specs.Claims.ExactIndices.{ExactIndices}
use Rattle.calls.proofs.Exactly.{equal, at_most, both, either, no, fails, same}
use Rattle.calls.proofs.Ladder.{ladder, is_malformed, is_changed, steps, steps_malformed, steps_changed, steps_otherwise}
use Rattle.calls.proofs.ReadingRecords.{recorded, named_exact, current_exact}
use Rattle.calls.proofs.Memory.{front_behind}
use Rattle.calls.proofs.Calls.{word_either}
use Rattle.calls.proofs.Requests.{Passed, passed_is, left_is, reads_back, indices_answers, indices_status_lem, indices_memory_lem, run_some, lent_size}

-- ---- the checks in the paper's numerals

asked_exact : (m : List ℕ) (flag type address size : ℕ) → Exactly ((askable flag type && lendable m address size) ≡ true) (exact.Asked m flag type address size)
unfolding askable lendable
asked_exact m flag type address size =
    let end = address + size in
    let bars = either (eqb type 9003) _ (equal type 9003) (both (eqb flag 0) _ (equal flag 0) (either (eqb type 9001) (eqb type 9002) (equal type 9001) (equal type 9002))) in
    let may = both (leb flag 1) _ (at_most flag 1) (no _ bars) in
    let lent = both (leb 4 size) _ (at_most 4 size) (both (leb end 0x1_0000_0000) (leb end (length m)) (at_most end 0x1_0000_0000) (at_most end (length m))) in
    let e = both _ _ may lent in (
      (λ h. let a = e.0 h in record {
        flagged = a.0.0;
        typed = λ t. a.0.1 (inl t);
        typed_indicator = λ f. (λ t. a.0.1 (inr (f, inl t)), λ t. a.0.1 (inr (f, inr t)));
        large = a.1.0;
        below = a.1.1.0;
        inside = a.1.1.1;
      }),
      (λ a. e.1 ((a.flagged, ⊎_elim a.typed (λ t. ⊎_elim (a.typed_indicator t.0).0 (a.typed_indicator t.0).1 t.1)), (a.large, (a.below, a.inside)))),
    )

number_exact : (number : ℕ) (es : List Entry) → Exactly (good_number number es ≡ true) ((1 ≤ length es) × ((1 ≤ number) × (number ≤ length es)))
unfolding good_number
number_exact number es = both (leb 1 (length es)) _ (at_most 1 (length es)) (both (leb 1 number) (leb number (length es)) (at_most 1 number) (at_most number (length es)))

-- the entry due, which is there
due_exact : (size : ℕ) (es : List Entry) → 1 ≤ length es → Exactly (due_fits size es ≡ true) (4 + taken (take 1 es) ≤ size)
unfolding due_fits taken
due_exact size [] h = absurd (omega arith)
due_exact size (e ∷ es) h =
    let n = 4 + (8 + 4 * (length e.code / 4 + 1)) in
    (λ t. omega (arith, (at_most n size).0 t), λ l. (at_most n size).1 (omega arith))

-- ---- the area that an answer leaves

module _ (area : List ℕ) (es : List Entry) where
  -- bytes behind the last entry
  behind : (k : ℕ) → 4 + taken es ≤ k → get_or (written area es) k 0 ≡ get_or area k 0
  unfolding written
  behind k h = front_behind (answer es) area k (omega (arith, answer_length es))

  counted : length es < 0x1_0000_0000 → be32 (written area es) 0 ≡ length es
  unfolding written answer
  counted h =
      ap (λ (l : List ℕ). be 4 l 0) (append_assoc (be_bytes 4 (length es)) (entries_bytes es) (drop (length (answer es)) area))
      ∙ be_bytes_lem 4 (length es) (entries_bytes es ++ drop (length (answer es)) area) ∙ mod-eq_of_lt h

module _ (m i : List ℕ) (ed : Edition) (r : ReadingRecord) (q : Request) where
  abbrev es : List Entry
  es = entries_for i q

  abbrev status : ℕ
  status = status_word (indices_status m i ed r q)

  abbrev after : List ℕ
  after = indices_memory m i ed r q

  abbrev due : Bool
  due = due_fits q.size (drop (number_in q - 1) es)

  abbrev may : Bool
  may = askable q.flag q.item_type

  abbrev lent : Bool
  lent = lendable m q.address q.size

  status_is : indices_status m i ed r q ≡ steps may lent (is_named r q) (is_current r ed q) (ladder true true (well_formed i) (good_number (number_in q) es) due (more_entries i q))
  unfolding indices_status reading_status list_status
  status_is = refl

  abbrev asked : Exactly ((may && lent) ≡ true) (exact.Asked m q.flag q.item_type q.address q.size)
  asked = asked_exact m q.flag q.item_type q.address q.size

  passed : status ≤ 1 → Passed m i ed r q
  passed h = passed_is m i ed r q ((at_most status 1).1 h)

  -- the entry due is there where the number is good
  there : (1 ≤ number_in q) × (number_in q ≤ length es) → 1 ≤ length (drop (number_in q - 1) es)
  there h = omega (arith, length-drop (number_in q - 1) es)

  answered : Exactly (status ≤ 1)
      (exact.Asked m q.flag q.item_type q.address q.size × (exact.Named r q.flag q.item_type (number_in q) × (exact.Current r ed.0 (number_in q) × exact.Passed i es q.size (number_in q))))
  answered = (
    (λ h.
        let p = passed h in
        let n = (number_exact (number_in q) es).0 p.numbered in (
          asked.0 (rw p.askable_is p.lent),
          (
            (named_exact r q).0 p.named,
            (
              (current_exact r q ed).0 p.current,
              record {
                formed = p.formed;
                listed = n.0;
                from_one = n.1.0;
                to_last = n.1.1;
                due = (due_exact q.size (drop (number_in q - 1) es) (there n.1)).0 p.due;
              },
            ),
          ),
        )),
    (λ h.
        let a = asked.1 h.0 in
        let c = h.1.1.1 in
        (at_most status 1).0 (indices_answers m i ed r q (record {
          askable_is = and_left _ _ a;
          lent = and_right may _ a;
          named = (named_exact r q).1 h.1.0;
          current = (current_exact r q ed).1 h.1.1.0;
          formed = c.formed;
          numbered = (number_exact (number_in q) es).1 (c.listed, (c.from_one, c.to_last));
          due = (due_exact q.size (drop (number_in q - 1) es) (there (c.from_one, c.to_last))).1 c.due;
        }))),
  )

  changed : Exactly (status ≡ minus 4) (exact.Asked m q.flag q.item_type q.address q.size × (exact.Named r q.flag q.item_type (number_in q) × (exact.Current r ed.0 (number_in q) → ⊥)))
  changed =
      let test = ap is_changed status_is ∙ steps_changed (well_formed i) (good_number (number_in q) es) due (more_entries i q) may lent (is_named r q) (is_current r ed q) in
      same (eqb status 0xffff_fffc) ((may && lent) && (is_named r q && not (is_current r ed q))) test (equal status 0xffff_fffc)
      (both (may && lent) _ asked (both (is_named r q) _ (named_exact r q) (no (is_current r ed q) (current_exact r q ed))))

  malformed : Exactly (status ≡ minus 1)
      (exact.Asked m q.flag q.item_type q.address q.size × (exact.Named r q.flag q.item_type (number_in q) × (exact.Current r ed.0 (number_in q) × (well_formed i ≡ false))))
  malformed =
      let test = ap is_malformed status_is ∙ steps_malformed (well_formed i) (good_number (number_in q) es) due (more_entries i q) may lent (is_named r q) (is_current r ed q) in
      same (eqb status 0xffff_ffff) ((may && lent) && (is_named r q && (is_current r ed q && not (well_formed i)))) test (equal status 0xffff_ffff)
      (both (may && lent) _ asked (both (is_named r q) _ (named_exact r q) (both (is_current r ed q) _ (current_exact r q ed) (fails (well_formed i)))))

  module _ (h : status ≤ 1) where
    p : Passed m i ed r q
    p = passed h

    few : length (run_for i q) < 0x1_0000_0000
    unfolding run
    few = omega (arith, fitting_few (q.size - 4) (drop (number_in q - 1) es), length-drop (number_in q - 1) es, listed_few q.flag q.item_type i p.formed)

    answers : Bytes i → exact.Answer (part_at m q.address q.size) (part_at after q.address q.size) es (run_for i q) q.size (number_in q) status (next_number i q)
    unfolding more_entries next_number
    answers bytes =
        rw (left_is m i ed r q p)
        (record {
          longest = longest_run q.size (number_in q) es (lent_size m q.address q.size p.lent).0;
          some = run_some m i ed r q p;
          remaining = ap status_word (indices_status_lem m i ed r q p) ∙ word_either (more_entries i q);
          next_number_claim = refl;
          count = counted (part_at m q.address q.size) (run_for i q) few;
          unchanged = behind (part_at m q.address q.size) (run_for i q);
          reads_back = sym (ap reading (left_is m i ed r q p)) ∙ reads_back m i ed r q p bytes;
        })

  -- the call with the number that an answer gives
  pub exact_indices : (next : ℕ) → (status ≤ 1 → next ≡ next_number i q)
      → ExactIndices m i ed.0 r q.flag q.item_type q.address q.size (number_in q) status next after (record_after (indices_status m i ed r q) q (next_number i q) ed r)
  unfolding indices_status reading_status list_status
  exact_indices next next-is =
      let told = recorded q (next_number i q) ed r (indices_status m i ed r q) in
      record {
        answered = answered;
        changed = changed;
        malformed = malformed;
        otherwise = steps_otherwise (well_formed i) (good_number (number_in q) es) due (more_entries i q) may lent (is_named r q) (is_current r ed q);
        answers = λ bytes h. rw (next-is h) (answers h bytes);
        memory = λ h. indices_memory_lem m i ed r q (passed h);
        recorded = record { names = λ h. told.names h ∙ ap (λ (n : ℕ). naming q.flag q.item_type n ed.0) (sym (next-is (omega arith))); cleared = told.cleared; kept = told.kept };
      }
