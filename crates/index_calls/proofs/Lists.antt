-- Laws of a list of indices: what its checks come to, way by way through the code, and what the whole call leaves.
use mathlib.Core.Path.{◌≡◌, refl, sym, ap, ◌∙◌}
use mathlib.Core.Bool.{true, false, cond, ◌&&◌, and-false}
use mathlib.Core.List.{List, [], ◌∷◌, ◌++◌}
use Prim.Native.Nat.{ℕ, suc, ◌+◌, ◌-◌, ◌<◌, ◌≤◌}
use native.Mathlib.Omega.{arith}
use lib.Dec.{leb, ltb}
use lib.ListN.{length, take, drop, length-drop}
use borrow.Author.Tests.{leb-true, le-leb, lt-ltb, le-ltb}
use Rattle.words.proofs.Choice.{decide, and_left, and_right}
use Rattle.records.specs.Records.{size_limit}
use Rattle.records.proofs.Steps.{formed_good}
use Rattle.inventory.specs.declared.wanted.Wanted.{Wanted}
use Rattle.inventory.specs.Inventory.{good_record, well_formed}
use Rattle.inventory.specs.Listing.{Entry, listed}
use Rattle.inventory.specs.Inner.Scanning.{ResumesAt}
use Rattle.indices.specs.Area.{run, written, area_after}
use Rattle.indices.specs.Claims.Writing.{DueEntries}
use Rattle.inventory.proofs.Listed.{listed_few}
use Rattle.inventory.proofs.Search.{all_good_for}
use Rattle.indices.proofs.Written.{fitting_few}
use Rattle.index_calls.specs.declared.getting.Listed.{Listed}
use Rattle.inventory.specs.declared.edition.Edition.{Edition}
use Rattle.calls.specs.declared.reading_record.ReadingRecord.{ReadingRecord}
use Rattle.calls.specs.declared.request.Request.{Request}
use Rattle.calls.specs.declared.status.Status.{Status}
use Rattle.calls.specs.declared.status.Status.TheVariants.{Done, Again, Malformed, Parameter}
use Rattle.calls.specs.Status.{is_answer}
use Rattle.calls.specs.ReadingRecord.{is_named, is_current}
use Rattle.calls.specs.Lent.{part_at, with_part}
use Rattle.calls.specs.GetIndices.{askable, lendable, entries_for, number_in, run_for, good_number, due_fits, more_entries, list_status, reading_status, indices_status, indices_memory, next_number, number_given}
use Rattle.calls.specs.Inner.Terms.{list_area}
use Rattle.calls.proofs.Memory.{part_length, part_lent, part_back, part_same}
use Rattle.calls.proofs.Requests.{lent_size, due_run}

-- ---- what the scan gives is what the writer of the run asks for

-- a flag and type as a request has them
pub record Asked (w : Wanted) (q : Request) : Type 0 where
  pub flag : w.flag ≡ q.flag
  pub item_type : w.item_type ≡ q.item_type

pub asked_is : {w : Wanted} {q : Request} → (w.flag ≡ q.flag) × (w.item_type ≡ q.item_type) → Asked w q
asked_is e = record { flag = e.0; item_type = e.1 }

-- the test of the number
pub among_is : (number count : ℕ) → (leb 1 number && leb number count) ≡ true → (1 ≤ number) × (number ≤ count)
among_is number count e = (leb-true 1 number (and_left _ _ e), leb-true number count (and_right (leb 1 number) _ e))

pub due_is : {w : Wanted} {q : Request} {count from : ℕ} {i : List ℕ} → Asked w q → well_formed i ≡ true → count ≡ length (entries_for i q)
    → ResumesAt q.flag q.item_type i (number_in q - 1) from → DueEntries w.flag w.item_type (number_in q) i from (count - (number_in q - 1))
unfolding well_formed
due_is {q = q} {i = i} asked w n f = rw (asked.flag, asked.item_type) record {
  onward = record { inside = f.inside; good = all_good_for q.flag q.item_type _ (sym f.sound ∙ formed_good size_limit good_record i w) };
  rest = f.rest;
  counted = omega arith;
  few = omega (arith, listed_few q.flag q.item_type i w);
}

-- ---- the run

-- no more entries than the list has
run_few : (size number : ℕ) (es : List Entry) → length (run size number es) ≤ length es
unfolding run
run_few size number es = omega (arith, fitting_few (size - 4) (drop (number - 1) es), length-drop (number - 1) es)

-- the area with some entries, and without any
after_is : (area : List ℕ) (es : List Entry) → area_after area es ≡ cond (leb 1 (length es)) (written area es) area
unfolding area_after
after_is area [] = refl
after_is area (e ∷ es) = rw (le-leb 1 (suc (length es)) (omega arith))

-- ---- the checks of the list

-- what a refusal tells: its status, and the number as it was asked for
abbrev Refused : Request → Listed → Status → Type 0
Refused q r s = (r.status ≡ s) × (r.next ≡ q.number)

module _ (i : List ℕ) (q : Request) (area : List ℕ) where
  -- what a status, a number and an area afterwards are to be
  abbrev Left : Status → ℕ → List ℕ → Type 0
  Left s next after = ((s ≡ list_status i q) × (next ≡ number_given (list_status i q) i q)) × (after ≡ list_area i q area)

  module _ (r : Listed) where
    -- a status without an answer
    left_refused : (s : Status) → list_status i q ≡ s → is_answer s ≡ false → Refused q r s → Left r.status r.next.0 area
    unfolding number_given list_area
    left_refused s e f h = rw (e, f, h.0, h.1) ((refl, refl), refl)

    pub left_malformed : well_formed i ≡ false → Refused q r Malformed → Left r.status r.next.0 area
    unfolding list_status
    left_malformed w h = left_refused Malformed (rw w) refl h

    -- no entry has the number, as where there is none
    pub left_misnumbered : well_formed i ≡ true → (leb 1 (number_in q) && leb (number_in q) (length (entries_for i q))) ≡ false → Refused q r Parameter → Left r.status r.next.0 area
    unfolding list_status good_number
    left_misnumbered w e h = left_refused Parameter (rw w (simp (e, and-false))) refl h

-- What the writer of the run for a good number tells: how many entries it handed out, and the area afterwards.
pub record Ran (i : List ℕ) (q : Request) (area : List ℕ) (handed : ℕ) (after : List ℕ) : Type 0 where
  pub formed : well_formed i ≡ true
  pub low : 1 ≤ number_in q
  pub high : number_in q ≤ length (entries_for i q)
  pub counted : handed ≡ length (run_for i q)
  pub stored : after ≡ area_after area (run_for i q)

pub ran_is : {i : List ℕ} {q : Request} {area after : List ℕ} {count handed : ℕ} {w : Wanted} → Asked w q → well_formed i ≡ true → count ≡ length (entries_for i q)
    → (leb 1 (number_in q) && leb (number_in q) count) ≡ true → q.size ≡ length area
    → handed ≡ length (run (length area) (number_in q) (listed w.flag w.item_type i)) → after ≡ area_after area (run (length area) (number_in q) (listed w.flag w.item_type i)) → Ran i q area handed after
ran_is {q = q} {count = count} asked formed counted among size handed stored =
    let range = among_is (number_in q) count among in
    record {
      formed = formed;
      low = range.0;
      high = omega (arith, range.1, counted);
      counted = rw (size, ← asked.flag, ← asked.item_type) handed;
      stored = rw (size, ← asked.flag, ← asked.item_type) stored;
    }

module _ {i : List ℕ} {q : Request} {area : List ℕ} {handed : ℕ} {after : List ℕ} (t : Ran i q area handed after) where
  -- small enough for the code's sums
  pub ran_few : (number_in q ≤ size_limit) × (handed ≤ size_limit)
  ran_few =
      let few = listed_few q.flag q.item_type i t.formed in
      (omega arith, omega (arith, run_few q.size (number_in q) (entries_for i q)))

  -- the code's tests are those of the definition
  ran_due : due_fits q.size (drop (number_in q - 1) (entries_for i q)) ≡ leb 1 handed
  unfolding run
  ran_due = due_run q.size (drop (number_in q - 1) (entries_for i q)) ∙ ap (leb 1) (sym t.counted)

  ran_more : more_entries i q ≡ ltb (number_in q - 1 + handed) (length (entries_for i q))
  unfolding more_entries
  ran_more = rw t.counted

  ran_status : list_status i q ≡ cond (leb 1 handed) (cond (ltb (number_in q - 1 + handed) (length (entries_for i q))) Again Done) Parameter
  unfolding list_status good_number
  ran_status = rw (t.formed, le-leb 1 (length (entries_for i q)) (omega arith), le-leb 1 (number_in q) t.low, le-leb (number_in q) (length (entries_for i q)) t.high, ran_due, ran_more)

  -- the entry due does not fit
  pub left_unfit : (r : Listed) → handed ≡ 0 → Refused q r Parameter → Left i q area r.status r.next.0 after
  left_unfit r h e =
      let l = left_refused i q area r Parameter (ran_status ∙ rw h) refl e in
      (l.0, t.stored ∙ after_is area (run_for i q) ∙ rw (← t.counted, h) l.1)

  module _ (some : 1 ≤ handed) where
    given : after ≡ written area (run_for i q)
    given = t.stored ∙ after_is area (run_for i q) ∙ rw (le-leb 1 (length (run_for i q)) (omega arith))

    -- entries remain behind the run, or none
    pub left_again : number_in q - 1 + handed < length (entries_for i q) → Left i q area Again (number_in q + handed) after
    unfolding number_given next_number list_area
    left_again h =
        let more = lt-ltb (number_in q - 1 + handed) (length (entries_for i q)) h in
        rw (ran_status, ran_more, le-leb 1 handed some, more, t.counted) ((refl, refl), given)

    pub left_done : length (entries_for i q) ≤ number_in q - 1 + handed → Left i q area Done 1 after
    unfolding number_given next_number list_area
    left_done h =
        let none = le-ltb (number_in q - 1 + handed) (length (entries_for i q)) h in
        rw (ran_status, ran_more, le-leb 1 handed some, none) ((refl, refl), given)

-- ---- the whole call

-- the part that is handed down is an area as the answer asks for it
pub lent_area : (m : List ℕ) (address size : ℕ) → lendable m address size ≡ true
    → (4 ≤ length (take (address + size - address) (drop address m))) × (size ≡ length (take (address + size - address) (drop address m)))
lent_area m address size e =
    let l = lent_size m address size e in
    rw (part_lent m address size l.2, part_length m address size l.2) (l.0, refl)

module _ (m i : List ℕ) (e : Edition) (r : ReadingRecord) (q : Request) where
  -- what a status, a number and memory afterwards are to be
  abbrev LeftAll : Status → ℕ → List ℕ → Type 0
  LeftAll s next after = ((s ≡ indices_status m i e r q) × (next ≡ number_given (indices_status m i e r q) i q)) × (after ≡ indices_memory m i e r q)

  -- a request that is refused before the list is looked at
  pub all_refused : (s : Status) (l : Listed) → indices_status m i e r q ≡ s → is_answer s ≡ false → Refused q l s → LeftAll l.status l.next.0 m
  unfolding number_given indices_memory
  all_refused s l f n h = rw (f, n, h.0, h.1) ((refl, refl), refl)

  module _ (asked : askable q.flag q.item_type ≡ true) (lent : lendable m q.address q.size ≡ true) (named : is_named r q ≡ true) (current : is_current r e q ≡ true) where
    -- past the checks of the request the list decides
    indices_checked : indices_status m i e r q ≡ list_status i q
    unfolding indices_status reading_status
    indices_checked = rw (asked, lent, named, current)

    -- the area back in memory
    area_back : with_part m q.address q.size (list_area i q (part_at m q.address q.size)) ≡ indices_memory m i e r q
    unfolding list_area indices_memory
    area_back = rw indices_checked (decide (is_answer (list_status i q)) (λ f. rw f) (λ f. rw f (part_same m q.address q.size)))

    -- the area is answered, and comes back as v into memory
    pub left_list : (s : Status) (next : ℕ) (v : List ℕ) → length v ≡ length (take (q.address + q.size - q.address) (drop q.address m))
        → Left i q (take (q.address + q.size - q.address) (drop q.address m)) s next v
        → LeftAll s next (take q.address m ++ (v ++ drop (q.address + q.size - q.address) (drop q.address m)))
    left_list s next v n l =
        let inside = (lent_size m q.address q.size lent).2 in
        let back = part_back m q.address q.size inside v (n ∙ sym (lent_area m q.address q.size lent).1) in
        rw (back, indices_checked) (l.0, ap (with_part m q.address q.size) (l.1 ∙ ap (list_area i q) (part_lent m q.address q.size inside)) ∙ area_back)
