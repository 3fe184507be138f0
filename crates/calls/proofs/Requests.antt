-- Laws of get-indices: what an answered request has passed, and the memory that it leaves.
use mathlib.Core.Path.{◌≡◌, refl, sym, ap, ◌∙◌}
use mathlib.Core.Bool.{true, false, cond}
use mathlib.Core.List.{List, [], ◌∷◌}
use mathlib.Core.Logic.{⊎_elim}
use Prim.Native.Nat.{ℕ, ◌+◌, ◌-◌, ◌≤◌}
use native.Mathlib.Omega.{arith}
use lib.Dec.{leb}
use lib.ListN.{length, drop, get_or, length-append, length-drop}
use lib.Seq.{sets}
use borrow.Author.Tests.{leb-true, leb-false, le-leb, lt-leb}
use Rattle.words.specs.Claims.Exactly.{Outside}
use Rattle.words.specs.Numbers.{Bytes, be_bytes, word_bytes}
use Rattle.words.proofs.Stores.{word_bytes_one}
use Rattle.words.proofs.Choice.{choose, decide, and_left, and_right}
use Rattle.inventory.specs.Inventory.{well_formed}
use Rattle.inventory.specs.Listing.{Entry}
use Rattle.indices.specs.Area.{entry_size, fitting, run, answer, written}
use Rattle.words.specs.Reading.{read}
use Rattle.indices.specs.Reading.{reading}
use Rattle.indices.proofs.Longest.{fits}
use Rattle.indices.proofs.Written as indices_written
use Rattle.calls.specs.declared.request.Request.{Request}
use Rattle.calls.specs.declared.status.Status.{Status}
use Rattle.calls.specs.declared.status.Status.TheVariants.{Done, Again}
use Rattle.calls.specs.Status.{is_answer}
use Rattle.calls.specs.Lent.{part_at, with_part}
use Rattle.inventory.specs.declared.edition.Edition.{Edition}
use Rattle.calls.specs.declared.reading_record.ReadingRecord.{ReadingRecord}
use Rattle.calls.specs.ReadingRecord.{is_named, is_current}
use Rattle.calls.specs.GetIndices.{askable, lendable, entries_for, number_in, run_for, good_number, due_fits, more_entries, list_status, reading_status, indices_status, indices_memory, next_number, number_given}
use Rattle.calls.proofs.Ladder.{steps_passed}
use Rattle.calls.proofs.Memory.{part_length, part_stored, part_kept, part_before, part_behind}

-- a part that may be lent
pub lent_size : (m : List ℕ) (address size : ℕ) → lendable m address size ≡ true → (4 ≤ size) × (address + size ≤ 0x1_0000_0000) × (address + size ≤ length m)
unfolding lendable
lent_size m address size e =
    let more = and_right (leb 4 size) _ e in
    (leb-true 4 size (and_left _ _ e), leb-true (address + size) 0x1_0000_0000 (and_left _ _ more), leb-true (address + size) (length m) (and_right (leb (address + size) 0x1_0000_0000) _ more))

-- an answer that fits leaves the length of its area
pub written_length : (area : List ℕ) (es : List Entry) → length (answer es) ≤ length area → length (written area es) ≡ length area
unfolding written
written_length area es h = omega (arith, length-append (answer es) (drop (length (answer es)) area), length-drop (length (answer es)) area)

-- the entry due fits where the run holds one; it takes twelve bytes or more, so a size under 4 has room for none
pub due_run : (size : ℕ) (es : List Entry) → due_fits size es ≡ leb 1 (length (fitting (size - 4) es))
unfolding due_fits fitting
due_run size [] = refl
due_run size (e ∷ es) =
    let n = entry_size (length e.code) in
    let more : List Entry = e ∷ fitting (size - 4 - n) es in
    choose (leb n (size - 4)) (λ l. leb (4 + n) size ≡ leb 1 (length l)) {x = more} {y = []}
    (λ p. le-leb (4 + n) size (omega (arith, leb-true n (size - 4) p)) ∙ sym (le-leb 1 (length more) (omega arith)))
    (λ p. lt-leb (4 + n) size (omega (arith, leb-false n (size - 4) p)))

pub due_some : (size : ℕ) (es : List Entry) → due_fits size es ≡ true → 1 ≤ length (fitting (size - 4) es)
due_some size es e = leb-true 1 _ (sym (due_run size es) ∙ e)

pub some_due : (size : ℕ) (es : List Entry) → 1 ≤ length (fitting (size - 4) es) → due_fits size es ≡ true
some_due size es h = due_run size es ∙ le-leb 1 _ h

module _ (m i : List ℕ) (ed : Edition) (r : ReadingRecord) (q : Request) where
  -- all checks are passed
  pub record Passed : Type 0 where
    pub askable_is : askable q.flag q.item_type ≡ true
    pub lent : lendable m q.address q.size ≡ true
    pub named : is_named r q ≡ true
    pub current : is_current r ed q ≡ true
    pub formed : well_formed i ≡ true
    pub numbered : good_number (number_in q) (entries_for i q) ≡ true
    pub due : due_fits q.size (drop (number_in q - 1) (entries_for i q)) ≡ true

  -- a status of 0 or 1 tells so
  pub passed_is : is_answer (indices_status m i ed r q) ≡ true → Passed
  unfolding indices_status reading_status list_status
  passed_is h =
      let due = due_fits q.size (drop (number_in q - 1) (entries_for i q)) in
      let t = steps_passed (well_formed i) (good_number (number_in q) (entries_for i q)) due (more_entries i q) (askable q.flag q.item_type) (lendable m q.address q.size) (is_named r q) (is_current r ed q) h in
      record { askable_is = t.0.0; lent = t.0.1; named = t.0.2; current = t.0.3; formed = t.1.0; numbered = t.1.1; due = t.1.2 }

  pub indices_status_lem : Passed → indices_status m i ed r q ≡ cond (more_entries i q) Again Done
  unfolding indices_status reading_status list_status
  indices_status_lem p = rw (p.askable_is, p.lent, p.named, p.current, p.formed, p.numbered, p.due)

  pub indices_answers : Passed → is_answer (indices_status m i ed r q) ≡ true
  indices_answers p = ap is_answer (indices_status_lem p) ∙ choose (more_entries i q) (λ (x : Status). is_answer x ≡ true) (λ e. refl) (λ e. refl)

  -- "never zero entries"
  pub run_some : Passed → 1 ≤ length (run_for i q)
  unfolding run
  run_some p = due_some q.size (drop (number_in q - 1) (entries_for i q)) p.due

  -- ---- memory

  abbrev pub area_before : List ℕ
  area_before = part_at m q.address q.size

  abbrev pub area_after : List ℕ
  area_after = written area_before (run_for i q)

  pub indices_memory_lem : Passed → indices_memory m i ed r q ≡ with_part m q.address q.size area_after
  unfolding indices_memory
  indices_memory_lem p = rw (indices_answers p)

  pub indices_refused : is_answer (indices_status m i ed r q) ≡ false → indices_memory m i ed r q ≡ m
  unfolding indices_memory
  indices_refused e = rw e

  module _ (p : Passed) where
    pub inside : q.address + q.size ≤ length m
    inside = (lent_size m q.address q.size p.lent).2

    pub after_length : length area_after ≡ q.size
    after_length =
        let size = part_length m q.address q.size inside in
        let room = fits q.size (number_in q) (entries_for i q) (lent_size m q.address q.size p.lent).0 in
        written_length area_before (run_for i q) (omega (arith, room, size)) ∙ size

    -- the area afterwards, and what it reads as
    pub left_is : part_at (indices_memory m i ed r q) q.address q.size ≡ area_after
    left_is = ap (λ (l : List ℕ). part_at l q.address q.size) (indices_memory_lem p) ∙ part_stored m q.address q.size inside area_after after_length

    pub reads_back : Bytes i → reading (part_at (indices_memory m i ed r q) q.address q.size) ≡ read (run_for i q)
    reads_back bytes = ap reading left_is ∙ indices_written.reads_back area_before i q.flag q.item_type q.size (number_in q) bytes p.formed

  ways : (P : List ℕ → Type 0) → (Passed → P (with_part m q.address q.size area_after)) → P m → P (indices_memory m i ed r q)
  ways P f g = decide (is_answer (indices_status m i ed r q)) (λ e. let p = passed_is e in rw (indices_memory_lem p) (f p)) (λ e. rw (indices_refused e) g)

  pub indices_length : length (indices_memory m i ed r q) ≡ length m
  indices_length = ways (λ (l : List ℕ). length l ≡ length m) (λ p. part_kept m q.address q.size (inside p) area_after (after_length p)) refl

  pub indices_outside : (k : ℕ) → Outside q.address q.size k → get_or (indices_memory m i ed r q) k 0 ≡ get_or m k 0
  indices_outside k e = ways (λ (l : List ℕ). get_or l k 0 ≡ get_or m k 0)
      (λ p. ⊎_elim (part_before m q.address q.size (inside p) area_after (after_length p) k) (part_behind m q.address q.size (inside p) area_after (after_length p) k) e) refl

-- ---- the second output

-- an answer stores the Next Starting Number, a refusal nothing
module _ (i : List ℕ) (q : Request) (s : Status) (l : List ℕ) (at : ℕ) where
  abbrev numbers : List ℕ
  numbers = cond (is_answer s) (next_number i q ∷ []) []

  pub number_stored : (n : ℕ) → n ≡ number_given s i q → is_answer s ≡ true → sets l at (be_bytes 4 n) ≡ sets l at (word_bytes numbers)
  unfolding number_given
  number_stored n e h = rw (e, h, word_bytes_one (next_number i q))

  pub number_kept : is_answer s ≡ false → l ≡ sets l at (word_bytes numbers)
  unfolding word_bytes
  number_kept h = rw h
