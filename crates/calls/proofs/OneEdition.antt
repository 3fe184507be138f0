-- A partition's readings while the inventory is edited: one invariant, kept by every call and every edit.
use mathlib.Core.Path.{◌≡◌, refl, ap, ◌∙◌, sym}
use mathlib.Core.Bool.{Bool, true, false, cond, ◌&&◌, true≢false}
use mathlib.Core.List.{List, [], ◌∷◌, ◌++◌}
use mathlib.Core.Logic.{◌⊎◌, inl, inr, ⊎_elim}
use Prim.Native.Nat.{ℕ, ◌+◌, ◌-◌, ◌≤◌}
use native.Mathlib.Omega.{arith}
use lib.Dec.{ltb, eqb}
use borrow.Author.Tests.{ltb-true, ltb-false, eqb-true, eqb-false, le-leb}
use lib.ListN.{length, take, drop}
use lib.Seq.{take_all, take-add}
use Rattle.std.specs.Prelude.{Option, Some}
use Rattle.words.specs.Numbers.{Bytes}
use Rattle.words.specs.Reading.{read, readings}
use Rattle.words.proofs.Choice.{choose, decide, and_left, and_right}
use Rattle.words.proofs.Readings.{readings_none, readings_more, joined_read}
use Rattle.inventory.specs.declared.edition.Edition.{Edition}
use Rattle.inventory.specs.Edition.{edit_of}
use Rattle.inventory.specs.Listing.{Entry, listed}
use Rattle.indices.specs.Reading.{reading}
use Rattle.calls.specs.declared.reading_record.ReadingRecord.{ReadingRecord}
use Rattle.calls.specs.Status.{is_given}
use Rattle.calls.specs.Buffer.{input, is_indices, request_of, number_for, Found, call_of, answered}
use Rattle.calls.specs.Claims.Terms.{minus, status_of, naming}
use Rattle.calls.specs.Claims.Session.{is_answered, status_then}
use Rattle.calls.specs.Claims.IndexSession.{area_then}
use Rattle.calls.specs.Claims.Events.{Call, Event, calls, edits, Begun, Standing, start, found_by, begun_after, after_call, after_edit, after_event, edited, OfBytes, standing}
use Rattle.calls.specs.Claims.OneEdition.{list_of, InProgress, Gives, Ended, Accounted, OneEdition, BeginsAfresh}
use Rattle.calls.proofs.Heads.{asked, asks_by, number_is, has_given, has_status}
use Rattle.calls.proofs.ReadingRecords.{named_exact, current_exact}
use Rattle.calls.proofs.Confined.{demand1}
use Rattle.calls.proofs.IndicesCalls.{Answered, answered_is, Hands, hands, made_answers}
use Rattle.calls.proofs.Unchanged.{refused_is, never_changed}
use Rattle.calls.proofs.Session as session

-- editions are equal where their numbers are
edition_by : (a b : Edition) → a.0 ≡ b.0 → a ≡ b
edition_by a b e = ap edition_of e
  where
    edition_of : ℕ → Edition
    edition_of n = record { 0 = n }

-- one area more, with the next n entries of a list
more_handed : (areas : List (List ℕ)) (area : List ℕ) (es : List Entry) (k n : ℕ) → readings reading areas ≡ read (take k es) → reading area ≡ read (take n (drop k es))
    → readings reading (areas ++ (area ∷ [])) ≡ read (take (k + n) es)
more_handed areas area es k n e f = readings_more reading areas area ∙ rw (e, f, joined_read) (ap read (sym (take-add k n es)))

-- the record that a call names by what it was asked for
named_same : (t : Bool) (a b c n p q r : ℕ) → a ≡ p → b ≡ q → c ≡ r → cond t (naming a b n c) (naming 0 0 1 0) ≡ cond t (naming p q n r) (naming 0 0 1 0)
named_same t a b c n p q r e f g = rw (e, f, g)

-- a status of 0 tells that nothing remains
unended : (t : Bool) (status : ℕ) → status ≡ 0 → status ≡ cond t 1 0 → t ≡ true → ⊥
unended true status e f h = omega (arith, sym e ∙ f)
unended false status e f h = true≢false (sym h)

-- What is known after any events.
record Known (st : Standing) : Type 0 where
  bytes : Bytes st.inventory
  edition_is : st.edition.0 ≡ st.begun.edition.0 + st.begun.edits
  one_inventory : st.begun.edits ≡ 0 → st.inventory ≡ st.begun.inventory
  record_is : (st.reading ≡ naming 0 0 1 0) ⊎ InProgress st.reading st.begun

-- ---- an answered get-indices call

-- What such a call leaves of the reading that it began or went on with: the entries handed out so far, and the record of the entry due.
record Went (f : Found) (b : Begun) : Type 0 where
  of_flag : b.flag ≡ input f.args 0
  of_type : b.type ≡ input f.args 1
  of_edition : b.edition ≡ f.edition
  of_inventory : b.inventory ≡ f.inventory
  unedited : b.edits ≡ 0
  far : ℕ
  some : 1 ≤ far
  inside : far ≤ length (list_of b)
  handed : readings reading b.areas ≡ read (take far (list_of b))
  status : status_then f ≡ cond (ltb far (length (list_of b))) 1 0
  record_is : (call_of f).reading ≡ cond (ltb far (length (list_of b))) (naming b.flag b.type (far + 1) b.edition.0) (naming 0 0 1 0)

module _ (st : Standing) (known : Known st) (c : Call) where
  abbrev f : Found
  f = found_by st c

  abbrev b : Begun
  b = st.begun

  module _ (own : is_indices f.args ≡ true) (yes_is : is_answered f ≡ true) where
    -- a call with Starting Number 1 begins a reading
    module _ (first : input f.args 4 ≡ 1) where
      abbrev fresh : Begun
      fresh = record { inventory = f.inventory; edition = f.edition; flag = input f.args 0; type = input f.args 1; areas = area_then f ∷ []; edits = 0 }

      from_first : Hands f (list_of fresh) 0
      from_first = hands f yes_is (asked 2 5 2 f.args own).0 0 first

      went_first : Went f fresh
      went_first =
          let h = from_first in
          record {
            of_flag = refl;
            of_type = refl;
            of_edition = refl;
            of_inventory = refl;
            unedited = refl;
            far = 0 + h.n;
            some = omega (arith, h.some);
            inside = h.inside;
            handed = more_handed [] (area_then f) (list_of fresh) 0 h.n (readings_none reading) (h.reads known.bytes);
            status = h.status;
            record_is = h.record_is;
          }

    -- and with any other number goes on with the one in progress, which the record names
    module _ (later : input f.args 4 ≡ 1 → ⊥) where
      checked : Answered f
      checked = answered_is f (asked 2 5 2 f.args own).0 yes_is

      named : (input f.args 0 ≡ st.reading.flag) × ((input f.args 1 ≡ st.reading.item_type) × (input f.args 4 ≡ st.reading.number.0))
      named = (named_exact st.reading (request_of f.args)).0 checked.passed.named later

      in_progress_claim : InProgress st.reading b
      in_progress_claim = ⊎_elim (λ e. absurd (later (named.1.1 ∙ ap (λ (r : ReadingRecord). r.number.0) e))) (λ p. p) known.record_is

      same_edition : st.edition.0 ≡ b.edition.0
      same_edition = (current_exact st.reading (request_of f.args) st.edition).0 checked.passed.current later ∙ ap (λ (e : Edition). e.0) in_progress_claim.of_edition

      none_since : b.edits ≡ 0
      none_since = omega (arith, known.edition_is, same_edition)

      abbrev k : ℕ
      k = st.reading.number.0 - 1

      number_next : input f.args 4 ≡ k + 1
      number_next = omega (arith, named.1.1, in_progress_claim.begun)

      list_is : listed (input f.args 0) (input f.args 1) f.inventory ≡ list_of b
      list_is = rw (named.0 ∙ in_progress_claim.of_flag, named.1.0 ∙ in_progress_claim.of_type, known.one_inventory none_since)

      from_here : Hands f (list_of b) k
      from_here = rw list_is at (hands f yes_is (asked 2 5 2 f.args own).0 k number_next)

      abbrev further : Begun
      further = record { inventory = b.inventory; edition = b.edition; flag = b.flag; type = b.type; areas = b.areas ++ (area_then f ∷ []); edits = b.edits }

      went_on : Went f further
      went_on =
          let h = from_here in
          record {
            of_flag = sym (named.0 ∙ in_progress_claim.of_flag);
            of_type = sym (named.1.0 ∙ in_progress_claim.of_type);
            of_edition = edition_by b.edition st.edition (sym same_edition);
            of_inventory = sym (known.one_inventory none_since);
            unedited = none_since;
            far = k + h.n;
            some = omega (arith, h.some);
            inside = h.inside;
            handed = more_handed b.areas (area_then f) (list_of b) k h.n in_progress_claim.handed (h.reads known.bytes);
            status = h.status;
            record_is = h.record_is ∙ named_same (ltb (k + h.n) (length (list_of b))) _ _ _ (k + h.n + 1) _ _ _ (named.0 ∙ in_progress_claim.of_flag) (named.1.0 ∙ in_progress_claim.of_type) same_edition;
          }

    went : Went f (begun_after b f)
    unfolding begun_after
    went = rw (own, yes_is) (choose (eqb (input f.args 4) 1) (Went f) (λ e. went_first (eqb-true _ _ e)) (λ e. went_on (eqb-false _ _ e)))

    -- what is known afterwards
    in_progress_then : (ltb went.far (length (list_of (begun_after b f))) ≡ true) → InProgress (call_of f).reading (begun_after b f)
    in_progress_then t =
        let w = went in
        let less = ltb-true w.far _ t in
        let before_is : w.far + 1 - 1 ≡ w.far = omega arith in
        let record_then : (call_of f).reading ≡ naming (begun_after b f).flag (begun_after b f).type (w.far + 1) (begun_after b f).edition.0 = w.record_is ∙ rw t in
        rw record_then (record { of_flag = refl; of_type = refl; of_edition = refl; begun = omega (arith, w.some); due = omega (arith, less); handed = rw before_is w.handed })

    record_then : ((call_of f).reading ≡ naming 0 0 1 0) ⊎ InProgress (call_of f).reading (begun_after b f)
    record_then = decide (ltb went.far (length (list_of (begun_after b f)))) (λ t. inr (in_progress_then t)) (λ t. inl (went.record_is ∙ rw t))

    ended_then : status_then f ≡ 0 → Ended f (begun_after b f)
    ended_then zero_is =
        let w = went in
        let es = list_of (begun_after b f) in
        let last : length es ≤ w.far = decide (ltb w.far (length es)) (λ t. absurd (unended _ (status_then f) zero_is w.status t)) (λ t. ltb-false w.far (length es) t) in
        record { of_flag = w.of_flag; of_type = w.of_type; of_edition = w.of_edition; of_inventory = w.of_inventory; handed = w.handed ∙ ap read (take_all w.far es last) }

  -- ---- any other call

  abbrev is_read : Bool
  is_read = is_indices f.args && is_answered f

  -- it keeps the record or clears it
  kept_or_cleared : is_read ≡ false → ((call_of f).reading ≡ st.reading) ⊎ ((call_of f).reading ≡ naming 0 0 1 0)
  kept_or_cleared unread = decide (is_indices f.args) among (λ e. inl ((demand1 f).other_reading (λ a. true≢false (sym (asks_by 2 5 2 f.args a.0 a.1 a.2) ∙ e))))
    where
      among : is_indices f.args ≡ true → ((call_of f).reading ≡ st.reading) ⊎ ((call_of f).reading ≡ naming 0 0 1 0)
      among own =
          let refused = refused_is f (rw own at unread) in
          decide (is_given (number_for f.args))
          (λ g. decide (eqb (status_of f.args (call_of f)) (minus 4))
          (λ t. inr ((demand1 f).cleared_reading (has_status f g, asked 2 5 2 f.args own, eqb-true _ _ t)))
          (λ t. inl ((demand1 f).refused_reading refused (λ h. eqb-false _ _ t h.2))))
          (λ g. inl ((demand1 f).refused_reading refused (λ h. true≢false (sym (has_given f h.0) ∙ g))))

  unread_known : is_read ≡ false → Known (after_call st c)
  unfolding begun_after
  unread_known unread =
      rw unread
      (record {
        bytes = known.bytes;
        edition_is = known.edition_is;
        one_inventory = known.one_inventory;
        record_is = ⊎_elim (λ e. rw e known.record_is) inl (kept_or_cleared unread);
      })

  read_known : is_indices f.args ≡ true → is_answered f ≡ true → Known (after_call st c)
  read_known own yes_is =
      let w = went own yes_is in
      record {
        bytes = known.bytes;
        edition_is = omega (arith, w.unedited, ap (λ (e : Edition). e.0) w.of_edition);
        one_inventory = λ _. sym w.of_inventory;
        record_is = record_then own yes_is;
      }

  call_known : Known (after_call st c)
  call_known = decide is_read (λ t. read_known (and_left _ _ t) (and_right (is_indices f.args) _ t)) unread_known

-- ---- an edit

module _ (st : Standing) (known : Known st) where
  still : {b : Begun} → InProgress st.reading b → InProgress st.reading (edited b)
  still p = record { of_flag = p.of_flag; of_type = p.of_type; of_edition = p.of_edition; begun = p.begun; due = p.due; handed = p.handed }

  taken_known : (i : List ℕ) → Bytes i → Known (after_edit st i (Some (record { 0 = st.edition.0 + 1 })))
  taken_known i bytes = record { bytes = bytes; edition_is = omega (arith, known.edition_is); one_inventory = λ e. absurd (omega arith); record_is = ⊎_elim inl (λ p. inr (still p)) known.record_is }

  edit_known : (i : List ℕ) → Bytes i → Known (after_event st (edits i))
  unfolding edit_of
  edit_known i bytes = choose (eqb st.edition.0 0xffff_ffff) (λ (x : Option Edition). Known (after_edit st i x)) (λ _. known) (λ _. taken_known i bytes)

-- ---- any list of events

abbrev Rule : Standing → Event → Type 0
Rule st x = OfBytes x

event_known : (st : Standing) (x : Event) → Known st → Rule st x → Known (after_event st x)
event_known st (calls c) known r = call_known st known c
event_known st (edits i) known r = edit_known st known i r

start_known : (i : List ℕ) (e : Edition) → Bytes i → Known (start i e)
start_known i e bytes = record { bytes = bytes; edition_is = omega arith; one_inventory = λ _. refl; record_is = inl refl }

module _ (st : Standing) (known : Known st) where
  -- a call that gives 0 is answered
  ended : (c : Call) → Gives 0 (found_by st c) → Ended (found_by st c) (begun_after st.begun (found_by st c))
  unfolding answered
  ended c g =
      let f = found_by st c in
      let low : status_then f ≤ 1 = omega (arith, g.2) in
      let yes_is : is_answered f ≡ true = rw (ap is_given (number_is f), has_given f g.0, le-leb (status_then f) 1 low) in
      ended_then st known c (asks_by 2 5 2 f.args g.1.0 g.1.1 g.1.2) yes_is g.2

  undisturbed : st.begun.edits ≡ 0 → (c : Call) → Gives (minus 4) (found_by st c) → ⊥
  undisturbed none_since c = never_changed (found_by st c)
      (⊎_elim (λ e. inl (ap (λ (r : ReadingRecord). r.number.0) e)) (λ p. inr (omega (arith, known.edition_is, none_since, ap (λ (e : Edition). e.0) p.of_edition))) known.record_is)

  accounted : Accounted st
  accounted = record {
    in_progress_claim = λ h. ⊎_elim (λ e. absurd (h e)) (λ p. p) known.record_is;
    ended = ended;
    one_inventory = λ e. known.one_inventory (omega (arith, known.edition_is, ap (λ (x : Edition). x.0) e));
    undisturbed = undisturbed;
  }

pub one_edition : OneEdition
one_edition i e events bytes = accounted (standing i e events) (session.kept after_event Rule Known event_known (start i e) events (start_known i e bytes.0) bytes.1)

pub begins_afresh : BeginsAfresh
begins_afresh flag type f bytes formed may some made =
    made_answers f flag type 0 made bytes formed may (omega arith)
    ((named_exact f.reading (request_of f.args)).1 (λ n. absurd (n made.numbered))) ((current_exact f.reading (request_of f.args) f.edition).1 (λ n. absurd (n made.numbered)))
