-- The writer's steps: the stores of an entry, one entry after the other, and the run with its count.
use mathlib.Core.Path.{◌≡◌, refl, sym, ap, ◌∙◌}
use mathlib.Core.List.{List, [], ◌∷◌, ◌++◌}
use Prim.Native.Nat.{ℕ, suc, ◌+◌, ◌-◌, ◌≤◌, ◌<◌}
use native.Mathlib.Nat.{zero-add}
use native.Mathlib.Omega.{arith}
use lib.ListN.{length, drop, replicate, length-append, drop_of_length-le}
use lib.Seq.{sets, sets-eq, length-sets}
use borrow.Author.Tests.{le-leb, lt-leb}
use Rattle.words.specs.Numbers.{be_bytes}
use Rattle.words.proofs.Numbers.{length_be_bytes}
use Rattle.words.proofs.Stores.{sets_behind, sets_swap}
use Rattle.records.specs.Records.{records, size_limit}
use Rattle.inventory.specs.Inventory.{code_limit}
use Rattle.inventory.specs.Listing.{Entry, listed}
use Rattle.inventory.specs.Claims.Scanning.{ahead, GoodFrom}
use Rattle.inventory.specs.Claims.Search.{next_place}
use Rattle.inventory.specs.declared.locating.Located.{Located}
use Rattle.inventory.specs.Inner.Located.{located_at, entry_in}
use Rattle.inventory.proofs.LocatedLaws.{code_sized, located_entry, located_inside, located_few}
use Rattle.inventory.proofs.Search.{NextMatch, next_match}
use Rattle.indices.specs.Area.{filled, entry_size, code_field, entry_bytes, entries_bytes, fitting, run, answer, written, area_after}
use Rattle.indices.specs.Claims.Writing.{DueEntries}
use Rattle.indices.proofs.Written.{fitting_few}
use Rattle.indices.proofs.Longest.{entry_length, entries_length, fitting_taken}

-- ---- an entry

-- the code's four stores
pub entry_stored : (area : List ℕ) (to n : ℕ) (e : Entry) → length e.code ≡ n
    → sets (sets (sets (sets area to (be_bytes 4 e.index)) (to + 4) (be_bytes 4 (filled n))) (to + 8) e.code) (to + 8 + n) (replicate (filled n - n) 0) ≡ sets area to (entry_bytes e)
unfolding entry_bytes code_field
entry_stored area to n e h =
    let index = be_bytes 4 e.index in
    let size = be_bytes 4 (filled n) in
    let nuls : List ℕ = replicate (filled n - n) 0 in
    let first : List ℕ = sets area to index in
    let second : List ℕ = sets first (to + 4) size in
    sets_behind second (to + 8) (to + 8 + n) e.code nuls (omega arith)
    ∙ sets_behind first (to + 4) (to + 8) size (e.code ++ nuls) (omega (arith, length_be_bytes 4 (filled n)))
    ∙ sets_behind area to (to + 4) index (size ++ (e.code ++ nuls)) (omega (arith, length_be_bytes 4 e.index))
    ∙ rw h

-- whether it fits
module _ (room n : ℕ) (e : Entry) (es : List Entry) (sized : length e.code ≡ n) where
  fitting_none : room < entry_size n → fitting room (e ∷ es) ≡ []
  unfolding fitting
  fitting_none h = rw (sized, lt-leb (entry_size n) room h)

  fitting_more : entry_size n ≤ room → fitting room (e ∷ es) ≡ e ∷ fitting (room - entry_size n) es
  unfolding fitting
  fitting_more h = rw (sized, le-leb (entry_size n) room h)

-- ---- the loop

-- The writer has handed out so many entries of a run and stands at a place of the inventory and of the area:
-- the entries from there on that fit, stored from there on, give the run.
pub record Writing (start : List ℕ) (whole : List Entry) (flag type count : ℕ) (inventory area : List ℕ) (at to handed : ℕ) : Type 0 where
  pub onward : GoodFrom flag type inventory at
  pub due : count ≡ handed + length (ahead flag type inventory at)
  pub inside : to ≤ length area
  pub same : length area ≡ length start
  pub number : handed + length (fitting (length area - to) (ahead flag type inventory at)) ≡ length whole
  pub stored : sets area to (entries_bytes (fitting (length area - to) (ahead flag type inventory at))) ≡ sets start 4 (entries_bytes whole)

pub writing_start : (flag type count : ℕ) (inventory area : List ℕ) (from : ℕ) → 4 ≤ length area → GoodFrom flag type inventory from → count ≡ length (ahead flag type inventory from)
    → Writing area (fitting (length area - 4) (ahead flag type inventory from)) flag type count inventory area from 4 0
writing_start flag type count inventory area from h o e = record { onward = o; due = omega arith; inside = h; same = refl; number = zero-add _; stored = refl }

module _ {start : List ℕ} {whole : List Entry} {flag type count : ℕ} {inventory area : List ℕ} {at to handed : ℕ} (w : Writing start whole flag type count inventory area at to handed) where
  -- the run is handed out, and its bytes stand in the area
  abbrev Done : Type 0
  Done = (handed ≡ length whole) × (area ≡ sets start 4 (entries_bytes whole))

  done : fitting (length area - to) (ahead flag type inventory at) ≡ [] → Done
  unfolding entries_bytes
  done e = (omega (arith, ap length e), rw e at w.stored)

  -- no entry is areaAfter
  pub writing_end : count ≤ handed → Done
  unfolding fitting
  writing_end h = done (ap (fitting (length area - to)) (drop_of_length-le (ahead flag type inventory at) {i = 0} (omega arith)))

  -- while entries remain, the search finds the next one
  pub next_found : handed < count → (found : ℕ) → found ≡ next_place flag type at (records (drop at inventory)) → NextMatch flag type inventory at found
  next_found h found p = rw p (next_match w.onward (omega (arith, w.due)))

  -- its record stands in the inventory
  pub entry_within : (found : ℕ) (l : Located) → NextMatch flag type inventory at found → l ≡ located_at inventory found
      → (l.length ≤ code_limit) × ((l.start + l.length ≤ length inventory) × (found + l.size ≤ length inventory))
  entry_within found l next p = let r = next.readable in rw p (located_few r, (located_inside r, r.inside))

  -- the next entry, by what the code read: its record's place and parts, and the bytes that it takes in the area
  module _ (found : ℕ) (l : Located) (taken : ℕ) (next : NextMatch flag type inventory at found) (p : l ≡ located_at inventory found) (q : taken ≡ entry_size l.length) where
    abbrev entry : Entry
    entry = entry_in inventory l

    sized : length entry.code ≡ l.length
    sized = code_sized inventory l (rw p (located_inside next.readable))

    first : ahead flag type inventory at ≡ entry ∷ ahead flag type inventory (found + l.size)
    first = rw p (next.first ∙ ap (λ (e : Entry). e ∷ ahead flag type inventory (found + (located_at inventory found).size)) (sym (located_entry next.readable)))

    -- it does not fit
    pub writing_full : length area - to < taken → Done
    writing_full h = done (ap (fitting (length area - to)) first ∙ fitting_none (length area - to) l.length entry _ sized (omega arith))

    -- it is stored
    pub writing_next : taken ≤ length area - to → Writing start whole flag type count inventory (sets area to (entry_bytes entry)) (found + l.size) (to + taken) (handed + 1)
    unfolding entries_bytes
    writing_next h =
        let same_size : length (sets area to (entry_bytes entry)) ≡ length area = length-sets area to (entry_bytes entry) in
        let more = ap (fitting (length area - to)) first ∙ fitting_more (length area - to) l.length entry _ sized (omega arith) in
        let rest : List Entry = fitting (length area - to - entry_size l.length) (ahead flag type inventory (found + l.size)) in
        let room : length (sets area to (entry_bytes entry)) - (to + taken) ≡ length area - to - entry_size l.length = omega arith in
        record {
          onward = rw p next.onward;
          due = omega (arith, ap length first);
          inside = omega arith;
          same = same_size ∙ w.same;
          number = rw room (omega (arith, ap length more));
          stored = rw room (sets_behind area to (to + taken) (entry_bytes entry) (entries_bytes rest) (omega (arith, entry_length entry, sized)) ∙ ap (λ (x : List Entry). sets area to (entries_bytes x)) (sym more) ∙ w.stored);
        }

-- ---- the run with its count

-- the area without an entry, and with some behind their count
after_none : (area : List ℕ) (es : List Entry) → length es ≡ 0 → sets area 4 (entries_bytes es) ≡ area_after area es
unfolding area_after entries_bytes
after_none area [] h = refl
after_none area (e ∷ es) h = absurd (omega arith)

after_some : (area : List ℕ) (es : List Entry) → 0 < length es → 4 + length (entries_bytes es) ≤ length area → sets (sets area 4 (entries_bytes es)) 0 (be_bytes 4 (length es)) ≡ area_after area es
unfolding area_after written answer
after_some area [] h l = absurd (omega arith)
after_some area (e ∷ es) h l =
    let count = be_bytes 4 (suc (length es)) in
    let bytes = entries_bytes (e ∷ es) in
    let four = length_be_bytes 4 (suc (length es)) in
    sets_swap count bytes area 0 4 (omega arith) ∙ sets_behind area 0 4 count bytes (omega arith) ∙ sets-eq (count ++ bytes) area 0 (omega (arith, length-append count bytes)) ∙ rw zero-add

module _ (area : List ℕ) {inventory : List ℕ} {flag type number from count : ℕ} (d : DueEntries flag type number inventory from count) where
  abbrev due_run : List Entry
  due_run = fitting (length area - 4) (ahead flag type inventory from)

  -- what a call is to hand out and to leave
  abbrev Answered : ℕ → List ℕ → Type 0
  Answered handed l = (handed ≡ length (run (length area) number (listed flag type inventory))) × (l ≡ area_after area (run (length area) number (listed flag type inventory)))

  answered : {handed : ℕ} {l : List ℕ} → handed ≡ length due_run → l ≡ area_after area due_run → Answered handed l
  unfolding run
  answered p q = rw d.rest (p, q)

  pub run_few : length due_run ≤ size_limit
  run_few = omega (arith, fitting_few (length area - 4) (ahead flag type inventory from))

  -- by what the writer of the entries tells, and the count that is stored after them
  module _ {handed : ℕ} {l : List ℕ} (p : handed ≡ length due_run) (q : l ≡ sets area 4 (entries_bytes due_run)) where
    pub run_none : handed ≤ 0 → Answered handed l
    run_none h = answered p (q ∙ after_none area due_run (omega arith))

    pub run_counted : {m : List ℕ} → 4 ≤ length area → 0 < handed → m ≡ sets l 0 (be_bytes 4 handed) → Answered handed m
    run_counted f h e = answered p (e ∙ rw (q, p) (after_some area due_run (omega arith) (omega (arith, entries_length due_run, fitting_taken (length area - 4) (ahead flag type inventory from)))))
