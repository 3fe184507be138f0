-- What the readers tell at the C boundary, word by word of a buffer that may be short.
use mathlib.Core.Path.{◌≡◌, refl, sym, ap}
use mathlib.Core.Bool.{true, cond}
use mathlib.Core.List.{List, [], ◌∷◌, ◌++◌, append_assoc, append-nil}
use Prim.Native.Nat.{ℕ, zero, suc, ◌+◌, ◌*◌, ◌-◌, ◌/◌, ◌%◌, ◌<◌, ◌≤◌, min}
use native.Mathlib.Nat.{zero-add, min-zero, zero-min, suc-min-suc, mul-zero, mul-suc, mul-le-mul_left, lt_of_mul-lt-mul_left}
use native.Mathlib.Omega.{arith}
use lib.Dec.{leb, ltb, eqb}
use lib.ListN.{length, take, drop, length-append, length-drop}
use lib.Seq.{sets, length-sets, sets-eq, length-take-le, drop-append-add, drop-drop, append_snoc}
use borrow.Author.Tests.{eqb-true, eqb-false, ltb-true, ltb-false, lt-ltb, le-ltb}
use Rattle.words.specs.Numbers.{Bytes, be32, be_bytes}
use Rattle.words.proofs.Choice.{choose, and_right}
use Rattle.words.proofs.Numbers.{be_below, length_be_bytes}
use Rattle.words.proofs.Stores.{sets_after}
use Rattle.journal.specs.declared.operation.Operation.{Operation}
use Rattle.journal.specs.declared.operation.Operation.TheVariants.{Delete, Update, Add}
use Rattle.inventory.specs.Listing.{Entry}
use Rattle.std.specs.Prelude.{Ok}
use Rattle.indices.specs.Area.{field_limit}
use Rattle.indices.specs.Claims.Longest.{taken}
use Rattle.indices.specs.Reading.{length_at, good_length, fault_at, entry_at, check_of}
use Rattle.indices.specs.Cursor.{entries_from, remaining, start_of}
use Rattle.indices.proofs.IndexLaws.{code_part, judged, entries_in_order}
use Rattle.indices.proofs.Fine.{code_ends, Reads, reads_next, area_reads}
use Rattle.std.specs.Prelude.{Result, Ok, Err}
use Rattle.property_area.specs.declared.reading.Located.{Located}
use Rattle.property_area.specs.declared.reading.Refusal as properties_refusal
use Rattle.property_area.specs.Head.{count_in, first_at}
use Rattle.property_area.specs.Piece.{Piece, deletion, descriptor_of, length_of_value, piece_bytes, pieces_bytes}
use Rattle.property_area.specs.Reading.{name_at, descriptor_place, located_at, end_of, judged_at, piece_in}
use Rattle.property_area.specs.Claims.Cursor.{fine_or, pieces_from}
use Rattle.property_area.proofs.Judging.{fine_told}
use Rattle.property_area.proofs.PropertyLaws.{area_pieces}
use Rattle.readers.specs.Readings.{operation_words, operations_words, set_words, sets_words, property_words, properties_words}
use Rattle.readers.specs.Claims.Readers.{Stored, OperationTold, NodesTold, EntryTold, IndicesTold, PieceTold, PropertiesTold}

-- ---- words of entries, one after the other

-- words that tell the next entries of a list after some, w words each, at most n of them
data Row {E : Type 0} (w : ℕ) (Tells : List E → List ℕ → E → Type 0) : List E → ℕ → List E → List ℕ → Type 0 where
  none : {before es : List E} → Row w Tells before 0 es []
  end : {before : List E} {n : ℕ} → Row w Tells before n [] []
  one : {before : List E} {n : ℕ} {e : E} {es : List E} {ws : List ℕ} (us : List ℕ) → length us ≡ w → ((rest : List ℕ) → Tells before (us ++ rest) e)
      → Row w Tells (before ++ (e ∷ [])) n es ws → Row w Tells before (suc n) (e ∷ es) (us ++ ws)

module _ {E : Type 0} {w : ℕ} {Tells : List E → List ℕ → E → Type 0} where
  -- there are no more words than room for them, and no more than of all entries
  row_few : {first : List E} {n : ℕ} {es : List E} {ws : List ℕ} → Row w Tells first n es ws → (length ws ≤ w * n) × (length ws ≤ w * length es)
  row_few none = (omega arith, omega arith)
  row_few end = (omega arith, omega arith)
  row_few (one {n = n} {es = es} {ws = ws} us wide tells row) =
      let more = row_few row in
      rw (length-append us ws, mul-suc w n, mul-suc w (length es)) (omega arith, omega arith)

  -- the words of the entry after some others stand after theirs
  row_at : {first : List E} {n : ℕ} {es : List E} {ws : List ℕ} → Row w Tells first n es ws → (before : List E) (e : E) (later : List E)
      → es ≡ before ++ (e ∷ later) → length before < n → (rest : List ℕ) → Tells (first ++ before) (drop (w * length before) (ws ++ rest)) e
  row_at none before e later is few rest = absurd (omega arith)
  row_at end before e later is few rest = absurd (omega (arith, length-append before (e ∷ later), ap length is))
  row_at (one {before = first} {e = d} {ws = ws} us wide tells row) [] e later is few rest =
      let same : d ≡ e = cc in rw (append-nil first, mul-zero w, append_assoc us ws rest, ← same) (tells (ws ++ rest))
  row_at (one {before = first} {e = d} {ws = ws} us wide tells row) (b ∷ before) e later is few rest =
      let same : d ≡ b = cc in
      let place : w * suc (length before) ≡ length us + w * length before = omega (arith, mul-suc w (length before)) in
      rw (place, append_assoc us ws rest, drop-append-add us (ws ++ rest) (w * length before), ← same, ← append_snoc first d before)
      (row_at row before e later (cc) (omega arith) rest)

-- as many whole entries as a buffer has room for, stored from its first word on
module _ {E : Type 0} {w n : ℕ} {Tells : List E → List ℕ → E → Type 0} {es : List E} {ws : List ℕ} (out : List ℕ) (row : Row w Tells [] n es ws)
    (fits : w * n ≤ length out) (full : length out < w * n + w) where
  after : sets out 0 ws ≡ ws ++ drop (length ws) out
  after = rw zero-add at (sets-eq ws out 0 (omega (arith, row_few row)))

  fewer : (a b : ℕ) → w * a ≤ length out → length out < w * b + w → a ≤ b
  fewer a b low high = let less : w * a < w * suc b = rw (mul-suc w b) (omega arith) in omega (arith, lt_of_mul-lt-mul_left w less)

  rest_kept : (k : ℕ) → length ws ≤ k → drop k (sets out 0 ws) ≡ drop k out
  rest_kept k h =
      let place : k ≡ length ws + (k - length ws) = omega arith in
      rw (after, place, drop-append-add ws (drop (length ws) out) (k - length ws), drop-drop)

  stored : Stored w Tells es out (sets out 0 ws)
  stored = record {
    size = length-sets out 0 ws;
    each = λ before e later is room.
        let few = fewer (suc (length before)) n (rw (mul-suc w (length before)) room) full in
        rw after (row_at row before e later is few (drop (length ws) out));
    others = λ k h. sets_after ws out 0 k (omega (arith, row_few row));
    rest = λ m k size few. rest_kept (w * m) (omega (arith, row_few row, mul-le-mul_left w (fewer n m fits (omega arith))));
  }

-- ---- node areas

operations_row : (before : List Operation) (n : ℕ) (os : List Operation) → Row 3 OperationTold before n os (operations_words (take n os))
unfolding operations_words
operations_row before zero os = none
operations_row before (suc n) [] = end
operations_row before (suc n) (Delete p ∷ os) = one (operation_words (Delete p)) refl (λ rest. refl) (operations_row _ n os)
operations_row before (suc n) (Update p ∷ os) = one (operation_words (Update p)) refl (λ rest. refl) (operations_row _ n os)
operations_row before (suc n) (Add p d ∷ os) = one (operation_words (Add p d)) refl (λ rest. refl) (operations_row _ n os)

pub nodes_told : (scope : ℕ) (area out : List ℕ) → NodesTold scope area out
nodes_told scope area out = record {
  refused = λ number at r. rw (r.1.1, r.1.0) (refl, refl);
  entries = λ os e. rw e (refl, stored out (operations_row [] (length out / 3) os) (omega arith) (omega arith));
}

-- ---- index areas

-- entries take what each of them takes
taken_more : (before : List Entry) (e : Entry) → taken (before ++ (e ∷ [])) ≡ taken before + (8 + 4 * (length e.code / 4 + 1))
unfolding taken
taken_more [] e = omega arith
taken_more (b ∷ before) e = omega (arith, taken_more before e)

-- the length of a good set by its code
set_size : (n c : ℕ) → n % 4 ≡ 0 → c + 1 ≤ n → n ≤ c + 4 → n ≡ 4 * (c / 4 + 1)
set_size n c whole low high = omega arith

good_whole : (n : ℕ) → good_length n ≡ true → n % 4 ≡ 0
unfolding good_length
good_whole n e = eqb-true (n % 4) 0 (and_right (leb n field_limit) _ (and_right (leb 1 n) _ e))

module _ (area : List ℕ) where
  -- the words of a good set, and the place after it
  set_told : (at : ℕ) (before : List Entry) → at ≡ 4 + taken before → fault_at area at ≡ Ok tt → let e = entry_at area at in
      ((rest : List ℕ) → EntryTold area before (set_words area at ++ rest) e) × (at + (8 + length_at area at) ≡ 4 + taken (before ++ (e ∷ [])))
  set_told at before place fine =
      let ends = code_ends area at fine in
      let size = set_size (length_at area at) _ (good_whole (length_at area at) (judged area at fine).0) ends.0 ends.1 in
      (λ rest. rw (← place) (refl, sym (code_part area at)), omega (arith, taken_more before (entry_at area at)))

  sets_row : (n m at : ℕ) (before : List Entry) → at ≡ 4 + taken before → let es = entries_from n area at in
      Reads (length es) area at → Row 3 (EntryTold area) before m es (sets_words (min m (length es)) area at)
  unfolding entries_from sets_words
  sets_row zero m at before place = λ reads. rw (min-zero m) end
  sets_row (suc n) zero at before place = λ reads. rw zero-min none
  sets_row (suc n) (suc m) at before place =
      choose (ltb (length area - at) 8)
      (λ (es : List Entry). Reads (length es) area at → Row 3 (EntryTold area) before (suc m) es (sets_words (min (suc m) (length es)) area at))
      (λ _ reads. rw (min-zero (suc m)) end)
      (λ _ reads.
      let next = reads_next _ area at reads in
      let told = set_told at before place next.0 in
      rw suc-min-suc (one (set_words area at) refl told.0 (sets_row n m (at + (8 + length_at area at)) _ told.1 next.1)))

pub indices_told : (area out : List ℕ) → IndicesTold area out
unfolding remaining taken
indices_told area out = record {
  refused = λ number at r. rw (r.1.1, r.1.0) (refl, refl);
  entries = λ es e.
      let all = entries_in_order area es e in
      let reads = area_reads area (length es) (length es) (ap check_of e) (omega arith) in
      let row = rw all at (sets_row area (start_of area).left (length out / 3) 4 [] refl (rw all reads)) in
      rw e (refl, stored out row (omega arith) (omega arith));
}

-- ---- property areas

-- the length of a value tells its descriptor back, which is a 32-bit word
descriptor_back : (d : ℕ) → d < 0x1_0000_0000 → let n = length_of_value d in d ≡ cond (eqb d deletion) deletion (cond (ltb deletion d) (0x1_0000_0000 - n) n)
descriptor_back d small =
    choose (eqb d deletion) (λ x. d ≡ x) (eqb-true d deletion)
    (λ e. choose (ltb deletion d) (λ x. d ≡ x)
    (λ t. let more = ltb-true deletion d t in rw (e, le-ltb d deletion (omega arith)) (omega arith))
    (λ t. let fewer = ltb-false deletion d t in let other = eqb-false d deletion e in rw (e, lt-ltb d deletion (omega arith))))

-- properties take what each of them takes
piece_length : (p : Piece) → length (piece_bytes p) ≡ length p.part.name + 5 + length p.part.value
unfolding piece_bytes
piece_length p =
    let word = be_bytes 4 (descriptor_of p) in
    omega (arith, length-append p.part.name (0 ∷ (word ++ p.part.value)), length-append word p.part.value, length_be_bytes 4 (descriptor_of p))

pieces_more : (before : List Piece) (p : Piece) → length (pieces_bytes (before ++ (p ∷ []))) ≡ length (pieces_bytes before) + length (piece_bytes p)
unfolding pieces_bytes
pieces_more [] p = omega (arith, length-append (piece_bytes p) [])
pieces_more (b ∷ before) p = simp length-append (omega (arith, pieces_more before p))

module _ (area : List ℕ) (bytes : Bytes area) where
  -- the words of a fine property, and the place after it
  piece_told : (at : ℕ) (before : List Piece) → at ≡ 20 + length (pieces_bytes before) → let l = located_at area at in let p = piece_in area l in
      end_of l ≤ length area
      → ((rest : List ℕ) → PieceTold area before (property_words l ++ rest) p) × (end_of l ≡ 20 + length (pieces_bytes (before ++ (p ∷ []))))
  piece_told at before place inside =
      let d = descriptor_place area at in
      let p = piece_in area (located_at area at) in
      let name = length-take-le (length (name_at area at)) (drop at area) (omega (arith, length-drop at area)) in
      let value = length-take-le (length_of_value (be32 area d)) (drop (d + 4) area) (omega (arith, length-drop (d + 4) area)) in
      let five : at + length (name_at area at) + 5 ≡ d + 4 = omega arith in
      let back = descriptor_back (be32 area d) (be_below area bytes 4 d) in
      (λ rest. rw (← place, name, value, five) (cc, refl, refl), omega (arith, pieces_more before p, piece_length p))

  pieces_row : (n m at : ℕ) (before : List Piece) → at ≡ 20 + length (pieces_bytes before)
      → let ps = pieces_from n area at in Row 5 (PieceTold area) before m ps (properties_words (min m (length ps)) area at)
  unfolding pieces_from properties_words
  pieces_row zero m at before place = rw (min-zero m) end
  pieces_row (suc n) zero at before place = rw zero-min none
  pieces_row (suc n) (suc m) at before place = go (judged_at area at) refl (pieces_row n m (end_of (located_at area at)))
    where
      go : (j : Result Located properties_refusal.Refusal) → judged_at area at ≡ j
          → let l = located_at area at in let others = pieces_from n area (end_of l) in let ps = fine_or j (piece_in area l ∷ others) in
          ((first : List Piece) → end_of l ≡ 20 + length (pieces_bytes first)
          → Row 5 (PieceTold area) first m others (properties_words (min m (length others)) area (end_of l)))
          → Row 5 (PieceTold area) before (suc m) ps (properties_words (min (suc m) (length ps)) area at)
      go (Err r) e row = rw (min-zero (suc m)) end
      go (Ok l) e row =
          let found = fine_told area at l e in
          let told = piece_told at before place (rw found.0 at found.1) in
          rw suc-min-suc (one (property_words (located_at area at)) refl told.0 (row _ told.1))

pub properties_told : (area out : List ℕ) → PropertiesTold area out
unfolding pieces_bytes
properties_told area out = record {
  refused = λ number at r. rw (r.1.1, r.1.0) (refl, refl);
  entries = λ bytes ps e.
      let row = rw (area_pieces area ps e) at (pieces_row area bytes (count_in area) (length out / 5) first_at [] refl) in
      rw e (refl, stored out row (omega arith) (omega arith));
}
