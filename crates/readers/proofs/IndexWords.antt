-- The sets of an index area as words in a buffer.
use mathlib.Core.Path.{◌≡◌, refl, ◌∙◌}
use mathlib.Core.List.{List, [], ◌∷◌}
use Prim.Native.Nat.{ℕ, zero, suc, ◌+◌, ◌*◌, ◌-◌, ◌/◌, ◌<◌, ◌≤◌, min}
use native.Mathlib.Omega.{arith}
use lib.Dec.{ltb}
use lib.ListN.{length, get_or}
use lib.Seq.{sets}
use Rattle.words.specs.Numbers.{be32}
use Rattle.words.specs.Nul.{until_nul}
use Rattle.words.proofs.Choice.{choose}
use Rattle.inventory.specs.Listing.{Entry}
use Rattle.indices.specs.declared.reading.Refusal.{Refusal}
use Rattle.std.specs.Prelude.{Ok, Err}
use Rattle.words.specs.declared.refused.Refused.{Refused}
use Rattle.words.specs.Reading.{Reading, read, refused}
use Rattle.indices.specs.Reading.{length_at, field_at, fault_at, refusal_number, check_of}
use Rattle.indices.specs.Cursor.{entries_from, remaining}
use Rattle.indices.proofs.IndexLaws.{code_part, fine_inside, entries_in_order}
use Rattle.indices.proofs.Fine.{fine_some, code_ends, nul_place, code_place, Reads, reads_next}
use Rattle.readers.specs.declared.reading_indices.IndexReading.{IndexReading}
use Rattle.readers.specs.Readings.{set_words, sets_words, index_reading, indices_out}
use Rattle.readers.specs.Claims.Readings.{entries_told, WordsTell}
use Rattle.readers.proofs.EntryWords as entry

-- ---- the length of a code by the last bytes of its field

module _ (area : List ℕ) (at n : ℕ) (p : (n ≡ length_at area at) × (fault_at area at ≡ Ok tt)) where
  pub field_stands : (4 ≤ n) × (at + 8 + n ≤ length area)
  field_stands = (omega (arith, fine_some area at p.1), omega (arith, fine_inside area at p.1))

  pub field_ends : (length (until_nul (field_at area at)) + 1 ≤ n) × (n ≤ length (until_nul (field_at area at)) + 4)
  field_ends = rw p.0 (code_ends area at p.1)

  -- one of the last four bytes is a NUL, or one of the code's
  module _ (k : ℕ) (some : 1 ≤ k) (last : k ≤ 4) where
    pub nul_last : get_or area (at + 8 + n - k) 0 ≡ 0 → length (until_nul (field_at area at)) + k ≤ n
    nul_last e = omega (arith, field_stands, nul_place area at p.1 (at + 8 + n - k) (omega (arith, field_stands)) (omega (arith, field_stands)) e)

    pub code_last : (get_or area (at + 8 + n - k) 0 ≡ 0 → ⊥) → n < length (until_nul (field_at area at)) + k
    code_last e = omega (arith, field_stands, code_place area at p.1 (at + 8 + n - k) (omega (arith, field_stands)) (omega (arith, field_stands)) e)

-- ---- sets stored one after the other

abbrev pub Storing : List ℕ → List ℕ → ℕ → List ℕ → ℕ → ℕ → Type 0
Storing = entry.Storing 3 Reads sets_words 4

module _ {area start l : List ℕ} {count at i : ℕ} (t : Storing area start count l at i) where
  module _ (more : i < count) where
    next : (fault_at area at ≡ Ok tt) × Reads (count - (i + 1)) area (at + (8 + length_at area at))
    next = reads_next (count - (i + 1)) area at (entry.storing_passed t more)

    -- the set at the place has no fault, so it stands in the area
    pub storing_fine : fault_at area at ≡ Ok tt
    storing_fine = next.0

    pub storing_room : 8 + length_at area at ≤ length area - at
    storing_room = fine_inside area at storing_fine

    pub storing_next : {m : List ℕ} (x n r : ℕ) → x ≡ be32 area at → n ≡ length_at area at → r ≡ length (until_nul (field_at area at)) → m ≡ sets l (3 * i) (x ∷ (at + 8) ∷ r ∷ []) → Storing area start count m (at + (8 + n)) (i + 1)
    unfolding sets_words
    storing_next x n r index size long f = rw size (entry.storing_next t more (set_words area at) (at + (8 + length_at area at)) refl refl next.1 (f ∙ rw (index, long)))

  pub storing_end : count ≤ i → l ≡ sets start 0 (sets_words count area 4)
  unfolding sets_words
  storing_end = entry.storing_end t refl

-- ---- the words tell the entries

words_tell_from : (n : ℕ) (area : List ℕ) (at : ℕ) → entries_told area (sets_words (length (entries_from n area at)) area at) ≡ entries_from n area at
unfolding entries_told sets_words entries_from
words_tell_from zero area at = refl
words_tell_from (suc n) area at =
    choose (ltb (length area - at) 8) (λ (es : List Entry). entries_told area (sets_words (length es) area at) ≡ es) (λ _. refl)
    (λ _. rw (words_tell_from n area (at + (8 + length_at area at)), ← code_part area at))

words_tell : WordsTell
unfolding remaining
words_tell area es e = rw (← entries_in_order area es e) (words_tell_from _ area 4)

-- ---- the reading of an area by its check

-- what the reader promises of its answer and its buffer
abbrev Told : List ℕ → List ℕ → IndexReading → List ℕ → Reading Entry Refusal → Type 0
Told area out answer after r = (answer ≡ index_reading r) × ((after ≡ indices_out out area r) × WordsTell)

module _ (area out : List ℕ) where
  pub refusal_told : (w : ℕ) (x : Refused Refusal) → w ≡ refusal_number x.refusal → (r : Reading Entry Refusal) → check_of r ≡ Err x → Told area out (record { refusal = w; offset = x.offset; entries = 0 }) out r
  refusal_told w x e (read es) h = (cc, (cc, words_tell))
  refusal_told w x e (refused g j) h = let same : record { refusal = g; offset = j } ≡ x = cc in (rw (e, ← same), (refl, words_tell))

  pub entries_told_lem : (n k : ℕ) (after : List ℕ) → k ≡ min n (length out / 3) → after ≡ sets out 0 (sets_words k area 4) → (r : Reading Entry Refusal) → check_of r ≡ Ok n → Told area out (record { refusal = 0; offset = 0; entries = n }) after r
  entries_told_lem n k after m e (read es) h =
      let all : length es ≡ n = cc in
      let least : k ≡ min (length out / 3) n = omega arith in
      (rw all, (e ∙ rw (all, least), words_tell))
  entries_told_lem n k after m e (refused g j) h = (cc, (cc, words_tell))
