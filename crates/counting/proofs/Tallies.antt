-- What an area hands out is small: an area that is read has its terminator among the 1,020 words behind its head, and an operation takes a word or more.
use mathlib.Core.Path.{◌≡◌, refl, sym, ap}
use mathlib.Core.Bool.{Bool, true, false, cond, not, ◌&&◌, false≢true}
use mathlib.Core.List.{List, [], ◌∷◌}
use Prim.Native.Nat.{ℕ, zero, suc, ◌+◌, ◌%◌, ◌≤◌}
use native.Mathlib.Numerals.{sub-one}
use native.Mathlib.Omega.{arith}
use lib.Dec.{eqb, leb}
use lib.ListN.{length, drop, length-drop}
use borrow.Author.Tests.{eqb-true, eqb-false, ne_eqb, not-false}
use Rattle.words.specs.Numbers.{words}
use Rattle.words.specs.Reading.{Reading, read, refused}
use Rattle.words.proofs.Words.{length_words}
use Rattle.words.proofs.Choice.{choose, decide}
use Rattle.journal.specs.declared.operation.Operation.{Operation}
use Rattle.node_area.specs.declared.reading.Refusal.{Refusal}
use Rattle.node_area.specs.declared.reading.Refusal.TheVariants as refusal
use Rattle.node_area.specs.Head.{reserved_from, is_reserved}
use Rattle.node_area.specs.Reading.{opcode_in, count_in, last_after, Verdict, good, bad, verdict, operations_at, read_by, reading}
use Rattle.node_area.specs.Claims.Cursor.{remaining}
use Rattle.node_area.proofs.Verdicts.{operator, operations_more, entries_in_order}
use Rattle.node_area.proofs.Walks.{good_words, good_fine}
use Rattle.calls.specs.Buffer.{is_nodes}
use Rattle.counting.specs.Area.{words_used, no_tally, tally_by, tally_of}
use Rattle.counting.specs.Counts.{handed_out}
use Rattle.counting.specs.Inner.Terms.{Small}
use Rattle.counting.proofs.UsedWords.{used_more}

-- ---- good words

-- behind an operator of good words
good_next : (w at last : ℕ) (ws : List ℕ) → (w ≡ 0 → ⊥) → verdict 0 at last (w ∷ ws) ≡ good → verdict (count_in w) (at + 4) (last_after last w) ws ≡ good
unfolding verdict
good_next w at last ws h e = rw (ne_eqb w 0 h, good_fine w at last ws h e) at e

not_bad : (r : Refusal) (k : ℕ) → bad r k ≡ good → ⊥
not_bad r k e = false≢true cc

-- they have their terminator
used_below : (k at last : ℕ) (ws : List ℕ) → verdict k at last ws ≡ good → words_used k ws + 1 ≤ length ws
unfolding verdict words_used
used_below zero at last [] e = absurd (not_bad refusal.Unterminated 4096 e)
used_below (suc k) at last [] e = absurd (not_bad refusal.Unterminated 4096 e)
used_below (suc k) at last (w ∷ ws) e = omega (arith, used_below k (at + 4) last ws e)
used_below zero at last (w ∷ ws) e = decide (eqb w 0)
    (λ t. rw t (omega arith))
    (λ t. let h = eqb-false w 0 t in omega (arith, used_more w ws h, used_below (count_in w) (at + 4) (last_after last w) ws (good_next w at last ws h e)))

-- each operation takes an operand word of its own in front of the terminator
operations_few : (ws : List ℕ) (code n at last : ℕ) → (code ≡ 3 → n % 2 ≡ 0) → verdict n at last ws ≡ good → length (operations_at ws code n) ≤ words_used n ws
unfolding verdict words_used operations_at
operations_few [] code n at last even e = omega arith
operations_few (w ∷ ws) code zero at last even e = decide (eqb w 0)
    (λ t. rw t (omega arith))
    (λ t.
    let h = eqb-false w 0 t in
    let o = operator w last (length ws) (good_fine w at last ws h e) in
    omega (arith, used_more w ws h, ap length (operations_more code w ws h), operations_few ws (opcode_in w) (count_in w) (at + 4) (last_after last w) o.even (good_next w at last ws h e)))
operations_few (w ∷ []) code (suc n) at last even e = choose (eqb code 3) (λ (os : List Operation). length os ≤ suc (words_used n [])) (λ _. omega arith) (λ _. omega arith)
operations_few (w ∷ v ∷ ws) code (suc zero) at last even e =
    choose (eqb code 3) (λ (os : List Operation). length os ≤ suc (words_used zero (v ∷ ws)))
    (λ t. absurd (omega (arith, even (eqb-true code 3 t))))
    (λ t. omega (arith, operations_few (v ∷ ws) code zero (at + 4) last (λ _. refl) e))
operations_few (w ∷ v ∷ ws) code (suc (suc n)) at last even e =
    choose (eqb code 3) (λ (os : List Operation). length os ≤ suc (suc (words_used n ws)))
    (λ t. rw (sub-one (suc n)) (omega (arith, operations_few ws code n (at + 4 + 4) last (λ h. omega (arith, even h)) e)))
    (λ t. omega (arith, operations_few (v ∷ ws) code (suc n) (at + 4) last (λ h. absurd (eqb-false code 3 t h)) e))

-- ---- an area that is read

size_by : (a b : Bool) (k : ℕ) (v : Verdict) (os ps : List Operation) → cond a (refused refusal.Size 0) (cond b (refused refusal.Reserved k) (read_by v os)) ≡ read ps → a ≡ false
size_by true b k v os ps e = cc
size_by false b k v os ps e = refl

module _ (scope : ℕ) (area : List ℕ) (os : List Operation) (is : reading scope area ≡ read os) where
  abbrev ws : List ℕ
  ws = words (drop 16 area)

  area_size_lem : length area ≡ 4096
  unfolding reading
  area_size_lem = eqb-true (length area) 4096 (not-false _ (size_by (not (eqb (length area) 4096)) (not (is_reserved scope area)) (reserved_from scope) (verdict 0 16 0 (drop 4 (words area))) _ os is))

  pub words_few : words_used 0 ws ≤ 1019
  words_few = omega (arith, used_below 0 16 0 ws (good_words scope area os is), length_words 1020 (drop 16 area) (omega (arith, area_size_lem, length-drop 16 area)))

  entries_few : length os ≤ words_used 0 ws
  unfolding remaining
  entries_few = rw (sym (entries_in_order scope area os is)) (operations_few ws 0 0 16 0 (λ _. refl) (good_words scope area os is))

-- ---- what is handed out

none_small : Small no_tally
none_small = record { operations = omega arith; words = omega arith }

tally_small : (scope : ℕ) (area : List ℕ) → Small (tally_of scope area)
unfolding tally_of
tally_small scope area = by (reading scope area) refl
  where
    by : (x : Reading Operation Refusal) → reading scope area ≡ x → Small (tally_by x area)
    by (read os) e = record { operations = entries_few scope area os e; words = words_few scope area os e }
    by (refused r at) e = none_small

pub handed_small : (status : ℕ) (args memory : List ℕ) → Small (handed_out status args memory)
unfolding handed_out
handed_small status args memory = choose (is_nodes args && leb status 1) Small (λ _. tally_small _ _) (λ _. none_small)

-- a part that is not 4,096 bytes long is refused
pub tally_short : (scope : ℕ) (area : List ℕ) → (length area ≡ 4096 → ⊥) → no_tally ≡ tally_of scope area
unfolding tally_of reading
tally_short scope area h = rw (ne_eqb (length area) 4096 h)
