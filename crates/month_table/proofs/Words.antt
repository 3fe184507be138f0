-- The words of the labels, cut out of one text.
use mathlib.Core.Path.{◌≡◌, refl, ◌∙◌}
use mathlib.Core.Bool.{Bool, true, ◌&&◌}
use mathlib.Core.List.{List, [], ◌∷◌, ◌++◌, append-nil}
use Prim.Native.Nat.{ℕ, ◌+◌, ◌-◌, ◌/◌, ◌%◌, ◌≤◌, ◌<◌}
use native.Mathlib.Omega.{arith}
use lib.Dec.{leb, eqb}
use lib.ListN.{length, get_or, drop_of_length-le}
use lib.Seq.{slice}
use borrow.Author.Tests.{leb-true, eqb-true, lt-ltb, le-ltb}
use Rattle.words.proofs.Choice.{and_left, and_right}
use Rattle.month_table.specs.Table.{status_word, last_word, label}
use Rattle.month_table.specs.Reading.{begins}
use Rattle.month_table.specs.Inner.Terms.{word}
use Rattle.month_table.proofs.Begins.{begins_split}
use Rattle.month_table.proofs.Places.{each_below, below}

abbrev pub starts : List ℕ
starts = 0 ∷ 2 ∷ 4 ∷ 7 ∷ 10 ∷ 13 ∷ 16 ∷ 20 ∷ 24 ∷ 36 ∷ 42 ∷ 53 ∷ 68 ∷ 85 ∷ 101 ∷ 114 ∷ []

abbrev pub word_text : List ℕ
word_text = 48 ∷ 44 ∷ 49 ∷ 44 ∷ 45 ∷ 49 ∷ 44 ∷ 45 ∷ 51 ∷ 44 ∷ 45 ∷ 52 ∷ 44 ∷ 45 ∷ 57 ∷ 44 ∷ 45 ∷ 49 ∷ 48 ∷ 44 ∷ 97 ∷ 108 ∷ 108 ∷ 44 ∷ 111 ∷ 112 ∷ 101 ∷ 114 ∷ 97 ∷ 116 ∷ 105 ∷ 111 ∷ 110 ∷ 115 ∷ 44 ∷ 44 ∷ 117 ∷ 115 ∷ 101 ∷ 100 ∷ 44 ∷ 44 ∷ 97 ∷ 118 ∷ 97 ∷ 105 ∷ 108 ∷ 97 ∷ 98 ∷ 108 ∷ 101 ∷ 44 ∷ 44 ∷ 115 ∷ 101 ∷ 115 ∷ 115 ∷ 105 ∷ 111 ∷ 110 ∷ 115 ∷ 44 ∷ 97 ∷ 100 ∷ 100 ∷ 101 ∷ 100 ∷ 44 ∷ 115 ∷ 101 ∷ 115 ∷ 115 ∷ 105 ∷ 111 ∷ 110 ∷ 115 ∷ 44 ∷ 114 ∷ 101 ∷ 102 ∷ 117 ∷ 115 ∷ 101 ∷ 100 ∷ 44 ∷ 115 ∷ 101 ∷ 115 ∷ 115 ∷ 105 ∷ 111 ∷ 110 ∷ 115 ∷ 44 ∷ 117 ∷ 110 ∷ 114 ∷ 101 ∷ 97 ∷ 100 ∷ 44 ∷ 99 ∷ 97 ∷ 108 ∷ 108 ∷ 115 ∷ 44 ∷ 97 ∷ 103 ∷ 114 ∷ 101 ∷ 101 ∷ 100 ∷ 44 ∷ []

same : List ℕ → List ℕ → Bool
same s t = begins s t && eqb (length s) (length t)

same_lists : (s t : List ℕ) → same s t ≡ true → t ≡ s
unfolding same
same_lists s t e =
    let long = eqb-true (length s) (length t) (and_right (begins s t) (eqb (length s) (length t)) e) in
    begins_split s t (and_left (begins s t) (eqb (length s) (length t)) e)
    ∙ rw (drop_of_length-le t {i = length s} (omega arith)) (append-nil s)

pub word_bounds : (k : ℕ) → k < 15 → (get_or starts k 0 ≤ get_or starts (k + 1) 0) × (get_or starts (k + 1) 0 ≤ 114)
unfolding each_below
word_bounds k h = (
  leb-true (get_or starts k 0) (get_or starts (k + 1) 0) (below 15 (λ (k : ℕ). leb (get_or starts k 0) (get_or starts (k + 1) 0)) refl k h),
  leb-true (get_or starts (k + 1) 0) 114 (below 15 (λ (k : ℕ). leb (get_or starts (k + 1) 0) 114) refl k h),
)

pub word_cut : (k : ℕ) → k < 15 → slice (get_or starts k 0) (get_or starts (k + 1) 0) word_text ≡ word k
unfolding each_below same begins word status_word last_word
word_cut k h = same_lists (word k) (slice (get_or starts k 0) (get_or starts (k + 1) 0) word_text) (below 15 (λ (k : ℕ). same (word k) (slice (get_or starts k 0) (get_or starts (k + 1) 0) word_text)) refl k h)

-- ---- labels

pub label_token : (p : ℕ) → p < 32 → label p ≡ ((49 + p / 8) ∷ 44 ∷ []) ++ word (p % 8)
unfolding label word
label_token p h = rw (lt-ltb p 32 h, lt-ltb (p % 8) 8 (omega arith))

pub label_last : (p : ℕ) → 32 ≤ p → label p ≡ word (p - 24)
unfolding label word
label_last p h =
    let rest : p - 24 - 8 ≡ p - 32 = omega arith in
    rw (le-ltb p 32 h, le-ltb (p - 24) 8 (omega arith), rest)
