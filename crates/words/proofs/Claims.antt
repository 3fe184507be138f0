-- The claims about numbers in bytes, zero bytes, the first NUL and readings one after the other hold.
use mathlib.Core.Path.{◌≡◌, refl, sym, ap, ◌∙◌}
use mathlib.Core.List.{List, [], ◌∷◌, append-nil}
use Prim.Native.Nat.{ℕ, ◌+◌, ◌*◌, ◌/◌, ◌^◌, ◌<◌, ◌≤◌}
use native.Mathlib.Nat.{add-zero, mod-eq_of_lt}
use native.Mathlib.Numerals.{towards_suc}
use native.Mathlib.Omega.{arith}
use lib.ListN.{length, get_or}
use lib.Seq.{get_or-drop}
use Rattle.words.specs.Numbers.{be, le, be_bytes, word_bytes, words}
use Rattle.words.specs.Claims.Words.{NumbersExactly, NulExactly, StatedExactly, ZerosExactly, JoinedExactly}
use Rattle.words.proofs.Numbers.{be_split, le_split, be_bytes_lem, length_be_bytes}
use Rattle.words.proofs.Words.{words_drop, words_step}
use Rattle.words.specs.Reading.{joined, readings}
use Rattle.words.proofs.Zeros.{zeros_byte, zeros_all}
use Rattle.words.proofs.Named.{until_all, until_stops}

-- two bytes
big_two : (s : List ℕ) (at : ℕ) → be 2 s at ≡ 256 * get_or s at 0 + get_or s (at + 1) 0
unfolding be
big_two s at = simp towards_suc (omega arith)

little_two : (s : List ℕ) (at : ℕ) → le 2 s at ≡ get_or s at 0 + 256 * get_or s (at + 1) 0
unfolding le
little_two s at = simp towards_suc (omega arith)

-- words
word : (s : List ℕ) (i : ℕ) → 4 * i + 4 ≤ length s → get_or (words s) i 0 ≡ be 4 s (4 * i)
word s i h =
    ap (λ (k : ℕ). get_or (words s) k 0) (sym (add-zero i))
    ∙ sym (get_or-drop i (words s) 0 0)
    ∙ ap (λ (l : List ℕ). get_or l 0 0) (words_drop i s ∙ words_step s (4 * i) h)

word_count : (s : List ℕ) → length (words s) ≡ length s / 4
unfolding words
word_count [] = omega arith
word_count (a ∷ []) = omega arith
word_count (a ∷ b ∷ []) = omega arith
word_count (a ∷ b ∷ c ∷ []) = omega arith
word_count (a ∷ b ∷ c ∷ d ∷ l) = omega (arith, word_count l)

-- a number, written and read
written : (w v : ℕ) → v < 256 ^ w → be w (be_bytes w v) 0 ≡ v
written w v h = ap (λ (l : List ℕ). be w l 0) (sym (append-nil (be_bytes w v))) ∙ be_bytes_lem w v [] ∙ mod-eq_of_lt h

pub numbers_exactly : NumbersExactly
unfolding word_bytes
numbers_exactly = record {
  big_two = big_two;
  big_four = λ s at. be_split 2 2 s at ∙ omega arith;
  big_eight = λ s at. be_split 4 4 s at ∙ omega arith;
  word = word;
  word_count = word_count;
  as_bytes = (refl, λ w ws. refl);
  written = written;
  width = length_be_bytes;
  by_width = λ s at. (refl, (refl, refl));
  little_two = little_two;
  little_four = le_split 2 2;
  little_eight = le_split 4 4;
  bytes = λ s h. h;
}

pub nul_exactly : NulExactly
nul_exactly = record { stops = until_stops; no_nul = until_all; named = λ limit s name rest. ((λ h. (h.some, h.few, h.non_zero, h.ended)), (λ h. record { some = h.0; few = h.1; non_zero = h.2; ended = h.3 })); non_zero = λ s. ((λ h. h), (λ h. h)) }

pub stated_exactly : StatedExactly
stated_exactly = record { exactly = λ a b c d h. h; outside = λ from n k h. h; every_one = (refl, λ t ts. refl) }

pub zeros_exactly : ZerosExactly
zeros_exactly s = (λ e i h. zeros_byte s i e, zeros_all s)

pub joined_exactly : {E R : Type 0} → JoinedExactly E R
unfolding joined readings
joined_exactly = record { both = λ xs ys. refl; second = λ xs r at. refl; first = λ r at y. refl; refuses = λ number x n at. ((λ h. h), (λ h. h)); none = λ f. refl; each = λ f area areas. refl }
