-- Laws of the words of a list of bytes.
use mathlib.Core.Path.{◌≡◌, refl, ap, ◌∙◌}
use mathlib.Core.List.{List, [], ◌∷◌, ◌++◌}
use Prim.Native.Nat.{ℕ, zero, suc, ◌+◌, ◌*◌, ◌-◌, ◌<◌, ◌≤◌}
use native.Mathlib.Nat.{add-zero, mod-eq_of_lt}
use native.Mathlib.Omega.{arith}
use lib.Dec.{leb}
use lib.ListN.{length, drop, length-drop}
use lib.Seq.{drop-drop}
use Rattle.words.specs.Numbers.{Small, be, be_bytes, word_bytes, words}
use borrow.Author.Tests.{leb-true, leb-false}
use Rattle.words.proofs.Choice.{decide}
use Rattle.words.proofs.Numbers.{be_drop, be_bytes_lem}

-- the first word of a list
front : (l : List ℕ) → 4 ≤ length l → words l ≡ be 4 l 0 ∷ words (drop 4 l)
unfolding words be
front [] h = absurd (omega arith)
front (a ∷ []) h = absurd (omega arith)
front (a ∷ b ∷ []) h = absurd (omega arith)
front (a ∷ b ∷ c ∷ []) h = absurd (omega arith)
front (a ∷ b ∷ c ∷ d ∷ l) h = refl

short : (l : List ℕ) → length l < 4 → words l ≡ []
unfolding words
short [] h = refl
short (a ∷ []) h = refl
short (a ∷ b ∷ []) h = refl
short (a ∷ b ∷ c ∷ []) h = refl
short (a ∷ b ∷ c ∷ d ∷ l) h = absurd (omega arith)

-- the words from a place on
pub words_step : (a : List ℕ) (at : ℕ) → at + 4 ≤ length a → words (drop at a) ≡ be 4 a at ∷ words (drop (at + 4) a)
words_step a at h = front (drop at a) (omega (arith, length-drop at a)) ∙ rw (be_drop 4 at a 0, add-zero at, drop-drop 4 at a)

pub words_short : (a : List ℕ) (at : ℕ) → length a - at < 4 → words (drop at a) ≡ []
words_short a at h = short (drop at a) (omega (arith, length-drop at a))

pub words_drop : (n : ℕ) (l : List ℕ) → drop n (words l) ≡ words (drop (4 * n) l)
words_drop zero l = refl
words_drop (suc n) l = decide (leb 4 (length l))
    (λ t. let four : 4 + 4 * n ≡ 4 * suc n = omega arith in rw (front l (leb-true 4 (length l) t), words_drop n (drop 4 l), drop-drop (4 * n) 4 l, four))
    (λ t. let h = leb-false 4 (length l) t in rw (short l h, short (drop (4 * suc n) l) (omega (arith, length-drop (4 * suc n) l))))

pub length_words : (n : ℕ) (l : List ℕ) → length l ≡ 4 * n → length (words l) ≡ n
length_words zero l h = ap length (short l (omega arith))
length_words (suc n) l h = ap length (front l (omega arith)) ∙ ap suc (length_words n (drop 4 l) (omega (arith, length-drop 4 l)))

pub words_bytes : (ws r : List ℕ) → Small ws → words (word_bytes ws ++ r) ≡ ws ++ words r
unfolding words word_bytes be_bytes
words_bytes [] r h = refl
words_bytes (w ∷ ws) r h = rw (be_bytes_lem 4 w [], mod-eq_of_lt h.0, words_bytes ws r h.1)
