-- Numbers in bytes, bytes that are zero or that a NUL ends, and readings one after the other: byte by byte and in numerals.
use Rattle.std.specs.Prelude.{ℕ, ◌+◌, ◌*◌, ◌/◌, ◌^◌, ◌<◌, ◌≤◌, ◌≡◌, Bool, true, ◌&&◌, List, [], ◌∷◌, ◌++◌, ◌⊎◌, length, get_or}
use Rattle.words.specs.Numbers.{Bytes, be, be16, be32, be64, le, be_bytes, word_bytes, words, zeros}
use Rattle.words.specs.Nul.{until_nul}
use Rattle.words.specs.Reading.{Reading, read, refused, Refuses, joined, readings}
use Rattle.words.specs.Claims.Cases.{every}
use Rattle.words.specs.Claims.Exactly.{Exactly, Outside, NonZero, Named}

pub record NumbersExactly : Type 0 where
  -- 01: "All RTAS words are big-endian and 32 bits, unless a width is given."
  pub big_two : (s : List ℕ) (at : ℕ) → be 2 s at ≡ 256 * get_or s at 0 + get_or s (at + 1) 0
  pub big_four : (s : List ℕ) (at : ℕ) → be 4 s at ≡ 0x1_0000 * be 2 s at + be 2 s (at + 2)
  pub big_eight : (s : List ℕ) (at : ℕ) → be 8 s at ≡ 0x1_0000_0000 * be 4 s at + be 4 s (at + 4)
  pub word : (s : List ℕ) (i : ℕ) → 4 * i + 4 ≤ length s → get_or (words s) i 0 ≡ be 4 s (4 * i)
  pub word_count : (s : List ℕ) → length (words s) ≡ length s / 4
  pub as_bytes : (word_bytes [] ≡ []) × ((w : ℕ) (ws : List ℕ) → word_bytes (w ∷ ws) ≡ be_bytes 4 w ++ word_bytes ws)
  -- a number is written as it is read
  pub written : (w v : ℕ) → v < 256 ^ w → be w (be_bytes w v) 0 ≡ v
  pub width : (w v : ℕ) → length (be_bytes w v) ≡ w
  pub by_width : (s : List ℕ) (at : ℕ) → (be16 s at ≡ be 2 s at) × ((be32 s at ≡ be 4 s at) × (be64 s at ≡ be 8 s at))
  -- 01: "Journal and inventory numbers are little-endian."
  pub little_two : (s : List ℕ) (at : ℕ) → le 2 s at ≡ get_or s at 0 + 256 * get_or s (at + 1) 0
  pub little_four : (s : List ℕ) (at : ℕ) → le 4 s at ≡ le 2 s at + 0x1_0000 * le 2 s (at + 2)
  pub little_eight : (s : List ℕ) (at : ℕ) → le 8 s at ≡ le 4 s at + 0x1_0000_0000 * le 4 s (at + 4)
  pub bytes : (s : List ℕ) → ((i : ℕ) → get_or s i 0 < 256) → Bytes s

-- 01: "a search that stops at the first NUL"
pub record NulExactly : Type 0 where
  pub stops : (s rest : List ℕ) → NonZero s → until_nul (s ++ (0 ∷ rest)) ≡ s
  pub no_nul : (s : List ℕ) → NonZero s → until_nul s ≡ s
  pub named : (limit : ℕ) (s name rest : List ℕ) → Exactly (Named limit s name rest) ((1 ≤ length name) × (length name ≤ limit) × NonZero name
      × (s ≡ name ++ (0 ∷ rest)))
  pub non_zero : (s : List ℕ) → Exactly (NonZero s) ((i : ℕ) → i < length s → get_or s i 0 ≡ 0 → ⊥)

-- What claims are stated with: exactly when, in both directions, and a place outside of some bytes.
pub record StatedExactly : Type 0 where
  pub exactly : (a b c d : ℕ) → Exactly (a ≡ b) (c ≡ d) → (a ≡ b → c ≡ d) × (c ≡ d → a ≡ b)
  pub outside : (from n k : ℕ) → (k < from) ⊎ (from + n ≤ k) → Outside from n k
  -- tables of cases
  pub every_one : (every [] ≡ true) × ((t : Bool) (ts : List Bool) → every (t ∷ ts) ≡ (t && every ts))

-- 01: "bytes 4 to 15 of the area zero": each of them
abbrev pub ZerosExactly : Type 0
ZerosExactly = (s : List ℕ) → Exactly (zeros s ≡ true) ((i : ℕ) → i < length s → get_or s i 0 ≡ 0)

-- 01: "A reading gives the entries, or a refusal number with a byte offset": one after the other
pub record JoinedExactly (E R : Type 0) : Type 0 where
  pub both : (xs ys : List E) → joined {E = E} {R = R} (read xs) (read ys) ≡ read (xs ++ ys)
  pub second : (xs : List E) (r : R) (at : ℕ) → joined {E = E} {R = R} (read xs) (refused r at) ≡ refused r at
  pub first : (r : R) (at : ℕ) (y : Reading E R) → joined {E = E} {R = R} (refused r at) y ≡ refused r at
  pub refuses : (number : R → ℕ) (x : Reading E R) (n at : ℕ) → Exactly (Refuses number x n at) ((r : R) × ((number r ≡ n) × (x ≡ refused r at)))
  pub none : (reading : List ℕ → Reading E R) → readings reading [] ≡ read []
  pub each : (reading : List ℕ → Reading E R) (area : List ℕ) (areas : List (List ℕ))
      → readings reading (area ∷ areas) ≡ joined (reading area) (readings reading areas)
