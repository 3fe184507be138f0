-- Laws of stored bytes: what is read where they stand, and beside them.
use mathlib.Core.Path.{◌≡◌, refl, ap, ◌∙◌, sym}
use mathlib.Core.List.{List, [], ◌∷◌, ◌++◌, append_assoc, append-nil}
use Prim.Native.Nat.{ℕ, suc, ◌+◌, ◌*◌, ◌/◌, ◌%◌, ◌^◌, ◌<◌, ◌≤◌}
use native.Mathlib.Nat.{add-zero, add-suc, suc-add, div-one}
use native.Mathlib.Numerals.{add-one, towards_suc}
use native.Mathlib.Omega.{arith}
use lib.ListN.{length, get_or, set, take, drop, length-set, drop_of_length-le}
use lib.Seq.{drop-cons, sets, sets-eq, set_comm, set-set, get_or-set_other, get_or-append-add, length-take-le}
use Rattle.words.specs.Numbers.{be, be_bytes, word_bytes}
use Rattle.words.proofs.Numbers.{be_same, be_bytes_lem, length_be_bytes}

-- a byte outside of what was stored
pub sets_before : (vs l : List ℕ) (i k : ℕ) → k < i → get_or (sets l i vs) k 0 ≡ get_or l k 0
sets_before [] l i k h = refl
sets_before (v ∷ vs) l i k h = sets_before vs (set l i v) (suc i) k (omega arith) ∙ get_or-set_other l i k v 0 (λ e. omega arith)

pub sets_after : (vs l : List ℕ) (i k : ℕ) → i + length vs ≤ k → get_or (sets l i vs) k 0 ≡ get_or l k 0
sets_after [] l i k h = refl
sets_after (v ∷ vs) l i k h = sets_after vs (set l i v) (suc i) k (omega arith) ∙ get_or-set_other l i k v 0 (λ e. omega arith)

-- stores one behind the other are one store
pub sets_append : (l : List ℕ) (i : ℕ) (us vs : List ℕ) → sets l i (us ++ vs) ≡ sets (sets l i us) (i + length us) vs
sets_append l i [] vs = rw add-zero
sets_append l i (u ∷ us) vs = sets_append (set l i u) (suc i) us vs ∙ ap (λ (k : ℕ). sets (sets (set l i u) (suc i) us) k vs) (suc-add i (length us) ∙ sym (add-suc i (length us)))

pub sets_behind : (l : List ℕ) (i k : ℕ) (us vs : List ℕ) → k ≡ i + length us → sets (sets l i us) k vs ≡ sets l i (us ++ vs)
sets_behind l i k us vs h = rw (h, sets_append)

-- a store before another can be made after it
set_sets : (vs l : List ℕ) (i k v : ℕ) → i < k → set (sets l k vs) i v ≡ sets (set l i v) k vs
set_sets [] l i k v h = refl
set_sets (u ∷ vs) l i k v h = set_sets vs (set l k u) i (suc k) v (omega arith) ∙ ap (λ (m : List ℕ). sets m (suc k) vs) (set_comm l k i u v (λ e. omega arith))

pub sets_swap : (us vs l : List ℕ) (i k : ℕ) → i + length us ≤ k → sets (sets l k vs) i us ≡ sets (sets l i us) k vs
sets_swap [] vs l i k h = refl
sets_swap (u ∷ us) vs l i k h = ap (λ (m : List ℕ). sets m (suc i) us) (set_sets vs l i k u (omega arith)) ∙ sets_swap us vs (set l i u) (suc i) k (omega arith)

-- a store in the place of another that is no longer
pub sets_over : (us vs l : List ℕ) (i : ℕ) → length us ≤ length vs → sets (sets l i us) i vs ≡ sets l i vs
sets_over [] vs l i h = refl
sets_over (u ∷ us) [] l i h = absurd (omega arith)
sets_over (u ∷ us) (v ∷ vs) l i h =
    ap (λ (m : List ℕ). sets m (suc i) vs) (set_sets us (set l i u) i (suc i) v (omega arith) ∙ ap (λ (m : List ℕ). sets m (suc i) us) (set-set l i u v))
    ∙ sets_over us vs (set l i v) (suc i) (omega arith)

-- Values are stored one after the other: the list keeps its length, and storing the values from number i on gives the whole store.
pub record Storing (start : List ℕ) (at : ℕ) (vs : List ℕ) (i : ℕ) (l : List ℕ) : Type 0 where
  pub same : length l ≡ length start
  pub rest : sets l (at + i) (drop i vs) ≡ sets start at vs

pub storing_start : (start : List ℕ) (at : ℕ) (vs : List ℕ) → Storing start at vs 0 start
storing_start start at vs = record { same = refl; rest = rw add-zero }

module _ {start vs l : List ℕ} {at i : ℕ} (t : Storing start at vs i l) where
  pub storing_next : (v : ℕ) → i < length vs → v ≡ get_or vs i 0 → Storing start at vs (i + 1) (set l (at + i) v)
  storing_next v h e = record { same = length-set l (at + i) v ∙ t.same; rest = rw (e, add-one, add-suc) (rw (drop-cons vs i 0 h) at t.rest) }

  pub storing_end : length vs ≤ i → l ≡ sets start at vs
  storing_end h = rw (drop_of_length-le vs h) at t.rest

-- ---- words

pub length_word_bytes : (ws : List ℕ) → length (word_bytes ws) ≡ 4 * length ws
unfolding word_bytes be_bytes
length_word_bytes [] = refl
length_word_bytes (w ∷ ws) = omega (arith, length_word_bytes ws)

pub word_bytes_append : (ws vs : List ℕ) → word_bytes (ws ++ vs) ≡ word_bytes ws ++ word_bytes vs
unfolding word_bytes
word_bytes_append [] vs = refl
word_bytes_append (w ∷ ws) vs = rw (word_bytes_append ws vs) (sym (append_assoc (be_bytes 4 w) (word_bytes ws) (word_bytes vs)))

pub word_bytes_one : (w : ℕ) → word_bytes (w ∷ []) ≡ be_bytes 4 w
unfolding word_bytes
word_bytes_one w = append-nil (be_bytes 4 w)

-- words stored behind words are one store
pub words_behind : (l : List ℕ) (i k : ℕ) (ws vs : List ℕ) → k ≡ i + 4 * length ws → sets (sets l i (word_bytes ws)) k (word_bytes vs) ≡ sets l i (word_bytes (ws ++ vs))
words_behind l i k ws vs h = sets_behind l i k (word_bytes ws) (word_bytes vs) (rw length_word_bytes h) ∙ rw word_bytes_append

-- a word stored alone, and a word stored behind others
module _ (l m : List ℕ) (i v : ℕ) where
  pub store_first : m ≡ sets l i (be_bytes 4 v) → m ≡ sets l i (word_bytes (v ∷ []))
  store_first e = e ∙ ap (sets l i) (sym (word_bytes_one v))

  pub store_next : (r : List ℕ) (k : ℕ) (ws : List ℕ) → m ≡ sets l i (word_bytes ws) → r ≡ sets m k (be_bytes 4 v) → k ≡ i + 4 * length ws → r ≡ sets l i (word_bytes (ws ++ (v ∷ [])))
  store_next r k ws e f h = f ∙ rw (e, ← word_bytes_one v) (words_behind l i k ws (v ∷ []) h)

-- ---- numbers

-- the code's two stores, and its four
pub stored_two : (l : List ℕ) (i v : ℕ) → set (set l i (v / 256 % 256)) (i + 1) (v % 256) ≡ sets l i (be_bytes 2 v)
unfolding be_bytes
stored_two l i v = simp (towards_suc, div-one)

pub stored_four : (l : List ℕ) (i v : ℕ) → set (set (set (set l i (v / 0x0100_0000 % 256)) (i + 1) (v / 0x1_0000 % 256)) (i + 2) (v / 256 % 256)) (i + 3) (v % 256) ≡ sets l i (be_bytes 4 v)
unfolding be_bytes
stored_four l i v = simp (towards_suc, div-one)

-- eight bytes are those of the two halves
halves : (v : ℕ) → be_bytes 8 v ≡ be_bytes 4 (v / 0x1_0000_0000) ++ be_bytes 4 (v % 0x1_0000_0000)
unfolding be_bytes
halves v =
    let a : v / 0x1_0000_0000 / 0x0100_0000 % 256 ≡ v / 0x100_0000_0000_0000 % 256 = omega arith in
    let b : v / 0x1_0000_0000 / 0x1_0000 % 256 ≡ v / 0x1_0000_0000_0000 % 256 = omega arith in
    let c : v / 0x1_0000_0000 / 256 % 256 ≡ v / 0x100_0000_0000 % 256 = omega arith in
    let d : v % 0x1_0000_0000 / 0x0100_0000 % 256 ≡ v / 0x0100_0000 % 256 = omega arith in
    let e : v % 0x1_0000_0000 / 0x1_0000 % 256 ≡ v / 0x1_0000 % 256 = omega arith in
    let f : v % 0x1_0000_0000 / 256 % 256 ≡ v / 256 % 256 = omega arith in
    let g : v % 0x1_0000_0000 % 256 ≡ v % 256 = omega arith in
    simp (a, b, c, d, e, f, g, div-one)

pub stored_halves : (l m n : List ℕ) (i v : ℕ) → m ≡ sets l i (be_bytes 4 (v / 0x1_0000_0000)) → n ≡ sets m (i + 4) (be_bytes 4 (v % 0x1_0000_0000)) → n ≡ sets l i (be_bytes 8 v)
stored_halves l m n i v e f = f ∙ rw e (sets_behind l i (i + 4) (be_bytes 4 (v / 0x1_0000_0000)) (be_bytes 4 (v % 0x1_0000_0000)) (rw length_be_bytes) ∙ ap (sets l i) (sym (halves v)))

module _ (l : List ℕ) (w v at : ℕ) where
  -- a number that was stored reads back, up to its width
  pub be_stored : at + w ≤ length l → be w (sets l at (be_bytes w v)) at ≡ v % 256 ^ w
  be_stored h =
      let n = length_be_bytes w v in
      let p = take at l in
      let q = be_bytes w v ++ drop (at + length (be_bytes w v)) l in
      let whole : sets l at (be_bytes w v) ≡ p ++ q = sets-eq (be_bytes w v) l at (omega arith) ∙ append_assoc p (be_bytes w v) _ in
      let front : length p ≡ at = length-take-le at l (omega arith) in
      ap (λ (s : List ℕ). be w s at) whole
      ∙ be_same (p ++ q) q w at 0 (λ i h. ap (λ (k : ℕ). get_or (p ++ q) k 0) (ap (λ (k : ℕ). k + i) (sym front)) ∙ get_or-append-add p q i 0 ∙ ap (λ (k : ℕ). get_or q k 0) (omega arith))
      ∙ be_bytes_lem w v _
