-- Laws of bytes moved a piece at a time.
use mathlib.Core.Path.{◌≡◌, refl, ap, ◌∙◌, sym}
use mathlib.Core.List.{List, [], ◌∷◌, ◌++◌}
use Prim.Native.Nat.{ℕ, suc, ◌+◌, ◌-◌, ◌≤◌}
use native.Mathlib.Omega.{arith}
use lib.ListN.{length, set, take, drop, length-drop}
use lib.Seq.{sets, sets-eq, length-sets, length-take-le, take_at, take-add, take-set-le, drop-drop, drop-set-lt, drop-set-add}
use Rattle.words.proofs.Stores.{sets_behind, sets_swap}
use Rattle.moving.specs.Inner.Moving.{moved}

-- bytes behind what was stored, and a part before it
drop_sets : (vs l : List ℕ) (i k : ℕ) → i + length vs ≤ k → drop k (sets l i vs) ≡ drop k l
drop_sets [] l i k h = refl
drop_sets (v ∷ vs) l i k h = drop_sets vs (set l i v) (suc i) k (omega arith) ∙ drop-set-lt k l i v (omega arith)

part_set : (l : List ℕ) (i k n v : ℕ) → k + n ≤ i → take n (drop k (set l i v)) ≡ take n (drop k l)
part_set l i k n v h =
    let e : i ≡ k + (i - k) = omega arith in
    ap (λ (j : ℕ). take n (drop k (set l j v))) e ∙ ap (take n) (drop-set-add k l (i - k) v) ∙ take-set-le n (drop k l) (i - k) v (omega arith)

part_sets : (vs l : List ℕ) (i k n : ℕ) → k + n ≤ i → take n (drop k (sets l i vs)) ≡ take n (drop k l)
part_sets [] l i k n h = refl
part_sets (v ∷ vs) l i k n h = part_sets vs (set l i v) (suc i) k n (omega arith) ∙ part_set l i k n v h

-- the length of a part, and two parts one behind the other
length_part : (l : List ℕ) (k n : ℕ) → k + n ≤ length l → length (take n (drop k l)) ≡ n
length_part l k n h = length-take-le n (drop k l) (omega (arith, length-drop k l))

parts : (l : List ℕ) (k n m : ℕ) → take n (drop k l) ++ take m (drop (k + n) l) ≡ take (n + m) (drop k l)
parts l k n m = sym (take-add n m (drop k l) ∙ ap (λ (r : List ℕ). take n (drop k l) ++ take m r) (drop-drop n k l))

-- ---- one piece, through a list that is long enough

pub piece_moved : (room bytes piece after : List ℕ) (to from size : ℕ) → piece ≡ sets room 0 (take size (drop from bytes)) → after ≡ sets bytes to (take size piece) → size ≤ length room → from + size ≤ length bytes
    → after ≡ moved bytes to from size
piece_moved room bytes piece after to from size e f r h =
    let vs = take size (drop from bytes) in
    let n : length vs ≡ size = length_part bytes from size h in
    f ∙ ap (sets bytes to) (ap (take size) (e ∙ sets-eq vs room 0 (omega arith)) ∙ take_at vs (drop (0 + length vs) room) size n)

-- ---- from the front on: the bytes before `done` are moved

pub record Front (entry : List ℕ) (to from size done : ℕ) (l : List ℕ) : Type 0 where
  pub within : done ≤ size
  pub long : length l ≡ length entry
  pub same : l ≡ moved entry to from done

module _ (entry : List ℕ) (to from size : ℕ) where
  pub front_start : Front entry to from size 0 entry
  front_start = record { within = omega arith; long = refl; same = refl }

  module _ (done : ℕ) (l : List ℕ) (t : Front entry to from size done l) where
    pub front_next : to ≤ from → from + size ≤ length entry → (n : ℕ) (after : List ℕ) → done + n ≤ size → after ≡ moved l (to + done) (from + done) n → Front entry to from size (done + n) after
    front_next o h n after w e =
        let us = take done (drop from entry) in
        let k : length us ≡ done = length_part entry from done (omega (arith, t.within)) in
        let read : drop (from + done) l ≡ drop (from + done) entry = ap (drop (from + done)) t.same ∙ drop_sets us entry to (from + done) (omega arith) in
        let vs = take n (drop (from + done) entry) in
        record {
          within = w;
          long = ap length e ∙ length-sets l (to + done) (take n (drop (from + done) l)) ∙ t.long;
          same = e ∙ ap (λ (r : List ℕ). sets l (to + done) (take n r)) read ∙ ap (λ (m : List ℕ). sets m (to + done) vs) t.same
              ∙ sets_behind entry to (to + done) us vs (omega arith) ∙ ap (sets entry to) (parts entry from done n);
        }

    pub front_end : size ≤ done → l ≡ moved entry to from size
    front_end h =
        let e : done ≡ size = omega (arith, t.within) in
        t.same ∙ ap (moved entry to from) e

-- ---- from the back on: the bytes from `left` on are moved

pub record Back (entry : List ℕ) (to from size left : ℕ) (l : List ℕ) : Type 0 where
  pub within : left ≤ size
  pub long : length l ≡ length entry
  pub same : l ≡ moved entry (to + left) (from + left) (size - left)

module _ (entry : List ℕ) (to from size : ℕ) where
  pub back_start : Back entry to from size size entry
  back_start =
      let z : 0 ≡ size - size = omega arith in
      record { within = omega arith; long = refl; same = ap (moved entry (to + size) (from + size)) z }

  module _ (left : ℕ) (l : List ℕ) (t : Back entry to from size left l) where
    pub back_next : from ≤ to → from + size ≤ length entry → (n rest : ℕ) (after : List ℕ) → rest + n ≡ left → after ≡ moved l (to + rest) (from + rest) n → Back entry to from size rest after
    back_next o h n rest after w e =
        let us = take n (drop (from + rest) entry) in
        let vs = take (size - left) (drop (from + left) entry) in
        let k : length us ≡ n = length_part entry (from + rest) n (omega (arith, t.within)) in
        let read : take n (drop (from + rest) l) ≡ us = ap (λ (m : List ℕ). take n (drop (from + rest) m)) t.same ∙ part_sets vs entry (to + left) (from + rest) n (omega arith) in
        let f : from + left ≡ from + rest + n = omega arith in
        let s : n + (size - left) ≡ size - rest = omega (arith, t.within) in
        record {
          within = omega (arith, t.within);
          long = ap length e ∙ length-sets l (to + rest) (take n (drop (from + rest) l)) ∙ t.long;
          same = e ∙ ap (sets l (to + rest)) read ∙ ap (λ (m : List ℕ). sets m (to + rest) us) t.same
              ∙ sets_swap us vs entry (to + rest) (to + left) (omega arith) ∙ sets_behind entry (to + rest) (to + left) us vs (omega arith)
              ∙ ap (λ (k : ℕ). sets entry (to + rest) (us ++ take (size - left) (drop k entry))) f
              ∙ ap (sets entry (to + rest)) (parts entry (from + rest) n (size - left) ∙ ap (λ (k : ℕ). take k (drop (from + rest) entry)) s);
        }

    pub back_end : left ≤ 0 → l ≡ moved entry to from size
    back_end h =
        let z : left ≡ 0 = omega arith in
        let a : to + left ≡ to = omega arith in
        let b : from + left ≡ from = omega arith in
        let d : size - left ≡ size = omega arith in
        t.same ∙ ap (λ (i : ℕ). moved entry i (from + left) (size - left)) a ∙ ap (λ (i : ℕ). moved entry to i (size - left)) b ∙ ap (moved entry to from) d
