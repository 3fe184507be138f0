-- Laws of a part of memory: its place, what memory is when it comes back, and the length of a node area that was written.
use mathlib.Core.Path.{ap₂, ◌≡◌, ap, ◌∙◌, sym}
use mathlib.Core.List.{List, ◌++◌, append_assoc}
use Prim.Native.Nat.{ℕ, ◌+◌, ◌-◌, ◌<◌, ◌≤◌}
use native.Mathlib.Omega.{arith}
use lib.ListN.{length, take, drop, get_or, length-append, length-take, length-drop, take-append-drop, get_or-append}
use lib.Seq.{drop-drop, take-take, take_all, take_at, drop_at, length-take-le, length-paste, get_or-take, get_or-drop, get_or-append-add}
use Rattle.words.proofs.Stores.{length_word_bytes}
use Rattle.words.specs.Numbers.{Bytes}
use Rattle.records.proofs.Steps.{bytes_take}
use Rattle.journal.specs.declared.operation.Operation.{Operation}
use Rattle.journal.specs.declared.scope.Units.{Units}
use Rattle.nodes.specs.Area.{answer, written}
use Rattle.nodes.proofs.Runs.{length_body, run_facts}
use Rattle.calls.specs.Lent.{part_at, with_part}

module _ (m : List ℕ) (a n : ℕ) (inside : a + n ≤ length m) where
  pub part_length : length (part_at m a n) ≡ n
  unfolding part_at
  part_length = simp (length-take, length-drop) (omega arith)

  -- the part that `&mut memory[a..a + n]` lends
  pub part_lent : take (a + n - a) (drop a m) ≡ part_at m a n
  unfolding part_at
  part_lent = let e : a + n - a ≡ n = omega arith in ap (λ (k : ℕ). take k (drop a m)) e

  pub part_bytes : Bytes m → Bytes (part_at m a n)
  unfolding part_at
  part_bytes h = bytes_take n (drop a m) (λ i. rw (get_or-drop a m i 0) (h (a + i)))

  module _ (v : List ℕ) (size : length v ≡ n) where
    stored : with_part m a n v ≡ take a m ++ (v ++ drop (a + n) m)
    unfolding with_part
    stored = append_assoc (take a m) (take n v) (drop (a + n) m) ∙ ap (λ (l : List ℕ). take a m ++ (l ++ drop (a + n) m)) (take_all n v (omega arith))

    -- the memory when the part is back as v
    pub part_back : take a m ++ (v ++ drop (a + n - a) (drop a m)) ≡ with_part m a n v
    part_back =
        let e : a + (a + n - a) ≡ a + n = omega arith in
        ap (λ (d : List ℕ). take a m ++ (v ++ d)) (drop-drop (a + n - a) a m ∙ ap (λ (k : ℕ). drop k m) e) ∙ sym stored

    -- a part that was stored reads back
    pub part_stored : part_at (with_part m a n v) a n ≡ v
    unfolding part_at
    part_stored =
        ap (λ (l : List ℕ). take n (drop a l)) stored
        ∙ ap (take n) (drop_at (take a m) (v ++ drop (a + n) m) a (length-take-le a m (omega arith)))
        ∙ take_at v (drop (a + n) m) n size

    -- memory keeps its length, and every byte outside the part
    pub part_kept : length (with_part m a n v) ≡ length m
    unfolding with_part
    part_kept = length-paste m a v n inside (omega arith)

    pub part_before : (k : ℕ) → k < a → get_or (with_part m a n v) k 0 ≡ get_or m k 0
    part_before k h =
        let f : length (take a m) ≡ a = length-take-le a m (omega arith) in
        ap (λ (l : List ℕ). get_or l k 0) stored ∙ get_or-append (take a m) (v ++ drop (a + n) m) 0 k (omega arith) ∙ get_or-take a m k 0 h

    pub part_behind : (k : ℕ) → a + n ≤ k → get_or (with_part m a n v) k 0 ≡ get_or m k 0
    part_behind k h =
        let f : length (take a m) ≡ a = length-take-le a m (omega arith) in
        let d = k - (a + n) in
        let there : k ≡ length (take a m) + (length v + d) = omega arith in
        ap (λ (l : List ℕ). get_or l k 0) stored ∙ ap (λ (i : ℕ). get_or (take a m ++ (v ++ drop (a + n) m)) i 0) there
        ∙ get_or-append-add (take a m) (v ++ drop (a + n) m) (length v + d) 0 ∙ get_or-append-add v (drop (a + n) m) d 0 ∙ get_or-drop (a + n) m d 0
        ∙ ap (λ (i : ℕ). get_or m i 0) (omega arith)

-- the part as it was changes nothing
pub part_same : (m : List ℕ) (a n : ℕ) → with_part m a n (part_at m a n) ≡ m
unfolding with_part part_at
part_same m a n =
    append_assoc (take a m) (take n (take n (drop a m))) (drop (a + n) m)
    ∙ ap (λ (l : List ℕ). take a m ++ l) (ap₂ ◌++◌ (take-take n n (drop a m) (omega arith)) (sym (drop-drop n a m)) ∙ take-append-drop n (drop a m))
    ∙ take-append-drop a m

-- an area with an answer in its front keeps its length
pub front_length : (front area : List ℕ) → length front ≤ length area → length (front ++ drop (length front) area) ≡ length area
front_length front area h = simp (length-append, length-drop) (omega arith)

-- an area behind an answer in its front
pub front_behind : (front area : List ℕ) (k : ℕ) → length front ≤ k → get_or (front ++ drop (length front) area) k 0 ≡ get_or area k 0
front_behind front area k h =
    let d = k - length front in
    let there : k ≡ length front + d = omega arith in
    ap (λ (n : ℕ). get_or (front ++ drop (length front) area) n 0) there
    ∙ get_or-append-add front (drop (length front) area) d 0 ∙ get_or-drop (length front) area d 0 ∙ ap (λ (n : ℕ). get_or area n 0) (sym there)

-- an answer leaves the length of an area as it was
pub written_length : (units : Units) (area : List ℕ) (os : List Operation) (k : ℕ) → length area ≡ 4096 → k ≤ length os → length (written units area os k) ≡ 4096
unfolding written answer
written_length units area os k size h = simp (length-append, length-drop, length_word_bytes, length_body) (omega (arith, (run_facts os k h).fits))
