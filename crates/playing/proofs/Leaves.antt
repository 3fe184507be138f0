-- Laws of two buffers, of a frame, and of the body of a record.
use mathlib.Core.Path.{◌≡◌, refl, sym, ap, ◌∙◌}
use mathlib.Core.Bool.{true, false, and-false}
use mathlib.Core.List.{List, [], ◌∷◌}
use Prim.Native.Nat.{ℕ, ◌+◌, ◌-◌, ◌<◌, ◌≤◌}
use native.Mathlib.Nat.{zero-add}
use native.Mathlib.Numerals.{add-one}
use native.Mathlib.Omega.{arith}
use Rattle.std.specs.Prelude.{min}
use lib.Dec.{leb, eqb}
use lib.ListN.{length, get_or, take, drop, length-drop}
use lib.Seq.{sets, take_all, drop-cons, drop-drop, drop-length}
use borrow.Author.Tests.{eq-eqb, ne_eqb, le-leb, lt-leb, leb-true, leb-false}
use Rattle.words.specs.Numbers.{le32}
use Rattle.words.proofs.Numbers.{le_drop}
use Rattle.words.proofs.Choice.{decide}
use Rattle.records.specs.Records.{length_of, kind_of}
use Rattle.records.specs.Cutting.{due}
use Rattle.trace.specs.declared.report.Report.TheVariants.{Agreed, Differs}
use Rattle.trace.specs.Trace.{body_of, good_frame, address_in, bytes_in, is_settable}
use Rattle.trace.specs.Playing.{common, compared}
use Rattle.trace.proofs.Reader.{frame_bounds}
use Rattle.playing.specs.declared.playing.Playing.{Playing}
use Rattle.playing.specs.Played.{due_by}
use Rattle.playing.specs.Inner.Terms.{played_on, faulted_by, set_by, memory_set}

-- ---- two buffers

common_none : (a : List ℕ) → common a [] ≡ 0
unfolding common
common_none [] = refl
common_none (x ∷ xs) = refl

pub common_most : (a b : List ℕ) → common a b ≤ length a
unfolding common
common_most [] b = omega arith
common_most (x ∷ xs) [] = omega arith
common_most (x ∷ xs) (y ∷ ys) = decide (eqb x y) (λ t. rw t (omega (arith, common_most xs ys))) (λ t. rw t (omega arith))

-- A comparison that has come to a place finds from there on what it finds from the start.
pub record Alike (a b : List ℕ) (i : ℕ) : Type 0 where
  pub within : i ≤ length a
  pub other : i ≤ length b
  pub same : common a b ≡ i + common (drop i a) (drop i b)

pub common_start : (a b : List ℕ) → Alike a b 0
common_start a b = record { within = omega arith; other = omega arith; same = sym (zero-add (common a b)) }

module _ {a b : List ℕ} {i : ℕ} (r : Alike a b i) where
  pub common_later : i < length a → i < length b → get_or a i 0 ≡ get_or b i 0 → Alike a b (i + 1)
  unfolding common
  common_later l m h =
      record {
        within = omega arith;
        other = omega arith;
        same = r.same ∙ rw (add-one i, drop-cons a i 0 l, drop-cons b i 0 m, eq-eqb (get_or a i 0) (get_or b i 0) h) (omega arith);
      }

  common_first : length a ≤ i → i ≡ common a b
  unfolding common
  common_first l = let e : i ≡ length a = omega arith in sym (r.same ∙ rw (e, drop-length a) (omega arith))

  common_second : length b ≤ i → i ≡ common a b
  common_second l = let e : i ≡ length b = omega arith in sym (r.same ∙ rw (e, drop-length b, common_none) (omega arith))

  -- one of them ends here
  pub common_end : min (length a) (length b) ≤ i → min (length a) (length b) ≡ common a b
  common_end h = decide (leb (length a) (length b))
      (λ t. let l = leb-true _ _ t in let e : min (length a) (length b) ≡ i = omega (arith, r.within, r.other) in e ∙ common_first (omega arith))
      (λ t. let l = leb-false _ _ t in let e : min (length a) (length b) ≡ i = omega (arith, r.within, r.other) in e ∙ common_second (omega arith))

  pub common_here : i < length a → i < length b → (get_or a i 0 ≡ get_or b i 0 → ⊥) → i ≡ common a b
  unfolding common
  common_here l m h = sym (r.same ∙ rw (drop-cons a i 0 l, drop-cons b i 0 m, ne_eqb (get_or a i 0) (get_or b i 0) h) (omega arith))

module _ (calls : ℕ) (recorded ours : List ℕ) (n : ℕ) (e : n ≡ common recorded ours) where
  pub compared_other : (n ≡ length recorded → ⊥) → Differs (calls + 1) n ≡ compared calls recorded ours
  unfolding compared
  compared_other h = rw (ne_eqb (common recorded ours) (length recorded) (λ q. h (e ∙ q))) (ap (Differs (calls + 1)) e)

  pub compared_longer : (n ≡ length ours → ⊥) → Differs (calls + 1) n ≡ compared calls recorded ours
  unfolding compared
  compared_longer h = rw (ne_eqb (common recorded ours) (length ours) (λ q. h (e ∙ q)), and-false) (ap (Differs (calls + 1)) e)

  pub compared_same : n ≡ length recorded → n ≡ length ours → Agreed (calls + 1) ≡ compared calls recorded ours
  unfolding compared
  compared_same h k = rw (eq-eqb (common recorded ours) (length recorded) (sym e ∙ h), eq-eqb (common recorded ours) (length ours) (sym e ∙ k))

-- ---- lengths and kinds

module _ (length kind : ℕ) where
  pub frame_low : length < 2 → false ≡ good_frame length kind
  unfolding good_frame
  frame_low h = rw (lt-leb 2 length h)

  pub frame_high : 4102 < length → false ≡ good_frame length kind
  unfolding good_frame
  frame_high h = rw (lt-leb length 4102 h, and-false)

  pub frame_kind_low : kind < 32 → leb 32 kind ≡ good_frame length kind
  unfolding good_frame
  frame_kind_low h = rw (lt-leb 32 kind h, and-false)

  pub frame_kind : 2 ≤ length → length ≤ 4102 → 32 ≤ kind → leb kind 34 ≡ good_frame length kind
  unfolding good_frame
  frame_kind l h k = rw (le-leb 2 length l, le-leb length 4102 h, le-leb 32 kind k)

  pub due_good_frame : true ≡ good_frame length kind → length + 2 ≡ due_by length kind
  unfolding due_by
  due_good_frame e = rw (sym e) (omega (arith, (frame_bounds length kind (sym e)).0))

  pub due_bad_frame : false ≡ good_frame length kind → 4 ≡ due_by length kind
  unfolding due_by
  due_bad_frame e = rw (sym e)

pub due_frame : (r : List ℕ) → due_by (length_of r) (kind_of r) ≡ due good_frame r
unfolding due due_by
due_frame r = refl

-- ---- the body of a record

-- all of what follows a place
pub rest : (item : List ℕ) (k n : ℕ) → n ≡ length item - k → take n (drop k item) ≡ drop k item
rest item k n e = take_all n (drop k item) (omega (arith, length-drop k item))

pub address_at : (item : List ℕ) → address_in (body_of item) ≡ le32 item 4
address_at item = le_drop 4 4 item 0

pub bytes_at : (item : List ℕ) → bytes_in (body_of item) ≡ drop 8 item
bytes_at item = drop-drop 4 4 item

module _ (m item : List ℕ) where
  pub set_short : length item < 9 → is_settable m (body_of item) ≡ false
  unfolding is_settable
  set_short h = rw (lt-leb 5 (length (drop 4 item)) (omega (arith, length-drop 4 item)))

  pub set_past : length m < le32 item 4 + (length item - 8) → is_settable m (body_of item) ≡ false
  unfolding is_settable
  set_past h = rw (address_at item, length-drop 4 item, lt-leb (le32 item 4 + (length item - 4 - 4)) (length m) (omega arith), and-false)

  pub set_fits : 9 ≤ length item → le32 item 4 + (length item - 8) ≤ length m → is_settable m (body_of item) ≡ true
  unfolding is_settable
  set_fits l h = rw (address_at item, length-drop 4 item, le-leb 5 (length item - 4) (omega arith), le-leb (le32 item 4 + (length item - 4 - 4)) (length m) (omega arith))

pub kept_body : (args item after : List ℕ) → after ≡ sets args 0 (take (length item - 4) (drop 4 item)) → after ≡ sets args 0 (body_of item)
kept_body args item after e = e ∙ ap (λ (l : List ℕ). sets args 0 l) (rest item 4 (length item - 4) refl)

-- a bad 34 sets nothing
pub set_not : (m body : List ℕ) (t r : Playing) → r ≡ faulted_by t → is_settable m body ≡ false → (r ≡ set_by m t body) × (m ≡ memory_set m body)
set_not m body t r e s = (rw s e, rw s)

pub set_done : (m item : List ℕ) (t r : Playing) (after : List ℕ) (at : ℕ) → at ≡ le32 item 4 → r ≡ played_on t t.report t.registration t.reading
    → after ≡ sets m at (take (length item - 8) (drop 8 item)) → 9 ≤ length item → at + (length item - 8) ≤ length m
    → (r ≡ set_by m t (body_of item)) × (after ≡ memory_set m (body_of item))
set_done m item t r after at a e f l h =
    let s : is_settable m (body_of item) ≡ true = set_fits m item l (omega arith) in
    let d : sets m at (take (length item - 8) (drop 8 item)) ≡ sets m (address_in (body_of item)) (bytes_in (body_of item)) =
    ap (λ (i : ℕ). sets m i (take (length item - 8) (drop 8 item))) (a ∙ sym (address_at item))
    ∙ ap (λ (v : List ℕ). sets m (address_in (body_of item)) v) (rest item 8 (length item - 8) refl ∙ sym (bytes_at item)) in
    (rw s e, rw s (f ∙ d))
