-- The arithmetic gives the longest run of a list of deletes, then updates, then additions, opcode by opcode.
use mathlib.Core.Path.{◌≡◌, refl, ap, ◌∙◌, sym}
use mathlib.Core.Bool.{Bool, true, false, cond}
use mathlib.Core.List.{List, [], ◌∷◌, ◌++◌, append_assoc, append-nil}
use Prim.Native.Nat.{ℕ, zero, suc, ◌+◌, ◌*◌, ◌-◌, ◌/◌, ◌≤◌, ◌<◌, min}
use native.Mathlib.Omega.{arith}
use native.Mathlib.Nat.{min-zero, min-eq_left, min-eq_right}
use lib.Dec.{leb, eqb}
use borrow.Author.Tests.{eq-eqb, ne_eqb, leb-true, leb-false}
use lib.ListN.{length, take, drop, length-append}
use lib.Seq.{take-append-le, take-append-add, take-length, length-take-le}
use Rattle.journal.specs.declared.operation.Operation.{Operation}
use Rattle.journal.specs.declared.operation.Operation.TheVariants.{Delete, Update, Add}
use Rattle.journal.specs.declared.counts.Counts.{Counts}
use Rattle.journal.specs.Journal.{opcode, operands}
use Rattle.nodes.specs.Run.{area_words, cost, operator, part_words, ones_in, twos_in, cut}
use Rattle.nodes.specs.Claims.Longest.{LongestOf, AllOf, CutIsLongest}
use Rattle.nodes.specs.Area.{operands_of, part, body}
use Rattle.nodes.specs.Inner.Terms.{words_of}
use Rattle.nodes.proofs.Runs.{operator_zero, operator_pos, operator_le, length_part, length_body, longest_by}

-- ---- lists of one opcode

pub code_take : (code n : ℕ) (os : List Operation) → AllOf code os → AllOf code (take n os)
code_take code zero os h = tt
code_take code (suc n) [] h = tt
code_take code (suc n) (o ∷ os) h = (h.0, code_take code n os h.1)

pub code_drop : (code n : ℕ) (os : List Operation) → AllOf code os → AllOf code (drop n os)
code_drop code zero os h = h
code_drop code (suc n) [] h = tt
code_drop code (suc n) (o ∷ os) h = code_drop code n os h.1

pub operands_of_append : (code : ℕ) (os ps : List Operation) → operands_of code (os ++ ps) ≡ operands_of code os ++ operands_of code ps
unfolding operands_of
operands_of_append code [] ps = refl
operands_of_append code (o ∷ os) ps =
    rw (operands_of_append code os ps) (sym (append_assoc (cond (eqb (opcode o) code) (operands o) []) (operands_of code os) (operands_of code ps)))

operands_of_three : (code : ℕ) (os ps qs : List Operation) → operands_of code (os ++ (ps ++ qs)) ≡ operands_of code os ++ (operands_of code ps ++ operands_of code qs)
operands_of_three code os ps qs = rw (operands_of_append code os (ps ++ qs), operands_of_append code ps qs)

pub operands_of_same : (code : ℕ) (os : List Operation) → AllOf code os → operands_of code os ≡ words_of os
unfolding operands_of words_of
operands_of_same code [] h = refl
operands_of_same code (o ∷ os) h = rw (eq-eqb (opcode o) code h.0, operands_of_same code os h.1)

pub operands_of_other : (code other : ℕ) (os : List Operation) → (other ≡ code → ⊥) → AllOf other os → operands_of code os ≡ []
unfolding operands_of
operands_of_other code other [] n h = refl
operands_of_other code other (o ∷ os) n h = rw (ne_eqb (opcode o) code (λ e. n (sym h.0 ∙ e)), operands_of_other code other os n h.1)

-- deletes and updates have one operand word each, additions two
pub words_one : (code : ℕ) (os : List Operation) → code ≤ 2 → AllOf code os → length (words_of os) ≡ length os
unfolding words_of
words_one code [] l h = refl
words_one code (Delete p ∷ os) l h = omega (arith, words_one code os l h.1)
words_one code (Update p ∷ os) l h = omega (arith, words_one code os l h.1)
words_one code (Add p i ∷ os) l h = absurd (omega (arith, h.0))

pub words_two : (os : List Operation) → AllOf 3 os → length (words_of os) ≡ 2 * length os
unfolding words_of
words_two [] h = refl
words_two (Delete p ∷ os) h = absurd (omega (arith, h.0))
words_two (Update p ∷ os) h = absurd (omega (arith, h.0))
words_two (Add p i ∷ os) h = omega (arith, words_two os h.1)

-- ---- deletes, then updates, then additions

-- the words of x deletes, y updates and z additions with their operators
abbrev pub worth : ℕ → ℕ → ℕ → ℕ
worth x y z = part_words x + part_words y + part_words (2 * z)

module _ (ds us adds : List Operation) (hd : AllOf 1 ds) (hu : AllOf 2 us) (ha : AllOf 3 adds) where
  pub body_split : body (ds ++ (us ++ adds)) ≡ part 1 (words_of ds) ++ (part 2 (words_of us) ++ part 3 (words_of adds))
  unfolding body
  body_split =
      let one : operands_of 1 (ds ++ (us ++ adds)) ≡ words_of ds =
      operands_of_three 1 ds us adds ∙ rw (operands_of_same 1 ds hd, operands_of_other 1 2 us (λ e. omega arith) hu, operands_of_other 1 3 adds (λ e. omega arith) ha) (append-nil (words_of ds)) in
      let two : operands_of 2 (ds ++ (us ++ adds)) ≡ words_of us =
      operands_of_three 2 ds us adds ∙ rw (operands_of_other 2 1 ds (λ e. omega arith) hd, operands_of_same 2 us hu, operands_of_other 2 3 adds (λ e. omega arith) ha) (append-nil (words_of us)) in
      let three : operands_of 3 (ds ++ (us ++ adds)) ≡ words_of adds =
      operands_of_three 3 ds us adds ∙ rw (operands_of_other 3 1 ds (λ e. omega arith) hd, operands_of_other 3 2 us (λ e. omega arith) hu, operands_of_same 3 adds ha) in
      rw (one, two, three)

  pub cost_split : cost (ds ++ (us ++ adds)) ≡ worth (length ds) (length us) (length adds)
  cost_split =
      sym (length_body (ds ++ (us ++ adds))) ∙ ap length body_split
      ∙ simp (length-append, length_part, words_one 1 ds (omega arith) hd, words_one 2 us (omega arith) hu, words_two adds ha) (omega arith)

-- ---- the first operations of such a list

-- x deletes, y updates and z additions are the first operations of d deletes, u updates and a additions
pub data Inside (d u a : ℕ) : ℕ → ℕ → ℕ → Type 0 where
  in_deletes : (x : ℕ) → x ≤ d → Inside d u a x 0 0
  in_updates : (x y : ℕ) → x ≡ d → y ≤ u → Inside d u a x y 0
  in_additions : (x y z : ℕ) → x ≡ d → y ≡ u → z ≤ a → Inside d u a x y z

pub record Parts (d u a x y z : ℕ) : Type 0 where
  pub x_in : x ≤ d
  pub y_in : y ≤ u
  pub z_in : z ≤ a

pub parts_in : {d u a x y z : ℕ} → Inside d u a x y z → Parts d u a x y z
parts_in (in_deletes _ h) = record { x_in = h; y_in = omega arith; z_in = omega arith }
parts_in (in_updates _ _ e h) = record { x_in = omega arith; y_in = h; z_in = omega arith }
parts_in (in_additions _ _ _ e f h) = record { x_in = omega arith; y_in = omega arith; z_in = h }

-- a whole list, and more of what follows
take_past : (xs ys : List Operation) (n x y : ℕ) → x ≡ length xs → n ≡ x + y → take n (xs ++ ys) ≡ take x xs ++ take y ys
take_past xs ys n x y h e =
    let s : n ≡ length xs + y = omega arith in
    rw (s, h) (take-append-add xs ys y ∙ ap (λ (l : List Operation). l ++ take y ys) (sym (take-length xs)))

module _ (ds us adds : List Operation) where
  pub take_split : (x y z : ℕ) → Inside (length ds) (length us) (length adds) x y z → take (x + y + z) (ds ++ (us ++ adds)) ≡ take x ds ++ (take y us ++ take z adds)
  take_split x y z (in_deletes _ h) =
      let e : x + 0 + 0 ≡ x = omega arith in
      rw e (take-append-le x ds (us ++ adds) h ∙ sym (append-nil (take x ds)))
  take_split x y z (in_updates _ _ q h) =
      take_past ds (us ++ adds) (x + y + 0) x y q (omega arith)
      ∙ ap (λ (l : List Operation). take x ds ++ l) (take-append-le y us adds h ∙ sym (append-nil (take y us)))
  take_split x y z (in_additions _ _ _ q r h) =
      take_past ds (us ++ adds) (x + y + z) x (y + z) q (omega arith)
      ∙ ap (λ (l : List Operation). take x ds ++ l) (take_past us adds (y + z) y z r refl)

-- ---- the arithmetic

-- what the cut of three counts is: the first operations, which fit, and with one operation more do not
pub record Cut (d u a x y z : ℕ) : Type 0 where
  pub inside : Inside d u a x y z
  pub fits : worth x y z ≤ area_words
  pub full : x + y + z < d + u + a → (i : ℕ) × (j : ℕ) × (k : ℕ) × Inside d u a i j k × (i + j + k ≡ suc (x + y + z)) × (area_words < worth i j k)

module _ (d u a : ℕ) where
  -- the deletes alone fill the room
  cut_deletes : area_words - 1 < d → Cut d u a (area_words - 1) 0 0
  unfolding operator
  cut_deletes h = record { inside = in_deletes (area_words - 1) (omega arith); fits = omega arith; full = λ _. (area_words, 0, 0, in_deletes area_words h, omega arith, omega arith) }

  -- the updates fill it, after all deletes
  cut_updates : (y : ℕ) → part_words d + part_words y ≤ area_words → area_words < part_words d + (2 + y) → y < u → Cut d u a d y 0
  unfolding operator
  cut_updates y f g h =
      record { inside = in_updates d y refl (omega arith); fits = omega arith; full = λ _. (d, suc y, 0, in_updates d (suc y) refl h, omega arith, omega arith) }

  -- the additions fill it, after all deletes and updates
  cut_additions : (z : ℕ) → worth d u z ≤ area_words → area_words < part_words d + part_words u + (3 + 2 * z) → z < a → Cut d u a d u z
  cut_additions z f g h =
      let more = operator_pos (2 * suc z) (omega arith) in
      record { inside = in_additions d u z refl refl (omega arith); fits = f; full = λ _. (d, u, suc z, in_additions d u (suc z) refl refl h, omega arith, omega (arith, more)) }

  -- all fit
  cut_all : worth d u a ≤ area_words → Cut d u a d u a
  cut_all f = record { inside = in_additions d u a refl refl (omega arith); fits = f; full = λ h. absurd (omega arith) }

-- a statement about the least of two numbers
min_either : (a b : ℕ) (P : ℕ → Type 0) → (a ≤ b → P a) → (b < a → P b) → P (min a b)
min_either a b P left right = go (leb a b) refl
  where
    go : (t : Bool) → leb a b ≡ t → P (min a b)
    go true e = rw (min-eq_left (leb-true a b e)) (left (leb-true a b e))
    go false e = let h : b ≤ a = omega (arith, leb-false a b e) in rw (min-eq_right h) (right (leb-false a b e))

-- n words fit with their operator where n is less than the room, or 0
fits_in : (n room : ℕ) → n ≤ room - 1 → part_words n ≤ room
fits_in zero room h = omega (arith, operator_zero 0 refl)
fits_in (suc n) room h = omega (arith, operator_le (suc n))

module _ (d u a : ℕ) where
  -- the additions, in the room that all deletes and updates leave
  third : (room : ℕ) → part_words d + part_words u + room ≡ area_words → Cut d u a d u (twos_in room a)
  third room e =
      min_either a ((room - 1) / 2) (Cut d u a d u)
      (λ h. cut_all d u a (omega (arith, fits_in (2 * a) room (omega arith))))
      (λ h. let z = (room - 1) / 2 in cut_additions d u a z (omega (arith, fits_in (2 * z) room (omega arith))) (omega arith) h)

  -- the updates and additions, in the room that all deletes leave
  second : (room : ℕ) → part_words d + room ≡ area_words → Cut d u a d (ones_in room u) (twos_in (room - part_words (ones_in room u)) a)
  second room e =
      min_either u (room - 1) (λ (y : ℕ). Cut d u a d y (twos_in (room - part_words y) a))
      (λ h. third (room - part_words u) (omega (arith, fits_in u room h)))
      (λ h. rw (none room) (cut_updates d u a (room - 1) (omega (arith, fits_in (room - 1) room (omega arith))) (omega arith) h))
    where
      -- updates that fill the room leave none for additions
      none : (room : ℕ) → twos_in (room - part_words (room - 1)) a ≡ 0
      none zero = omega arith
      none (suc zero) = omega arith
      none (suc (suc n)) = omega (arith, operator_pos (suc n) (omega arith))

pub cut_is : (remaining : Counts) → let c = cut remaining in Cut remaining.deletes remaining.updates remaining.additions c.deletes c.updates c.additions
unfolding cut operator
cut_is remaining =
    let d = remaining.deletes in
    let u = remaining.updates in
    let a = remaining.additions in
    min_either d (area_words - 1) (λ (x : ℕ). let r = area_words - part_words x in Cut d u a x (ones_in r u) (twos_in (r - part_words (ones_in r u)) a))
    (λ h. second d u a (area_words - part_words d) (omega (arith, fits_in d area_words h)))
    (λ h. simp min-zero (cut_deletes d u a h))

-- ---- the cut is the longest run

module _ (ds us adds : List Operation) (hd : AllOf 1 ds) (hu : AllOf 2 us) (ha : AllOf 3 adds) where
  -- what the first operations cost
  cost_first : (x y z : ℕ) → Inside (length ds) (length us) (length adds) x y z → cost (take (x + y + z) (ds ++ (us ++ adds))) ≡ worth x y z
  cost_first x y z h =
      let p = parts_in h in
      ap cost (take_split ds us adds x y z h)
      ∙ cost_split (take x ds) (take y us) (take z adds) (code_take 1 x ds hd) (code_take 2 y us hu) (code_take 3 z adds ha)
      ∙ rw (length-take-le x ds p.x_in, length-take-le y us p.y_in, length-take-le z adds p.z_in)

  pub cut_longest : (x y z : ℕ) → Cut (length ds) (length us) (length adds) x y z → LongestOf (ds ++ (us ++ adds)) (take x ds ++ (take y us ++ take z adds))
  cut_longest x y z q =
      let p = parts_in q.inside in
      let n : length (ds ++ (us ++ adds)) ≡ length ds + length us + length adds = simp length-append (omega arith) in
      rw (← take_split ds us adds x y z q.inside)
      (longest_by (ds ++ (us ++ adds)) (x + y + z)
      (omega arith)
      (rw (cost_first x y z q.inside) q.fits)
      (λ h. let m = q.full (omega arith) in rw (← m.4, cost_first m.0 m.1 m.2 m.3) m.5))

pub cut_is_longest : CutIsLongest
cut_is_longest ds us adds hd hu ha = cut_longest ds us adds hd hu ha _ _ _ (cut_is (record { deletes = length ds; updates = length us; additions = length adds }))
