-- The rows of the figures, written and read.
use mathlib.Core.Path.{◌≡◌, refl, sym, ap, ◌∙◌}
use mathlib.Core.Bool.{true, false}
use mathlib.Core.List.{List, [], ◌∷◌, ◌++◌, append_assoc}
use Prim.Native.Nat.{ℕ, zero, suc, ◌+◌, ◌≤◌, ◌<◌}
use native.Mathlib.Nat.{add-zero}
use native.Mathlib.Omega.{arith}
use lib.Dec.{ltb, eqb}
use lib.ListN.{length, drop, get_or, set, length-append, length-set}
use lib.Seq.{drop-append_seam, get_or-set_same, get_or-set_other, ext_get_or}
use borrow.Author.Tests.{lt-ltb, ltb-true, eqb-true, eqb-false}
use Rattle.words.proofs.Choice.{decide, and_left, and_right}
use Rattle.printing.specs.Text.{decimal}
use Rattle.month_table.specs.Table.{label, place, row, rows_from}
use Rattle.month_table.specs.Reading.{table, wrong, begins, line, count_in, is_row, figures_from, sessions_from}
use Rattle.month_table.proofs.Begins.{begins_front, begins_split, in_line_append, line_stops}
use Rattle.month_table.proofs.Digits.{value_decimal, decimal_in_line}
use Rattle.month_table.proofs.Sessions.{Sessions, Told, sessions_only}
use Rattle.month_table.proofs.Places.{label_in_line, place_below, places_differ, row_of, onto}

abbrev pub Small : List ℕ → Type 0
Small figures = (i : ℕ) → get_or figures i 0 < 0x1_0000_0000_0000_0000

-- ---- one row

row_line : (p v : ℕ) (r : List ℕ) → p < 39 → line (row p v ++ r) ≡ label p ++ decimal v
unfolding row
row_line p v r h =
    rw (append_assoc (label p) (decimal v ++ (10 ∷ [])) r, append_assoc (decimal v) (10 ∷ []) r, ← append_assoc (label p) (decimal v) (10 ∷ r))
    (line_stops (label p ++ decimal v) r (in_line_append (label p) (decimal v) (label_in_line p h) (decimal_in_line v)))

pub count_back : (p v : ℕ) (r : List ℕ) → p < 39 → v < 0x1_0000_0000_0000_0000 → count_in p (row p v ++ r) ≡ v
unfolding count_in
count_back p v r h small = rw (row_line p v r h, drop-append_seam (label p) (decimal v)) (value_decimal v small)

pub row_back : (p v : ℕ) (r : List ℕ) → p < 39 → v < 0x1_0000_0000_0000_0000 → is_row p (row p v ++ r) ≡ true
unfolding is_row
row_back p v r h small = rw (count_back p v r h small, lt-ltb v 0x1_0000_0000_0000_0000 small) (begins_front (row p v) r)

module _ (p : ℕ) (t : List ℕ) (e : is_row p t ≡ true) where
  pub count_small : count_in p t < 0x1_0000_0000_0000_0000
  unfolding is_row
  count_small = ltb-true (count_in p t) 0x1_0000_0000_0000_0000 (and_left (ltb (count_in p t) 0x1_0000_0000_0000_0000) (begins (row p (count_in p t)) t) e)

  pub row_split : t ≡ row p (count_in p t) ++ drop (length (row p (count_in p t))) t
  unfolding is_row
  row_split = begins_split (row p (count_in p t)) t (and_right (ltb (count_in p t) 0x1_0000_0000_0000_0000) (begins (row p (count_in p t)) t) e)

  pub row_length_lem : length (row p (count_in p t)) ≤ length t
  row_length_lem = omega (arith, ap length row_split, length-append (row p (count_in p t)) (drop (length (row p (count_in p t))) t))

-- ---- one turn

module _ (n p : ℕ) (figures t : List ℕ) where
  pub rows_more : is_row p t ≡ true
      → figures_from (suc n) p figures t ≡ figures_from n (suc p) (set figures (place p) (count_in p t)) (drop (length (row p (count_in p t))) t)
  unfolding figures_from
  rows_more e = rw e

  pub rows_wrong : is_row p t ≡ false → figures_from (suc n) p figures t ≡ wrong (p + 2)
  unfolding figures_from
  rows_wrong e = rw e

pub rows_none : (p : ℕ) (figures t : List ℕ) → figures_from zero p figures t ≡ sessions_from (length t) (p + 2) figures t
unfolding figures_from
rows_none p figures t = refl

-- ---- what was written reads back

-- the figures of n rows from row p on, over those before
pub filled : ℕ → ℕ → List ℕ → List ℕ → List ℕ
filled zero p before figures = before
filled (suc n) p before figures = filled n (suc p) (set before (place p) (get_or figures (place p) 0)) figures

pub rows_back : (n p : ℕ) (before figures r : List ℕ) → p + n ≤ 39 → Small figures
    → figures_from n p before (rows_from n p figures ++ r) ≡ sessions_from (length r) (p + n + 2) (filled n p before figures) r
unfolding rows_from filled
rows_back zero p before figures r h small = rw (rows_none p before r, add-zero p)
rows_back (suc n) p before figures r h small =
    let next : suc p + n + 2 ≡ p + suc n + 2 = omega arith in
    rw (append_assoc (row p (get_or figures (place p) 0)) (rows_from n (suc p) figures) r)
    (rows_more n p before (row p (get_or figures (place p) 0) ++ (rows_from n (suc p) figures ++ r))
    (row_back p (get_or figures (place p) 0) (rows_from n (suc p) figures ++ r) (omega arith) (small (place p)))
    ∙ rw (
      count_back p (get_or figures (place p) 0) (rows_from n (suc p) figures ++ r) (omega arith) (small (place p)),
      drop-append_seam (row p (get_or figures (place p) 0)) (rows_from n (suc p) figures ++ r),
      ← next,
    )
    (rows_back n (suc p) (set before (place p) (get_or figures (place p) 0)) figures r (omega arith) small))

filled_length : (n p : ℕ) (before figures : List ℕ) → length (filled n p before figures) ≡ length before
unfolding filled
filled_length zero p before figures = refl
filled_length (suc n) p before figures = filled_length n (suc p) _ figures ∙ length-set before (place p) (get_or figures (place p) 0)

-- a figure that is right stays right
filled_stays : (n p : ℕ) (before figures : List ℕ) (i : ℕ) → i < length before → get_or before i 0 ≡ get_or figures i 0 → get_or (filled n p before figures) i 0 ≡ get_or figures i 0
unfolding filled
filled_stays zero p before figures i h e = e
filled_stays (suc n) p before figures i h e =
    filled_stays n (suc p) (set before (place p) (get_or figures (place p) 0)) figures i (omega (arith, length-set before (place p) (get_or figures (place p) 0)))
    (decide (eqb i (place p))
    (λ t. let q = eqb-true i (place p) t in rw (← q) (get_or-set_same before i (get_or figures i 0) 0 h))
    (λ t. get_or-set_other before (place p) i (get_or figures (place p) 0) 0 (eqb-false i (place p) t) ∙ e))

-- the figure of each row is right
filled_row : (n p : ℕ) (before figures : List ℕ) (q : ℕ) → p ≤ q → q < p + n → place q < length before
    → get_or (filled n p before figures) (place q) 0 ≡ get_or figures (place q) 0
unfolding filled
filled_row zero p before figures q l h room = absurd (omega arith)
filled_row (suc n) p before figures q l h room =
    let kept = length-set before (place p) (get_or figures (place p) 0) in
    decide (eqb q p)
    (λ t. let e = eqb-true q p t in
    rw e (filled_stays n (suc p) (set before (place p) (get_or figures (place p) 0)) figures (place p) (omega (arith, ap place e))
    (get_or-set_same before (place p) (get_or figures (place p) 0) 0 (omega (arith, ap place e)))))
    (λ t. let e = eqb-false q p t in filled_row n (suc p) (set before (place p) (get_or figures (place p) 0)) figures q (omega arith) (omega arith) (omega arith))

pub filled_all : (before figures : List ℕ) → length before ≡ 39 → length figures ≡ 39 → filled 39 0 before figures ≡ figures
filled_all before figures h k =
    let long = filled_length 39 0 before figures in
    ext_get_or 0 (filled 39 0 before figures) figures (omega arith)
    (λ i l. let o = onto i (omega arith) in
    let here = filled_row 39 0 before figures (row_of i) (omega arith) (omega (arith, o.0)) (omega (arith, o.1)) in
    rw o.1 at here)

-- ---- no other text is taken

-- n rows from row p on, then the sessions: the figures that are told are those of these rows, and as before for every earlier row
pub record Figures (n p : ℕ) (before t given ds : List ℕ) : Type 0 where
  pub many : length given ≡ 39
  pub small : Small given
  pub kept : (q : ℕ) → q < p → get_or given (place q) 0 ≡ get_or before (place q) 0
  pub rest : List ℕ
  pub rows : t ≡ rows_from n p given ++ rest
  pub sessions : Sessions rest ds

set_small : (l : List ℕ) (i v : ℕ) → Small l → v < 0x1_0000_0000_0000_0000 → Small (set l i v)
set_small [] i v h k j = h j
set_small (x ∷ xs) zero v h k zero = k
set_small (x ∷ xs) zero v h k (suc j) = h (suc j)
set_small (x ∷ xs) (suc i) v h k zero = h 0
set_small (x ∷ xs) (suc i) v h k (suc j) = set_small xs i v (λ m. h (suc m)) k j

rows_end : (p : ℕ) (before t given ds : List ℕ) → length before ≡ 39 → Small before → Told before t given ds → Figures zero p before t given ds
unfolding rows_from
rows_end p before t given ds many small told =
    record {
      many = ap length told.same ∙ many;
      small = rw told.same small;
      kept = λ q l. rw told.same;
      rest = t;
      rows = refl;
      sessions = told.sessions;
    }

module _ (n p : ℕ) (before t given ds : List ℕ) (inside : p < 39) (many : length before ≡ 39) (e : is_row p t ≡ true) where
  rows_one : Figures n (suc p) (set before (place p) (count_in p t)) (drop (length (row p (count_in p t))) t) given ds → Figures (suc n) p before t given ds
  unfolding rows_from
  rows_one f =
      let here : get_or given (place p) 0 ≡ count_in p t =
      f.kept p (omega arith) ∙ get_or-set_same before (place p) (count_in p t) 0 (omega (arith, place_below p inside)) in
      record {
        many = f.many;
        small = f.small;
        kept = λ q l. f.kept q (omega arith) ∙ get_or-set_other before (place p) (place q) (count_in p t) 0 (places_differ q p l inside);
        rest = f.rest;
        rows = row_split p t e ∙ ap (λ (l : List ℕ). row p (count_in p t) ++ l) f.rows ∙ rw here (sym (append_assoc (row p (count_in p t)) (rows_from n (suc p) given) f.rest));
        sessions = f.sessions;
      }

pub rows_only : (n p : ℕ) (before t given ds : List ℕ) → p + n ≤ 39 → length before ≡ 39 → Small before → figures_from n p before t ≡ table given ds
    → Figures n p before t given ds
rows_only zero p before t given ds h many small e =
    rows_end p before t given ds many small (sessions_only (length t) (p + 2) before t given ds (omega arith) (sym (rows_none p before t) ∙ e))
rows_only (suc n) p before t given ds h many small e = decide (is_row p t)
    (λ r. rows_one n p before t given ds (omega arith) many r
    (rows_only n (suc p) (set before (place p) (count_in p t)) (drop (length (row p (count_in p t))) t) given ds (omega arith)
    (length-set before (place p) (count_in p t) ∙ many) (set_small before (place p) (count_in p t) small (count_small p t r)) (sym (rows_more n p before t r) ∙ e)))
    (λ r. let z : ◌≡◌ {A = ℕ} 0 1 = cc (rows_wrong n p before t r) in absurd (omega arith))
