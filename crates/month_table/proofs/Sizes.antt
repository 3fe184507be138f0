-- How long rows and texts are, and rows one after the other.
use mathlib.Core.Path.{◌≡◌, refl, sym, ap}
use mathlib.Core.List.{List, [], ◌++◌}
use Prim.Native.Nat.{ℕ, zero, suc, ◌+◌, ◌-◌, ◌*◌, ◌/◌, ◌%◌, ◌≤◌, ◌<◌}
use native.Mathlib.Numerals.{add-one}
use native.Mathlib.Omega.{arith}
use lib.Dec.{leb}
use lib.ListN.{length, take, drop, get_or, length-append}
use lib.Seq.{sets-eq, take_at, drop-drop, length-take-le}
use borrow.Author.Tests.{leb-true}
use Rattle.printing.specs.Text.{numbered, ended}
use Rattle.printing.specs.declared.put.Text.{Text}
use Rattle.printing.specs.Put.{Put}
use Rattle.printing.proofs.Puts.{put_length}
use Rattle.printing.proofs.Sizes.{length_ended}
use Rattle.month_table.specs.Table.{status_word, last_word, label, place, row, rows_from, session_row, session_rows, text}
use Rattle.month_table.proofs.Places.{each_below, below}
use Rattle.month_table.proofs.Sessions.{length_sessions}

-- what was put at the front of a buffer stands there
module _ {a b : Text} {bytes : List ℕ} (p : Put a b bytes) (e : a.length ≡ 0) (h : length bytes ≤ length a.buffer.now) where
  pub put_front : take b.length b.buffer.now ≡ bytes
  put_front =
      rw (p.stored, e, sets-eq bytes a.buffer.now 0 (omega arith)) (take_at bytes (drop (0 + length bytes) a.buffer.now) b.length (omega (arith, p.place, e)))

  pub put_inside : b.length ≤ length b.buffer.now
  put_inside = omega (arith, p.place, e, put_length p)

  pub put_count : b.length ≡ length (take b.length b.buffer.now)
  put_count = sym (length-take-le b.length b.buffer.now put_inside)

-- ---- rows

label_short : (p : ℕ) → p < 39 → length (label p) ≤ 17
unfolding label status_word last_word each_below
label_short p h = leb-true (length (label p)) 17 (below 39 (λ (p : ℕ). leb (length (label p)) 17) refl p h)

pub row_parts : (p v : ℕ) → row p v ≡ label p ++ ended [] v
unfolding row ended numbered
row_parts p v = refl

pub row_short : (p v : ℕ) → p < 39 → length (row p v) ≤ 38
row_short p v h = rw (row_parts p v) (omega (arith, length-append (label p) (ended [] v), label_short p h, length_ended [] v))

pub label_fits : (p : ℕ) → p < 39 → length (label p) ≤ 64
label_fits p h = omega (arith, label_short p h)

rows_more : (n p : ℕ) (figures : List ℕ) → rows_from (suc n) p figures ≡ row p (get_or figures (place p) 0) ++ rows_from n (suc p) figures
unfolding rows_from
rows_more n p figures = refl

pub rows_end : (p : ℕ) (figures : List ℕ) → rows_from 0 p figures ≡ []
unfolding rows_from
rows_end p figures = refl

pub rows_step : (p : ℕ) (figures : List ℕ) → p < 39 → rows_from (39 - p) p figures ≡ row p (get_or figures (place p) 0) ++ rows_from (39 - (p + 1)) (p + 1) figures
rows_step p figures h =
    let left : 39 - p ≡ suc (39 - (p + 1)) = omega arith in
    rw (left, rows_more (39 - (p + 1)) p figures, add-one p)

rows_few : (n p : ℕ) (figures : List ℕ) → p + n ≤ 39 → length (rows_from n p figures) ≤ 38 * n
rows_few zero p figures h = rw (rows_end p figures) (omega arith)
rows_few (suc n) p figures h =
    let v : ℕ = get_or figures (place p) 0 in
    rw (rows_more n p figures)
    (omega (arith, length-append (row p (get_or figures (place p) 0)) (rows_from n (suc p) figures), row_short p (get_or figures (place p) 0) (omega arith), rows_few n (suc p) figures (omega arith)))

pub all_few : (figures : List ℕ) → length (rows_from 39 0 figures) ≤ 1482
all_few figures = rows_few 39 0 figures (omega arith)

-- the lengths of the first p rows are added up
pub record Added (figures : List ℕ) (n p : ℕ) : Type 0 where
  pub inside : p ≤ 39
  pub few : n ≤ 38 * p
  pub same : n + length (rows_from (39 - p) p figures) ≡ length (rows_from 39 0 figures)

pub added_none : (figures : List ℕ) → Added figures 0 0
added_none figures = record { inside = omega arith; few = omega arith; same = omega arith }

module _ {figures : List ℕ} {n p : ℕ} (a : Added figures n p) where
  pub added_row : (k : ℕ) → p < 39 → k ≡ length (row p (get_or figures (place p) 0)) → Added figures (n + k) (p + 1)
  added_row k h e =
      record {
        inside = omega arith;
        few = omega (arith, row_short p (get_or figures (place p) 0) h);
        same =
            omega (arith, ap length (rows_step p figures h), length-append (row p (get_or figures (place p) 0)) (rows_from (39 - (p + 1)) (p + 1) figures));
      }

  pub added_all_lem : 39 ≤ p → n ≡ length (rows_from 39 0 figures)
  added_all_lem h =
      let none : 39 - p ≡ 0 = omega arith in
      omega (arith, ap (λ (m : ℕ). length (rows_from m p figures)) none, ap length (rows_end p figures))

-- ---- sessions

sessions_more : (n : ℕ) (ds : List ℕ) → session_rows (suc n) ds ≡ session_row (take 32 ds) ++ session_rows n (drop 32 ds)
unfolding session_rows
sessions_more n ds = refl

pub sessions_end : (ds : List ℕ) → session_rows 0 ds ≡ []
unfolding session_rows
sessions_end ds = refl

pub sessions_step : (ds : List ℕ) (n k : ℕ) → k < n
    → session_rows (n - k) (drop (32 * k) ds) ≡ session_row (take 32 (drop (32 * k) ds)) ++ session_rows (n - (k + 1)) (drop (32 * (k + 1)) ds)
sessions_step ds n k h =
    let count : n - k ≡ suc (n - (k + 1)) = omega arith in
    let next : 32 * (k + 1) ≡ 32 * k + 32 = omega arith in
    rw (count, next, sessions_more (n - (k + 1)) (drop (32 * k) ds), drop-drop 32 (32 * k) ds)

-- ---- the whole text

pub length_text : (figures ds : List ℕ) → length ds % 32 ≡ 0 → length (text figures ds) ≡ 19 + length (rows_from 39 0 figures) + 75 * (length ds / 32)
unfolding text
length_text figures ds h =
    let whole : length ds ≡ 32 * (length ds / 32) = omega arith in
    omega (arith, length-append (rows_from 39 0 figures) (session_rows (length ds / 32) ds), length_sessions (length ds / 32) ds whole)
