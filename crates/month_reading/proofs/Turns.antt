-- Reading row by row: what is read from a place on gives the whole.
use mathlib.Core.Path.{◌≡◌, refl, sym, ap, ◌∙◌}
use mathlib.Core.Bool.{true, false}
use mathlib.Core.List.{List, [], ◌++◌, append_assoc, append-nil}
use Prim.Native.Nat.{ℕ, zero, suc, ◌+◌, ◌-◌, ◌*◌, ◌≤◌, ◌<◌}
use native.Mathlib.Numerals.{add-one}
use native.Mathlib.Omega.{arith}
use lib.Dec.{ltb, eqb}
use lib.ListN.{length, drop, set, replicate, length-drop, drop_of_length-le}
use lib.Seq.{drop-drop}
use borrow.Author.Tests.{eqb-true, eqb-false}
use Rattle.std.specs.Prelude.{Some, None}
use Rattle.std.proofs.lemmas.Option.{same_Some}
use Rattle.words.proofs.Choice.{decide}
use Rattle.month_table.specs.Table.{head, place, row}
use Rattle.month_table.specs.Reading.{Table, table, wrong, begins, count_in, is_row, digest_in, is_session, with_digest, sessions_from, figures_from, reading}
use Rattle.month_reading.specs.declared.finding.Row.{Row}
use Rattle.month_reading.specs.Inner.Terms.{count_of, row_in, digests_in, RowsTaken, SessionsTaken, TableTaken}
use Rattle.month_reading.specs.declared.judging.Rows.{Rows}
use Rattle.month_reading.proofs.Searches.{begins_length}
use Rattle.month_table.proofs.Sessions.{sessions_none, sessions_more, sessions_wrong, empty}
use Rattle.month_reading.proofs.Digests.{digests_after_lem, session_length}
use Rattle.month_table.proofs.Rows.{rows_more, rows_wrong, rows_none, row_length_lem}
use Rattle.month_table.proofs.Whole.{blank, blank_is, head_more}

-- ---- one row of a figure, by the count that is told

module _ (p : ℕ) (t : List ℕ) where
  pub row_over : None ≡ count_of (count_in p t) → None ≡ row_in p t
  unfolding row_in is_row
  row_over e = decide (ltb (count_in p t) 0x1_0000_0000_0000_0000) (λ l. let no = rw l at e in cc) (λ l. rw l)

  module _ (v : ℕ) (e : Some v ≡ count_of (count_in p t)) where
    counted : (ltb (count_in p t) 0x1_0000_0000_0000_0000 ≡ true) × (v ≡ count_in p t)
    counted = decide (ltb (count_in p t) 0x1_0000_0000_0000_0000) (λ l. let same = rw l at e in (l, (cc))) (λ l. let no = rw l at e in cc)

    pub row_taken : begins (row p v) t ≡ true → Some (record { count = v; length = length (row p v) }) ≡ row_in p t
    unfolding row_in is_row
    row_taken b =
        let same = rw counted.1 at b in
        rw (counted.1, counted.0, same)

    pub row_other : begins (row p v) t ≡ false → None ≡ row_in p t
    unfolding row_in is_row
    row_other b =
        let same = rw counted.1 at b in
        rw (counted.0, same)

-- what a row tells
module _ (p : ℕ) (t : List ℕ) where
  pub row_is : (r : Row) → Some r ≡ row_in p t → (is_row p t ≡ true) × (r.count ≡ count_in p t) × (r.length ≡ length (row p (count_in p t)))
  unfolding row_in
  row_is r e = decide (is_row p t)
      (λ l. let same : Some r ≡ Some (record { count = count_in p t; length = length (row p (count_in p t)) }) = rw l at e in
      (l, ap (λ (x : Row). x.count) (same_Some _ _ same), ap (λ (x : Row). x.length) (same_Some _ _ same)))
      (λ l. let no = rw l at e in cc)

  pub row_not : None ≡ row_in p t → is_row p t ≡ false
  unfolding row_in
  row_not e = decide (is_row p t) (λ l. let no = rw l at e in cc) (λ l. l)

-- ---- the rows of the figures

pub record Turned (t figures : List ℕ) (at p : ℕ) : Type 0 where
  pub few : p ≤ 39
  pub inside : at ≤ length t
  pub same : figures_from 39 0 blank (drop 19 t) ≡ figures_from (39 - p) p figures (drop at t)

pub turned_none : (t : List ℕ) → 19 ≤ length t → Turned t blank 19 0
turned_none t h = record { few = omega arith; inside = h; same = refl }

module _ {t figures : List ℕ} {at p : ℕ} (u : Turned t figures at p) (h : p < 39) where
  left : 39 - p ≡ suc (39 - (p + 1))
  left = omega arith

  pub turned_row : (r : Row) → Some r ≡ row_in p (drop at t) → Turned t (set figures (place p) r.count) (at + r.length) (p + 1)
  turned_row r e =
      let is = row_is p (drop at t) r e in
      record {
        few = omega arith;
        inside = omega (arith, u.inside, is.2, row_length_lem p (drop at t) is.0, length-drop at t);
        same =
            u.same ∙ rw (left, rows_more (39 - (p + 1)) p figures (drop at t) is.0, is.1, is.2, drop-drop (length (row p (count_in p (drop at t)))) at t, add-one p);
      }

  turned_wrong : None ≡ row_in p (drop at t) → figures_from 39 0 blank (drop 19 t) ≡ wrong (p + 2)
  turned_wrong e = u.same ∙ rw (left, rows_wrong (39 - (p + 1)) p figures (drop at t) (row_not p (drop at t) e))

pub turned_all : {t figures : List ℕ} {at p : ℕ} → Turned t figures at p → 39 ≤ p → figures_from 39 0 blank (drop 19 t) ≡ sessions_from (length (drop at t)) 41 figures (drop at t)
turned_all {t} {figures} {at} {p} u h =
    let all : p ≡ 39 = omega arith in
    u.same ∙ rw (all, rows_none 39 figures (drop at t))

-- ---- the rows of the sessions

sessions_fuel : (f g k : ℕ) (figures t : List ℕ) → length t ≤ f → length t ≤ g → sessions_from f k figures t ≡ sessions_from g k figures t
sessions_fuel zero g k figures t h l = rw (empty t (omega arith)) (sessions_none zero k figures ∙ sym (sessions_none g k figures))
sessions_fuel (suc f) zero k figures t h l = rw (empty t (omega arith)) (sessions_none (suc f) k figures ∙ sym (sessions_none zero k figures))
sessions_fuel (suc f) (suc g) k figures t h l = decide (eqb (length t) 0)
    (λ z. rw (empty t (eqb-true (length t) 0 z)) (sessions_none (suc f) k figures ∙ sym (sessions_none (suc g) k figures)))
    (λ z. let some = eqb-false (length t) 0 z in
    decide (is_session t)
    (λ s. sessions_more f k figures t some s
    ∙ ap (with_digest (digest_in t)) (sessions_fuel f g (suc k) figures (drop 75 t) (omega (arith, length-drop 75 t)) (omega (arith, length-drop 75 t)))
    ∙ sym (sessions_more g k figures t some s))
    (λ s. sessions_wrong f k figures t some s ∙ sym (sessions_wrong g k figures t some s)))

pub sessions_at : ℕ → List ℕ → List ℕ → Table
sessions_at k figures t = sessions_from (length t) k figures t

module _ (k : ℕ) (figures t : List ℕ) (some : length t ≡ 0 → ⊥) where
  sessions_turn : is_session t ≡ true → sessions_at k figures t ≡ with_digest (digest_in t) (sessions_at (suc k) figures (drop 75 t))
  unfolding sessions_at
  sessions_turn s =
      sessions_fuel (length t) (suc (length t)) k figures t (omega arith) (omega arith)
      ∙ sessions_more (length t) k figures t some s
      ∙ ap (with_digest (digest_in t)) (sessions_fuel (length t) (length (drop 75 t)) (suc k) figures (drop 75 t) (omega (arith, length-drop 75 t)) (omega arith))

  sessions_stop : is_session t ≡ false → sessions_at k figures t ≡ wrong k
  unfolding sessions_at
  sessions_stop s = sessions_fuel (length t) (suc (length t)) k figures t (omega arith) (omega arith) ∙ sessions_wrong (length t) k figures t some s

sessions_over : (k : ℕ) (figures : List ℕ) → sessions_at k figures [] ≡ table figures []
unfolding sessions_at
sessions_over k figures = sessions_none 0 k figures

with_with : (a b : List ℕ) (x : Table) → with_digest a (with_digest b x) ≡ with_digest (a ++ b) x
with_with a b (table figures ds) = ap (table figures) (sym (append_assoc a b ds))
with_with a b (wrong n) = refl

with_none : (x : Table) → x ≡ with_digest [] x
with_none (table figures ds) = refl
with_none (wrong n) = refl

-- `count` sessions are read.
pub record Passed (t : List ℕ) (at count : ℕ) : Type 0 where
  pub place : at ≡ 75 * count
  pub inside : at ≤ length t
  pub same : (figures : List ℕ) → sessions_from (length t) 41 figures t ≡ with_digest (digests_in count t) (sessions_at (count + 41) figures (drop at t))

pub passed_none : (t : List ℕ) → Passed t 0 0
unfolding sessions_at digests_in
passed_none t = record { place = refl; inside = omega arith; same = λ figures. with_none (sessions_from (length t) 41 figures t) }

module _ {t : List ℕ} {at count : ℕ} (p : Passed t at count) where
  some_left : at < length t → length (drop at t) ≡ 0 → ⊥
  some_left h e = omega (arith, length-drop at t)

  pub passed_inside : is_session (drop at t) ≡ true → at + 75 ≤ length t
  passed_inside s = omega (arith, p.inside, session_length (drop at t) s, length-drop at t)

  pub passed_row : at < length t → is_session (drop at t) ≡ true → Passed t (at + 75) (count + 1)
  passed_row h s =
      record {
        place = omega (arith, p.place);
        inside = passed_inside s;
        same = λ figures. p.same figures
            ∙ ap (with_digest (digests_in count t)) (sessions_turn (count + 41) figures (drop at t) (some_left h) s)
            ∙ with_with (digests_in count t) (digest_in (drop at t)) (sessions_at (suc (count + 41)) figures (drop 75 (drop at t)))
            ∙ rw (← digests_after_lem count t at p.place, drop-drop 75 at t, next);
      }
    where
      next : suc (count + 41) ≡ count + 1 + 41
      next = omega arith

  pub passed_wrong : at < length t → is_session (drop at t) ≡ false → (figures : List ℕ) → sessions_from (length t) 41 figures t ≡ wrong (count + 41)
  passed_wrong h s figures = p.same figures ∙ rw (sessions_stop (count + 41) figures (drop at t) (some_left h) s)

  pub sessions_told : length t ≤ at → SessionsTaken t count
  sessions_told h =
      record {
        inside = omega (arith, p.place, p.inside);
        same = λ figures. p.same figures
            ∙ rw (drop_of_length-le t h, sessions_over (count + 41) figures) (ap (table figures) (append-nil (digests_in count t)));
      }

-- ---- what is told

pub turned_start : (t : List ℕ) → 19 ≤ length t → Turned t (replicate 39 0) 19 0
turned_start t h = rw blank_is (turned_none t h)

module _ {t figures : List ℕ} {at p : ℕ} (u : Turned t figures at p) where
  pub rows_told_wrong : p < 39 → None ≡ row_in p (drop at t) → figures_from 39 0 (replicate 39 0) (drop 19 t) ≡ wrong (p + 2)
  rows_told_wrong h e = rw blank_is (turned_wrong u h e)

  pub rows_told : 39 ≤ p → RowsTaken t (record { at = at; figures = figures })
  rows_told h = record { inside = u.inside; same = rw blank_is (turned_all u h) }

-- ---- the whole text

module _ (t : List ℕ) (e : begins head t ≡ true) where
  pub head_length : 19 ≤ length t
  head_length = begins_length head t e

  pub judges_rows : (line : ℕ) → figures_from 39 0 (replicate 39 0) (drop 19 t) ≡ wrong line → reading t ≡ wrong line
  judges_rows line k = head_more t e ∙ rw (← blank_is) k

  module _ {rows : Rows} (k : RowsTaken t rows) where
    after_rows : reading t ≡ sessions_from (length (drop rows.at t)) 41 rows.figures (drop rows.at t)
    after_rows = head_more t e ∙ rw (← blank_is) k.same

    pub judges_sessions : (line : ℕ) → ((figures : List ℕ) → sessions_from (length (drop rows.at t)) 41 figures (drop rows.at t) ≡ wrong line) → reading t ≡ wrong line
    judges_sessions line s = after_rows ∙ s rows.figures

    pub judges_table : (sessions : ℕ) → SessionsTaken (drop rows.at t) sessions → TableTaken t (record { rows = rows; sessions = sessions })
    judges_table sessions s = record { inside = omega (arith, k.inside, s.inside, length-drop rows.at t); same = after_rows ∙ s.same rows.figures }
