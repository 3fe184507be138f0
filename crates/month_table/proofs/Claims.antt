-- The claims about the text of a month's table hold.
use mathlib.Core.Path.{◌≡◌, refl, ap, ◌∙◌}
use mathlib.Core.Bool.{true}
use mathlib.Core.List.{List, ◌++◌}
use Prim.Native.Nat.{ℕ, suc, ◌+◌, ◌*◌, ◌≤◌, ◌<◌}
use native.Mathlib.Omega.{arith}
use lib.ListN.{length, drop, set}
use lib.Seq.{drop-append_seam}
use Rattle.words.specs.Claims.Exactly.{Exactly}
use Rattle.month_table.specs.Table.{head, status_word, last_word, label, place, row, rows_from, session_row, session_rows, text}
use Rattle.month_table.specs.Reading.{wrong, begins, count_in, digest_in, is_row, figures_from, is_session, with_digest, sessions_from}
use Rattle.month_table.specs.Claims.MonthTable.{TextExactly, HeadFront, RowFront, SessionFront, LinesExactly, TableClaims}
use Rattle.month_table.proofs.Rows.{row_back, count_back, count_small, row_split, rows_more, rows_wrong, rows_none}
use Rattle.month_table.proofs.Sessions.{session_back, session_split, digest_whole, digest_small, sessions_more, sessions_wrong}
use Rattle.month_table.proofs.Begins.{begins_front, begins_split}
use Rattle.month_table.proofs.Places.{label_at, place_at, place_all, place_last}
use Rattle.month_table.proofs.Whole.{head_more, head_wrong, reads_back, no_other, blank_is}

text_of : (figures digests : List ℕ) (n : ℕ) → length digests ≡ 32 * n → text figures digests ≡ head ++ (rows_from 39 0 figures ++ session_rows n digests)
unfolding text
text_of figures digests n h = ap (λ (m : ℕ). head ++ (rows_from 39 0 figures ++ session_rows m digests)) (omega arith)

text_exactly : TextExactly
unfolding rows_from row session_row session_rows status_word last_word label
text_exactly =
    record {
      whole = text_of;
      no_rows = λ p figures. refl;
      rows = λ n p figures. refl;
      labels = λ t h. (
        label_at (8 * t) t 0 h (omega arith) (omega arith),
        label_at (8 * t + 1) t 1 h (omega arith) refl,
        label_at (8 * t + 2) t 2 h (omega arith) refl,
        label_at (8 * t + 3) t 3 h (omega arith) refl,
        label_at (8 * t + 4) t 4 h (omega arith) refl,
        label_at (8 * t + 5) t 5 h (omega arith) refl,
        label_at (8 * t + 6) t 6 h (omega arith) refl,
        label_at (8 * t + 7) t 7 h (omega arith) refl,
      );
      last_labels = (refl, refl, refl, refl, refl, refl, refl);
      places = λ t s h l. (place_at t s h l, place_all t h);
      last_places = place_last;
      no_sessions = λ digests. refl;
      sessions = λ n digests. refl;
    }

-- ---- line by line

row_exactly : (p : ℕ) (t : List ℕ) → p < 39 → Exactly (is_row p t ≡ true) (RowFront p t)
unfolding row
row_exactly p t h = (
  λ e. record { count = count_in p t; rest = drop (length (row p (count_in p t))) t; small = count_small p t e; same = row_split p t e },
  λ f. rw f.same (row_back p f.count f.rest h f.small),
)

session_exactly : (t : List ℕ) → Exactly (is_session t ≡ true) (SessionFront t)
unfolding session_row
session_exactly t = (
  λ e. record { digest = digest_in t; rest = drop 75 t; whole = digest_whole t; bytes = digest_small t; same = session_split t e },
  λ f. rw f.same (session_back f.digest f.rest f.whole f.bytes),
)

later_wrong : (fuel n m : ℕ) (figures t : List ℕ) → 1 ≤ length t → is_session t ≡ true
    → sessions_from fuel (suc n) figures (drop 75 t) ≡ wrong m → sessions_from (suc fuel) n figures t ≡ wrong m
later_wrong fuel n m figures t some e w = sessions_more fuel n figures t (λ z. omega arith) e ∙ ap (with_digest (digest_in t)) w

head_exactly : (t : List ℕ) → Exactly (begins head t ≡ true) (HeadFront t)
head_exactly t = (λ e. record { rest = drop 19 t; same = begins_split head t e }, λ f. rw f.same (begins_front head f.rest))

next_row : (n p count : ℕ) (figures rest : List ℕ) → p < 39 → count < 0x1_0000_0000_0000_0000
    → figures_from (suc n) p figures (row p count ++ rest) ≡ figures_from n (suc p) (set figures (place p) count) rest
next_row n p count figures rest h small =
    rows_more n p figures (row p count ++ rest) (row_back p count rest h small)
    ∙ rw (count_back p count rest h small, drop-append_seam (row p count) rest)

lines_exactly : LinesExactly
unfolding row
lines_exactly =
    record {
      head = head_exactly;
      row = row_exactly;
      session = session_exactly;
      no_head = head_wrong;
      after_head = λ t e. rw blank_is (head_more t e);
      no_row = rows_wrong;
      after_row = next_row;
      after_rows = rows_none;
      no_session = λ fuel n figures t some e. sessions_wrong fuel n figures t (λ z. omega arith) e;
      after_session = later_wrong;
    }

pub table_claims : TableClaims
table_claims = record { reads_back = reads_back; no_other = no_other; exactly = text_exactly; lines = lines_exactly }
