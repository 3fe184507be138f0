-- The whole text, written and read.
use mathlib.Core.Path.{◌≡◌, refl, sym, ap, ◌∙◌}
use mathlib.Core.Bool.{true, false}
use mathlib.Core.List.{List, ◌++◌}
use Prim.Native.Nat.{ℕ, zero, suc, ◌+◌, ◌*◌, ◌/◌, ◌<◌}
use native.Mathlib.Omega.{arith}
use lib.ListN.{length, drop, get_or, replicate}
use Rattle.words.proofs.Choice.{decide}
use Rattle.month_table.specs.Table.{head, rows_from, session_rows, text}
use Rattle.month_table.specs.Reading.{wrong, begins, figures_from, reading}
use Rattle.month_table.specs.Claims.MonthTable.{ReadsBack, NoOther}
use Rattle.month_table.proofs.Begins.{begins_front, begins_split}
use Rattle.month_table.proofs.Sessions.{length_sessions, sessions_back}
use Rattle.month_table.proofs.Rows.{Small, filled_all, rows_back, rows_only}

-- a table with no figure yet
pub blank : List ℕ
blank = replicate 39 0

pub blank_is : replicate 39 0 ≡ blank
unfolding blank
blank_is = refl

pub blank_many : length blank ≡ 39
unfolding blank
blank_many = refl

zero_small : (n i : ℕ) → get_or (replicate n 0) i 0 < 0x1_0000_0000_0000_0000
zero_small zero i = omega arith
zero_small (suc n) zero = omega arith
zero_small (suc n) (suc i) = zero_small n i

pub blank_small : Small blank
unfolding blank
blank_small i = zero_small 39 i

module _ (t : List ℕ) where
  pub head_more : begins head t ≡ true → reading t ≡ figures_from 39 0 blank (drop 19 t)
  unfolding reading blank
  head_more e = rw e

  pub head_wrong : begins head t ≡ false → reading t ≡ wrong 1
  unfolding reading
  head_wrong e = rw e

pub reads_back : ReadsBack
unfolding text
reads_back figures digests w =
    let whole : length digests ≡ 32 * (length digests / 32) = omega (arith, w.whole) in
    head_more (head ++ (rows_from 39 0 figures ++ session_rows (length digests / 32) digests)) (begins_front head (rows_from 39 0 figures ++ session_rows (length digests / 32) digests))
    ∙ rows_back 39 0 blank figures (session_rows (length digests / 32) digests) (omega arith) w.small
    ∙ rw (filled_all blank figures blank_many w.many)
    (sessions_back (length digests / 32) (length (session_rows (length digests / 32) digests)) (0 + 39 + 2) figures digests whole w.bytes
    (omega (arith, length_sessions (length digests / 32) digests whole)))

pub no_other : NoOther
unfolding text
no_other t figures digests bytes e = decide (begins head t)
    (λ h. let f = rows_only 39 0 blank (drop 19 t) figures digests (omega arith) blank_many blank_small (sym (head_more t h) ∙ e) in (
      record { many = f.many; small = f.small; whole = f.sessions.whole; bytes = f.sessions.bytes },
      begins_split head t h ∙ ap (λ (l : List ℕ). head ++ l) (f.rows ∙ ap (λ (l : List ℕ). rows_from 39 0 figures ++ l) f.sessions.rows),
    ))
    (λ h. let z : ◌≡◌ {A = ℕ} 0 1 = cc (head_wrong t h) in absurd (omega arith))
