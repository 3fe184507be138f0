-- Counts beside a state that is taken: the calls of all rows, and what the rules of counts give.
use mathlib.Core.Path.{◌≡◌, refl, sym}
use mathlib.Core.Bool.{Bool, true, ◌&&◌}
use mathlib.Core.List.{List, [], ◌∷◌}
use Prim.Native.Nat.{ℕ, zero, suc, ◌+◌, ◌*◌, ◌<◌, ◌≤◌, min}
use native.Mathlib.Nat.{zero-add}
use native.Mathlib.Omega.{arith}
use lib.Dec.{leb, eqb}
use lib.ListN.{length, get_or}
use borrow.Author.Tests.{leb-true, leb-false, le-leb, lt-leb, ne_eqb}
use Rattle.words.proofs.Choice.{decide, and_left, and_right}
use Rattle.crossing.specs.Registration.{registration_of}
use Rattle.crossing.specs.Record.{reading_of}
use Rattle.trace.specs.declared.report.Report.{Report}
use Rattle.trace.specs.declared.report.Report.TheVariants.{Agreed, Differs, Malformed}
use Rattle.trace.specs.Came.{calls_for, waits_in, report_came}
use Rattle.counting.specs.declared.counts.Counts.{Counts}
use Rattle.counting.specs.Counts.{no_counts}
use Rattle.counting.specs.CountsCame.{made_came, counts_came, counting_came}
use Rattle.counting.specs.Figures.{sum_of}
use Rattle.counting.specs.Claims.Terms.{Within}
use Rattle.counting.proofs.Summing.{sum_next}
use Rattle.replay_states.specs.declared.state.FlatReplay.{FlatReplay}
use Rattle.replay_states.specs.States.{report_of, replay_with, flat_replay_of, is_state, are_counts}
use Rattle.playing.specs.Played as played
use Rattle.replay.specs.declared.feeding.Replay.{Replay}
use Rattle.replay.specs.Claims.Feeding as replays
use Rattle.replay_states.proofs.States.{report_back, number_same, sized, calls_in_lem, few, short, counts, calls_low}

-- ---- sums of rows

-- each row is among the rows together
row_in : (i n : ℕ) (rows : List ℕ) → length rows ≤ n → get_or rows i 0 ≤ sum_of n rows
unfolding sum_of
row_in i n [] h = omega arith
row_in i zero (r ∷ rows) h = absurd (omega (arith, h))
row_in zero (suc n) (r ∷ rows) h = omega arith
row_in (suc i) (suc n) (r ∷ rows) h = omega (arith, row_in i n rows (omega (arith, h)))

sum_grows : (m n : ℕ) (rows : List ℕ) → m ≤ n → sum_of m rows ≤ sum_of n rows
unfolding sum_of
sum_grows zero n rows h = omega arith
sum_grows (suc m) zero rows h = absurd (omega (arith, h))
sum_grows (suc m) (suc n) [] h = omega arith
sum_grows (suc m) (suc n) (r ∷ rows) h = omega (arith, sum_grows m n rows (omega (arith, h)))

two_rows : (rows : List ℕ) → sum_of 2 rows ≡ get_or rows 0 0 + get_or rows 1 0
unfolding sum_of
two_rows [] = refl
two_rows (a ∷ []) = omega arith
two_rows (a ∷ b ∷ rows) = omega arith

-- ---- the calls of all rows, row by row

module _ (rows : List ℕ) (sum i : ℕ) (is : sum ≡ sum_of i rows) where
  pub one_row_more : sum + get_or rows i 0 ≡ sum_of (i + 1) rows
  one_row_more = omega (arith, is, rw (zero-add i) at (sum_next rows 0 i))

  -- there are more than fit
  pub too_many : i < 28 → 0x1_0000_0000 ≤ sum + get_or rows i 0 → 0x1_0000_0000 ≡ min (sum_of 28 rows) 0x1_0000_0000
  too_many low many = omega (arith, many, one_row_more, sum_grows (i + 1) 28 rows (omega (arith, low)))

  pub all_rows : i ≡ 28 → sum < 0x1_0000_0000 → sum ≡ min (sum_of 28 rows) 0x1_0000_0000
  all_rows e low = let all : sum ≡ sum_of 28 rows = rw e at is in omega (arith, all, low)

-- ---- whether so many calls can have been made

pub made_number : (v k number records w n : ℕ) → v ≤ 1 → leb n number ≡ made_came (report_of (record { verdict = v; offset = k; number = number })) records w n
unfolding report_of
made_number zero k number records w n h = refl
made_number (suc zero) k number records w n h = refl
made_number (suc (suc v)) k number records w n h = absurd (omega (arith, h))

pub made_records : (v k number records w n : ℕ) → 1 < v → leb (n + n + w) records ≡ made_came (report_of (record { verdict = v; offset = k; number = number })) records w n
unfolding report_of
made_records v k number records w n h = rw (ne_eqb v 0 (λ e. omega (arith, h, e)), ne_eqb v 1 (λ e. omega (arith, h, e)))

leb_same : (a b m : ℕ) → (b ≤ m → a ≤ m) → (m < b → m < a) → leb a m ≡ leb b m
leb_same a b m low high = decide (leb b m) (λ t. rw t (le-leb a m (low (leb-true b m t)))) (λ t. rw t (lt-leb a m (high (leb-false b m t))))

-- a state that is taken tells of fewer than 4,294,967,296 calls, so calls beyond that change nothing
module _ (records w : ℕ) where
  made_capped : (x : Report) (n : ℕ) → records ≤ 4_294_967_295 → calls_in_lem x ≤ records → made_came x records w (min n 0x1_0000_0000) ≡ made_came x records w n
  unfolding calls_in_lem
  made_capped (Agreed calls) n h l = leb_same (min n 0x1_0000_0000) n calls (λ m. omega (arith, m)) (λ m. omega (arith, h, l, m))
  made_capped (Differs call offset) n h l = leb_same (min n 0x1_0000_0000) n call (λ m. omega (arith, m)) (λ m. omega (arith, h, l, m))
  made_capped (Malformed number) n h l = leb_same (min n 4_294_967_296 + min n 4_294_967_296 + w) (n + n + w) records (λ m. omega (arith, m)) (λ m. omega (arith, h, m))

  made_few : (x : Report) (n : ℕ) → calls_in_lem x ≤ records → made_came x records w n ≡ true → n ≤ records
  unfolding calls_in_lem
  made_few (Agreed calls) n l e = omega (arith, l, leb-true n calls e)
  made_few (Differs call offset) n l e = omega (arith, l, leb-true n call e)
  made_few (Malformed number) n l e = omega (arith, leb-true (n + n + w) records e)

  made_none : (x : Report) (least : ℕ) → report_came x records w least ≡ true → made_came x records w 0 ≡ true
  made_none (Agreed calls) least e = le-leb 0 calls (omega arith)
  made_none (Differs call offset) least e = le-leb 0 call (omega arith)
  made_none (Malformed number) least e = le-leb (0 + 0 + w) records (omega (arith, leb-true (least + least + w) records (and_right (eqb (number + w) (records + 1)) _ e)))

-- ---- counts beside a state

abbrev pub made : FlatReplay → ℕ → Bool
made f n = made_came (report_of f.report) f.records (waits_in f.waiting) n

-- the tests of counts, one by one
pub counts_tests : (f : FlatReplay) (c : Counts) {a b d : Bool} → made f (sum_of 28 c.rows) ≡ a → leb c.operations c.used ≡ b
    → leb c.used (1019 * (get_or c.rows 0 0 + get_or c.rows 1 0)) ≡ d → (a && (b && d)) ≡ are_counts f c
unfolding are_counts counts_came
counts_tests f c m o u = rw (m, o, two_rows c.rows, u)

module _ (f : FlatReplay) (c : Counts) (is : is_state f ≡ true) where
  -- the calls of all rows can be told by as many as the code counts
  pub made-is : (n : ℕ) → n ≡ min (sum_of 28 c.rows) 0x1_0000_0000 → made f (sum_of 28 c.rows) ≡ made f n
  made-is n e = rw e (sym (made_capped f.records (waits_in f.waiting) (report_of f.report) (sum_of 28 c.rows) (few f is) (calls_low f is)))

  sum_low : made f (sum_of 28 c.rows) ≡ true → sum_of 28 c.rows ≤ f.records
  sum_low e = made_few f.records (waits_in f.waiting) (report_of f.report) (sum_of 28 c.rows) (calls_low f is) e

  -- the rows of answered update-nodes calls
  pub rows_low : made f (sum_of 28 c.rows) ≡ true → get_or c.rows 0 0 + get_or c.rows 1 0 ≤ 4_294_967_295
  rows_low e = omega (arith, sum_low e, few f is, two_rows c.rows, sum_grows 2 28 c.rows (omega arith))

-- Counts that have come beside a state are within its records: no row has more calls than records, and an answered call has at most 1,019 words.
pub counts_within_lem : (f : FlatReplay) (c : Counts) → is_state f ≡ true → length c.rows ≡ 28 → are_counts f c ≡ true → Within f.records c
unfolding are_counts counts_came
counts_within_lem f c is size e =
    let low = sum_low f c is (and_left _ _ e) in
    let rest = and_right (made f (sum_of 28 c.rows)) _ e in
    let handed = leb-true c.operations c.used (and_left _ _ rest) in
    let most = leb-true c.used (1019 * sum_of 2 c.rows) (and_right (leb c.operations c.used) _ rest) in
    let words : c.used ≤ 1019 * f.records = omega (arith, low, most, sum_grows 2 28 c.rows (omega arith)) in
    record {
      size = size;
      rows = λ i. omega (arith, low, row_in i 28 c.rows (omega (arith, size)));
      operations = omega (arith, handed, words);
      used = omega (arith, words);
    }

-- No call counted: that can have come beside every state.
pub no_counts_in : (f : FlatReplay) → is_state f ≡ true → are_counts f no_counts ≡ true
unfolding are_counts counts_came sum_of
no_counts_in f is = rw (made_none f.records (waits_in f.waiting) (report_of f.report) (calls_for (registration_of f.registration) (reading_of f.reading)) (counts f is))

-- ---- over the C boundary and back

pub came_in : (f : FlatReplay) (c : Counts) (args memory : List ℕ) → is_state f ≡ true → 4100 ≤ length args → are_counts f c ≡ true
    → counting_came (record { state = played.state_of args memory (replay_with f c).playing; counts = c }) ≡ true
unfolding are_counts
came_in f c args memory is room e = rw (sized f.waiting args (short f is) room) e

pub came_out : (held args memory : List ℕ) (r : Replay) → replays.Ready held args r → counting_came (record { state = played.state_of args memory r.playing; counts = r.counts }) ≡ true
    → are_counts (flat_replay_of r) r.counts ≡ true
unfolding are_counts
came_out held args memory r ready e =
    rw (report_back r.playing.report) (rw (number_same r.playing.waiting args ready.steady.room ready.steady.inside) at e)
