-- What reading answers, in each case.
use mathlib.Core.Path.{◌≡◌}
use mathlib.Core.List.{List}
use Prim.Native.Nat.{ℕ, ◌*◌, ◌/◌, ◌≤◌, ◌<◌}
use native.Mathlib.Omega.{arith}
use lib.ListN.{length, drop}
use lib.Seq.{sets}
use borrow.Author.Tests.{lt-ltb, le-ltb}
use Rattle.month_table.specs.Table.{label}
use Rattle.month_table.specs.Reading.{wrong, line, value_from, count_in, reading}
use Rattle.month_reading.specs.declared.judging.Judged.{Judged}
use Rattle.month_reading.specs.Answers.{no_table, read_of, digests_after}
use Rattle.month_reading.specs.Inner.Terms.{count_of, digests_in, TableTaken}
use Rattle.month_reading.proofs.Digests.{length_digests_in}

pub count_label : (p : ℕ) (t : List ℕ) (k : ℕ) → k ≡ length (label p) → count_of (value_from 0 (drop k (line t))) ≡ count_of (count_in p t)
unfolding count_in
count_label p t k e = rw e

module _ (t : List ℕ) (line : ℕ) (is_wrong : reading t ≡ wrong line) where
  pub wrong_answer : (room : ℕ) → no_table 61 line 0 ≡ read_of (reading t) room
  unfolding read_of
  wrong_answer room = rw is_wrong

  pub wrong_buffer : (l : List ℕ) → l ≡ digests_after (reading t) l
  unfolding digests_after
  wrong_buffer l = rw is_wrong

module _ {t : List ℕ} {r : Judged} (j : TableTaken t r) where
  abbrev digests : List ℕ
  digests = digests_in r.sessions (drop r.rows.at t)

  size : length digests ≡ 32 * r.sessions
  size = length_digests_in r.sessions (drop r.rows.at t)

  count : length digests / 32 ≡ r.sessions
  count = omega (arith, size)

  pub little_answer : (room : ℕ) → room / 32 < r.sessions → no_table 60 0 r.sessions ≡ read_of (reading t) room
  unfolding read_of
  little_answer room h = rw (j.same, lt-ltb room (length digests) (omega (arith, size)), count)

  pub little_buffer : (l : List ℕ) → length l / 32 < r.sessions → l ≡ digests_after (reading t) l
  unfolding digests_after
  little_buffer l h = rw (j.same, lt-ltb (length l) (length digests) (omega (arith, size)))

  pub read_answer : (room : ℕ) → r.sessions ≤ room / 32
      → record { number = 0; line = 0; sessions = r.sessions; table = record { figures = r.rows.figures } } ≡ read_of (reading t) room
  unfolding read_of
  read_answer room h = rw (j.same, le-ltb room (length digests) (omega (arith, size)), count)

  pub read_buffer : (l : List ℕ) → r.sessions ≤ length l / 32 → sets l 0 digests ≡ digests_after (reading t) l
  unfolding digests_after
  read_buffer l h = rw (j.same, le-ltb (length l) (length digests) (omega (arith, size)))
