-- The claims about the answers hold.
use mathlib.Core.Path.{◌≡◌, refl, sym, ap}
use mathlib.Core.List.{List}
use Prim.Native.Nat.{ℕ, ◌+◌, ◌/◌, ◌%◌, ◌≤◌, ◌<◌, min}
use native.Mathlib.Omega.{arith}
use lib.Dec.{ltb, eqb}
use lib.ListN.{length, take, drop, get_or}
use lib.Seq.{sets, sets-eq, length-sets, take_at}
use borrow.Author.Tests.{eqb-true, eqb-false, lt-ltb, le-ltb, ltb-true, ltb-false}
use Rattle.words.specs.Numbers.{Bytes}
use Rattle.words.specs.Claims.Exactly.{Exactly}
use Rattle.words.proofs.Choice.{decide}
use Rattle.words.proofs.Stores.{sets_after}
use Rattle.month_table.specs.Table.{text}
use Rattle.month_table.specs.Reading.{Table, table, wrong, reading}
use Rattle.month_table.specs.Writing.{answer, written_to, buffer_after}
use Rattle.month_reading.specs.Answers.{no_table, read_of, digests_after}
use Rattle.month_reading.specs.Claims.Answers.{WritingExactly, TextOf, ReadingExactly, AnswerClaims}
use Rattle.month_table.specs.declared.writing.Written.{Written as Told}
use Rattle.month_table.proofs.Whole.{reads_back, no_other}
use Rattle.month_table.proofs.Claims.{table_claims}
use Rattle.month_table.proofs.Sizes.{length_text}
use Rattle.month_table.proofs.Answering.{odd_answer, odd_buffer, short_answer, short_buffer, written_answer, written_buffer}

-- ---- writing

-- the three answers, one of which each input has
module _ (figures ds : List ℕ) (room : ℕ) (P : Type 0) where
  cases : ((length ds % 32 ≡ 0 → ⊥) → written_to figures ds room ≡ answer 62 0 → P)
      → (length ds % 32 ≡ 0 → room < length (text figures ds) → written_to figures ds room ≡ answer 60 (min (length (text figures ds)) 0xffff_ffff_ffff_ffff) → P)
      → (length ds % 32 ≡ 0 → length (text figures ds) ≤ room → written_to figures ds room ≡ answer 0 (length (text figures ds)) → P)
      → P
  cases a b c = decide (eqb (length ds % 32) 0)
      (λ w. let whole = eqb-true (length ds % 32) 0 w in
      decide (ltb room (length (text figures ds)))
      (λ s. let h = ltb-true room (length (text figures ds)) s in b whole h (sym (short_answer figures ds whole room (min (length (text figures ds)) 0xffff_ffff_ffff_ffff) h refl)))
      (λ s. let h = ltb-false room (length (text figures ds)) s in c whole h (sym (written_answer figures ds whole room (length (text figures ds)) h refl))))
      (λ w. let odd = eqb-false (length ds % 32) 0 w in a odd (sym (odd_answer figures ds odd room)))

-- an answer that is given is no other
number_is : (w : Told) (n size : ℕ) → w ≡ answer n size → w.number ≡ n
number_is w n size e = ap (λ (x : Told). x.number) e

length_is : (w : Told) (n size : ℕ) → w ≡ answer n size → w.length ≡ size
length_is w n size e = ap (λ (x : Told). x.length) e

module _ (figures ds : List ℕ) (room : ℕ) where
  abbrev told : Told
  told = written_to figures ds room

  abbrev long : ℕ
  long = length (text figures ds)

  abbrev most : ℕ
  most = min (length (text figures ds)) 0xffff_ffff_ffff_ffff

  not_whole : Exactly (told.number ≡ 62) (length ds % 32 ≡ 0 → ⊥)
  not_whole = (
    λ n. cases figures ds room (length ds % 32 ≡ 0 → ⊥) (λ o e. o)
        (λ w h e. absurd (omega (arith, number_is told 60 most e))) (λ w h e. absurd (omega (arith, number_is told 0 long e))),
    λ o. number_is told 62 0 (sym (odd_answer figures ds o room)),
  )

  short : Exactly (told.number ≡ 60) ((length ds % 32 ≡ 0) × (room < long))
  short = (
    λ n. cases figures ds room ((length ds % 32 ≡ 0) × (room < long)) (λ o e. absurd (omega (arith, number_is told 62 0 e)))
        (λ w h e. (w, h)) (λ w h e. absurd (omega (arith, number_is told 0 long e))),
    λ h. number_is told 60 most (sym (short_answer figures ds h.0 room most h.1 refl)),
  )

  done : Exactly (told.number ≡ 0) ((length ds % 32 ≡ 0) × (long ≤ room))
  done = (
    λ n. cases figures ds room ((length ds % 32 ≡ 0) × (long ≤ room)) (λ o e. absurd (omega (arith, number_is told 62 0 e)))
        (λ w h e. absurd (omega (arith, number_is told 60 most e))) (λ w h e. (w, h)),
    λ h. number_is told 0 long (sym (written_answer figures ds h.0 room long h.1 refl)),
  )

  none_told : told.number ≡ 62 → told.length ≡ 0
  none_told n = length_is told 62 0 (sym (odd_answer figures ds (not_whole.0 n) room))

  needed : told.number ≡ 60 → told.length ≡ most
  needed n = length_is told 60 most (sym (short_answer figures ds (short.0 n).0 room most (short.0 n).1 refl))

  size : told.number ≡ 0 → told.length ≡ long
  size n = length_is told 0 long (sym (written_answer figures ds (done.0 n).0 room long (done.0 n).1 refl))

module _ (figures ds out : List ℕ) where
  stored : (written_to figures ds (length out)).number ≡ 0 → buffer_after figures ds out ≡ sets out 0 (text figures ds)
  stored n = let d = (done figures ds (length out)).0 n in sym (written_buffer figures ds d.0 out d.1)

  kept : ((written_to figures ds (length out)).number ≡ 0 → ⊥) → buffer_after figures ds out ≡ out
  kept n = cases figures ds (length out) (buffer_after figures ds out ≡ out)
      (λ o e. sym (odd_buffer figures ds o out))
      (λ w h e. sym (short_buffer figures ds w out h))
      (λ w h e. absurd (n (number_is (written_to figures ds (length out)) 0 (length (text figures ds)) e)))

  front : (written_to figures ds (length out)).number ≡ 0 → take (length (text figures ds)) (buffer_after figures ds out) ≡ text figures ds
  front n =
      let d = (done figures ds (length out)).0 n in
      rw (stored n, sets-eq (text figures ds) out 0 (omega arith))
      (take_at (text figures ds) (drop (0 + length (text figures ds)) out) (length (text figures ds)) refl)

  -- what holds of the buffer as it is, and of the stored text, holds of the buffer afterwards
  after : (P : List ℕ → Type 0) → P out → P (sets out 0 (text figures ds)) → P (buffer_after figures ds out)
  after P p q = decide (eqb (written_to figures ds (length out)).number 0)
      (λ t. rw (stored (eqb-true (written_to figures ds (length out)).number 0 t)) q)
      (λ t. rw (kept (eqb-false (written_to figures ds (length out)).number 0 t)) p)

writing_exactly : WritingExactly
writing_exactly =
    record {
      not_whole = not_whole;
      short = short;
      done = done;
      none_told = none_told;
      needed = needed;
      size = size;
      sizes = λ figures ds n h. let count : length ds / 32 ≡ n = omega arith in rw count at (length_text figures ds (omega arith));
      kept = kept;
      front = front;
      rest = λ figures ds out k h. after figures ds out (λ (l : List ℕ). get_or l k 0 ≡ get_or out k 0) refl (sets_after (text figures ds) out 0 k (omega arith));
      same_length = λ figures ds out. after figures ds out (λ (l : List ℕ). length l ≡ length out) refl (length-sets out 0 (text figures ds));
    }

-- ---- reading

module _ (figures ds : List ℕ) where
  read_done : (buffer : List ℕ) → length ds ≤ length buffer
      → (read_of (table figures ds) (length buffer) ≡ record { number = 0; line = 0; sessions = length ds / 32; table = record { figures = figures } })
      × (digests_after (table figures ds) buffer ≡ sets buffer 0 ds)
  unfolding read_of digests_after
  read_done buffer h = rw (le-ltb (length buffer) (length ds) h) (refl, refl)

  read_short : (buffer : List ℕ) → length buffer < length ds
      → (read_of (table figures ds) (length buffer) ≡ no_table 60 0 (length ds / 32)) × (digests_after (table figures ds) buffer ≡ buffer)
  unfolding read_of digests_after
  read_short buffer h = rw (lt-ltb (length buffer) (length ds) h) (refl, refl)

  read_figures : (room : ℕ) → (read_of (table figures ds) room).number ≡ 0 → (read_of (table figures ds) room).table.figures ≡ figures
  unfolding read_of
  read_figures room = decide (ltb room (length ds)) (λ t. rw t (λ n. absurd (omega arith))) (λ t. rw t (λ n. refl))

read_wrong : (line : ℕ) (buffer : List ℕ)
    → (read_of (wrong line) (length buffer) ≡ no_table 61 (read_of (wrong line) (length buffer)).line 0) × (digests_after (wrong line) buffer ≡ buffer)
unfolding read_of digests_after
read_wrong line buffer = (refl, refl)

wrong_is : (line : ℕ) (buffer : List ℕ)
    → ((read_of (wrong line) (length buffer)).number ≡ 61) × (digests_after (wrong line) buffer ≡ buffer)
unfolding read_of digests_after
wrong_is line buffer = (refl, refl)

wrong_number : (line room : ℕ) → (read_of (wrong line) room).number ≡ 0 → ⊥
unfolding read_of
wrong_number line room n = omega arith

wrong_line : (n room : ℕ) → read_of (wrong n) room ≡ no_table 61 n 0
unfolding read_of
wrong_line n room = refl

text_of : (t figures ds : List ℕ) → Bytes t → reading t ≡ table figures ds → TextOf t figures
text_of t figures ds bytes e = let n = no_other t figures ds bytes e in record { digests = ds; written = n.0; same = n.1 }

other_text : (t buffer : List ℕ) → Bytes t → ((figures : List ℕ) → TextOf t figures → ⊥) → (x : Table) → reading t ≡ x
    → (read_of x (length buffer) ≡ no_table 61 (read_of x (length buffer)).line 0) × (digests_after x buffer ≡ buffer)
other_text t buffer bytes none (table figures ds) e = absurd (none figures (text_of t figures ds bytes e))
other_text t buffer bytes none (wrong line) e = read_wrong line buffer

other_is : (t buffer : List ℕ) → Bytes t → ((figures : List ℕ) → TextOf t figures → ⊥) → (x : Table) → reading t ≡ x
    → ((read_of x (length buffer)).number ≡ 61) × (digests_after x buffer ≡ buffer)
other_is t buffer bytes none (table figures ds) e = absurd (none figures (text_of t figures ds bytes e))
other_is t buffer bytes none (wrong line) e = wrong_is line buffer

told_text : (t : List ℕ) (room : ℕ) → Bytes t → (x : Table) → reading t ≡ x → (read_of x room).number ≡ 0 → TextOf t (read_of x room).table.figures
told_text t room bytes (table figures ds) e n = rw (read_figures figures ds room n) (text_of t figures ds bytes e)
told_text t room bytes (wrong line) e n = absurd (wrong_number line room n)

reading_exactly : ReadingExactly
reading_exactly =
    record {
      done = λ figures ds buffer w h. rw (reads_back figures ds w) (read_done figures ds buffer h);
      short = λ figures ds buffer w h. rw (reads_back figures ds w) (read_short figures ds buffer h);
      short_in_full = λ figures ds buffer w h. rw (reads_back figures ds w) (read_short figures ds buffer h);
      other = λ t buffer bytes none. other_text t buffer bytes none (reading t) refl;
      other_number = λ t buffer bytes none. other_is t buffer bytes none (reading t) refl;
      line = λ t room n e. rw e (wrong_line n room);
      figures = λ t room bytes n. told_text t room bytes (reading t) refl n;
    }

pub answer_claims : AnswerClaims
answer_claims = record { tables = table_claims; writes = writing_exactly; reads = reading_exactly }
