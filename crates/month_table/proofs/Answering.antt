-- What writing answers, in each case.
use mathlib.Core.Path.{◌≡◌}
use Prim.Native.Nat.{ℕ, ◌%◌, ◌≤◌, ◌<◌, min}
use mathlib.Core.List.{List}
use lib.ListN.{length}
use lib.Seq.{sets}
use borrow.Author.Tests.{eq-eqb, ne_eqb, lt-ltb, le-ltb, le-leb, lt-leb}
use Rattle.month_table.specs.Table.{text}
use Rattle.month_table.specs.Writing.{answer, written_to, buffer_after}

module _ (figures ds : List ℕ) where
  module _ (odd : length ds % 32 ≡ 0 → ⊥) where
    pub odd_answer : (room : ℕ) → answer 62 0 ≡ written_to figures ds room
    unfolding written_to
    odd_answer room = rw (ne_eqb (length ds % 32) 0 odd)

    pub odd_buffer : (out : List ℕ) → out ≡ buffer_after figures ds out
    unfolding buffer_after
    odd_buffer out = rw (ne_eqb (length ds % 32) 0 odd)

  module _ (whole : length ds % 32 ≡ 0) where
    pub short_answer : (room n : ℕ) → room < length (text figures ds) → n ≡ min (length (text figures ds)) 0xffff_ffff_ffff_ffff → answer 60 n ≡ written_to figures ds room
    unfolding written_to
    short_answer room n h e = rw (eq-eqb (length ds % 32) 0 whole, lt-ltb room (length (text figures ds)) h, e)

    pub short_buffer : (out : List ℕ) → length out < length (text figures ds) → out ≡ buffer_after figures ds out
    unfolding buffer_after
    short_buffer out h = rw (eq-eqb (length ds % 32) 0 whole, lt-leb (length (text figures ds)) (length out) h)

    pub written_answer : (room n : ℕ) → length (text figures ds) ≤ room → n ≡ length (text figures ds) → answer 0 n ≡ written_to figures ds room
    unfolding written_to
    written_answer room n h e = rw (eq-eqb (length ds % 32) 0 whole, le-ltb room (length (text figures ds)) h, e)

    pub written_buffer : (out : List ℕ) → length (text figures ds) ≤ length out → sets out 0 (text figures ds) ≡ buffer_after figures ds out
    unfolding buffer_after
    written_buffer out h = rw (eq-eqb (length ds % 32) 0 whole, le-leb (length (text figures ds)) (length out) h)
