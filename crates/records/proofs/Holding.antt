-- A held record and the burst, over any reader that stays stopped and any limit of what is due.
use mathlib.Core.Path.{◌≡◌, sym, ap, ◌∙◌}
use mathlib.Core.Bool.{Bool, true, false}
use mathlib.Core.List.{List, [], ◌++◌}
use Prim.Native.Nat.{ℕ, ◌+◌, ◌-◌, ◌<◌, ◌≤◌, min}
use native.Mathlib.Omega.{arith}
use lib.Dec.{leb}
use lib.ListN.{length, take, drop, length-append, length-drop, take-append-drop}
use lib.Seq.{take_all, drop-drop, drop-length, length-take-le}
use borrow.Author.Tests.{leb-true, leb-false}
use Rattle.words.proofs.Choice.{decide}
use Rattle.records.specs.Cutting.{due, ripe, Reader, Standing, start, fed, Sticky}
use Rattle.records.specs.Inner.Filling.{Filled}
use Rattle.records.proofs.Due.{due_least, due_front, due_take, short_raw}
use Rattle.records.proofs.Feeding.{fed_one, fed_first, fed_held, fed_stopped, fed_raw, fed_quiet}
use Rattle.records.proofs.Behind.{ripe_at, Ripe, ripe_is, ripe_not, front_due}

least_of : (a b n : ℕ) → n ≡ min a b → (n ≤ a) × (n ≤ b)
least_of a b n e = (omega arith, omega arith)

rest_of : (a b n : ℕ) → n ≡ min a b → n < a → n ≡ b
rest_of a b n e l = omega arith

module _ (good : ℕ → ℕ → Bool) where
  -- ---- a record that is there, in place

  module _ (b : List ℕ) (i n : ℕ) (r : Ripe good b i n) where
    part : take (i + n - i) (drop i b) ≡ take (due good (drop i b)) (drop i b)
    part = let k : i + n - i ≡ due good (drop i b) = omega (arith, r.is) in ap (λ (m : ℕ). take m (drop i b)) k

    enough : due good (drop i b) ≤ length (drop i b)
    enough = omega (arith, r.is, r.fits, length-drop i b)

    pub part_long : length (take (i + n - i) (drop i b)) ≡ due good (drop i b)
    part_long = ap (λ (l : List ℕ). length l) part ∙ length-take-le (due good (drop i b)) (drop i b) enough

    pub part_due : due good (take (i + n - i) (drop i b)) ≡ due good (drop i b)
    part_due = ap (due good) part ∙ due_take good (drop i b) enough

  -- ---- held bytes that make no record

  module _ (h bytes : List ℕ) where
    -- with a burst behind them more is due than is held
    pub under : ripe good h ≡ false → length h < due good (h ++ bytes)
    under raw = decide (leb 4 (length h))
        (λ e. omega (arith, due_front good h bytes (leb-true 4 (length h) e), short_raw good h raw))
        (λ e. omega (arith, due_least good (h ++ bytes), leb-false 4 (length h) e))

    module _ (k : ℕ) (m : k ≤ length bytes) (l : length h + k ≡ due good (h ++ bytes)) where
      long : length (h ++ take k bytes) ≡ due good (h ++ bytes)
      long = omega (arith, length-append h (take k bytes), length-take-le k bytes m)

      just : due good (h ++ take k bytes) ≡ length (h ++ take k bytes)
      just = front_due good h bytes k (omega (arith, long, due_least good (h ++ bytes))) ∙ sym long

      piece_due : (q : List ℕ) → q ≡ h ++ take k bytes → due good q ≡ length q
      piece_due q e = rw e just

  -- ---- a held record gathered out of the burst

  -- it has what is due to it, or all of the burst
  pub record Gathered (store : List ℕ) (had : ℕ) (bytes two : List ℕ) (k : ℕ) : Type 0 where
    pub some : had ≡ 0 → ⊥
    pub inside : had + k ≤ length two
    pub size : length two ≡ length store
    pub place : k ≤ length bytes
    pub within : had + k ≤ due good (take had store ++ bytes)
    pub all : had + k < due good (take had store ++ bytes) → k ≡ length bytes
    pub filled : Filled store had bytes 0 (due good (take had store ++ bytes)) two k

  -- no more is due than a limit
  abbrev pub Most : ℕ → Type 0
  Most limit = (r : List ℕ) → due good r ≤ limit

  module _ (limit : ℕ) (most : Most limit) where
    pub raw_small : (h : List ℕ) → ripe good h ≡ false → length h < limit
    raw_small h e = omega (arith, short_raw good h e, most h)

    pub gathered_of : (store : List ℕ) (had : ℕ) (bytes two : List ℕ) (k : ℕ) → limit ≤ length store → had ≤ length store → ripe good (take had store) ≡ false → (had ≡ 0 → ⊥) → length two ≡ length store
        → Filled store had bytes 0 (due good (take had store ++ bytes)) two k → Gathered store had bytes two k
    gathered_of store had bytes two k room inside raw z l f =
        let Due = due good (take had store ++ bytes) in
        let least = least_of (Due - had) (length bytes - 0) k f.amount in
        let less = under (take had store) bytes raw in
        let long = length-take-le had store inside in
        record {
          some = z;
          inside = omega (arith, least.0, less, long, most (take had store ++ bytes), room);
          size = l;
          place = omega (arith, least.1);
          within = omega (arith, least.0, less, long);
          all = λ q. omega (arith, rest_of (Due - had) (length bytes - 0) k f.amount (omega arith));
          filled = f;
        }

  module _ {store : List ℕ} {had : ℕ} {bytes two : List ℕ} {k : ℕ} (inside : had ≤ length store) (g : Gathered store had bytes two k)
      (n : ℕ) (e : n ≡ ripe_at good (take (had + k) two) (ripe good (take (had + k) two))) where
    abbrev Due : ℕ
    Due = due good (take had store ++ bytes)

    abbrev Record : List ℕ
    Record = take (had + k) two

    record_long : length Record ≡ had + k
    record_long = length-take-le (had + k) two g.inside

    held_long : length (take had store) ≡ had
    held_long = length-take-le had store inside

    -- all of it is there, or not
    sum : (n ≡ 0 → ⊥) → length (take had store) + k ≡ Due
    sum z =
        let r = ripe_is good Record 0 n (omega arith) e z in
        let l : 4 ≤ length (take had store ++ take k bytes) = rw (← g.filled.front) (omega (arith, r.some, r.fits)) in
        omega (arith, r.is, r.fits, record_long, held_long, g.within, ap (due good) g.filled.front, front_due good (take had store) bytes k l)

    cut_due : length (take had store) + k ≡ Due → due good Record ≡ length Record
    cut_due l = piece_due (take had store) bytes k g.place l Record g.filled.front

    less : n ≡ 0 → had + k < Due
    less z = decide (leb Due (had + k))
        (λ t. absurd (omega (arith, ripe_not good Record 0 n e z, cut_due (omega (arith, leb-true Due (had + k) t, g.within, held_long)))))
        (λ t. leb-false Due (had + k) t)

    -- where it is, the record has just what is due
    pub gathered_due : (n ≡ 0 → ⊥) → due good Record ≡ length Record
    gathered_due z = cut_due (sum z)

    pub gathered_four : (n ≡ 0 → ⊥) → 4 ≤ length Record
    gathered_four z = omega (arith, gathered_due z, due_least good Record)

-- ---- what the reader of bursts says of it

module _ {S : Type 0} where
  abbrev at : S → List ℕ → Standing S
  at s held = record { state = s; held = held }

module _ {S : Type 0} (R : Reader S) (sticky : Sticky R) where
  -- from a place of a burst on: nothing where the reader has stopped, one record and what is behind it, or what makes none
  pub part_over : (b : List ℕ) (i : ℕ) (s : S) → R.stopped s ≡ true → fed R (start s) (drop i b) ≡ at s (drop (length b) b)
  part_over b i s e = fed_stopped R sticky (start s) (drop i b) e ∙ rw (drop-length b)

  module _ (b : List ℕ) (i n : ℕ) where
    pub part_step : Ripe R.good b i n → (s u : S) → u ≡ R.step s (take (i + n - i) (drop i b)) → fed R (start s) (drop i b) ≡ fed R (start u) (drop (i + n) b)
    part_step r s u e =
        fed_first R sticky (drop i b) s (enough R.good b i n r)
        ∙ rw (← part R.good b i n r, ← e) (ap (fed R (start u)) (drop-drop (due R.good (drop i b)) i b ∙ ap (λ (m : ℕ). drop (i + m) b) r.is))

    pub part_held : n ≡ ripe_at R.good (drop i b) (ripe R.good (drop i b)) → n ≡ 0 → (s : S) → R.stopped s ≡ false → fed R (start s) (drop i b) ≡ at s (drop i b)
    part_held e z s g = fed_held R sticky s [] (drop i b) g (ripe_not R.good b i n e z)

  module _ (h bytes : List ℕ) (k : ℕ) (q : List ℕ) (e : q ≡ h ++ take k bytes) where
    held_all : (s : S) → R.stopped s ≡ false → k ≡ length bytes → length h + k < due R.good (h ++ bytes) → fed R (at s h) bytes ≡ at s q
    held_all s g m l =
        fed_held R sticky s h bytes g (omega (arith, length-append h bytes))
        ∙ ap (at s) (sym (e ∙ ap (λ (l : List ℕ). h ++ l) (take_all k bytes (omega arith))))

    held_done : k ≤ length bytes → length h + k ≡ due R.good (h ++ bytes) → (s u : S) → ripe R.good h ≡ false → u ≡ R.step s q → fed R (at s h) bytes ≡ fed R (start u) (drop k bytes)
    held_done m l s u raw f =
        ap (fed R (at s h)) (sym (take-append-drop k bytes))
        ∙ fed_one R sticky s h (take k bytes) (drop k bytes) (omega (arith, under R.good h bytes raw, length-take-le k bytes m)) (just R.good h bytes k m l)
        ∙ rw (f, e)

  module _ {store : List ℕ} {had : ℕ} {bytes two : List ℕ} {k : ℕ} (inside : had ≤ length store) (g : Gathered R.good store had bytes two k)
      (n : ℕ) (e : n ≡ ripe_at R.good (take (had + k) two) (ripe R.good (take (had + k) two))) (s : S) where
    -- the record is still held, with all of the burst,
    pub gathered_held : n ≡ 0 → R.stopped s ≡ false → fed R (at s (take had store)) bytes ≡ at s (take (had + k) two)
    gathered_held z on =
        let l = less R.good inside g n e z in
        held_all (take had store) bytes k (take (had + k) two) g.filled.front s on (g.all l) (omega (arith, length-take-le had store inside))

    -- or it is taken, and the burst goes on behind it
    pub gathered_done : (n ≡ 0 → ⊥) → ripe R.good (take had store) ≡ false → (u : S) → u ≡ R.step s (take (had + k) two)
        → fed R (at s (take had store)) bytes ≡ fed R (start u) (drop k bytes)
    gathered_done z raw u f = held_done (take had store) bytes k (take (had + k) two) g.filled.front g.place (sum R.good inside g n e z) s u raw f

-- ---- held bytes as a burst leaves them at the front of a buffer

module _ {S : Type 0} (R : Reader S) (w : Standing S) (bytes h : List ℕ) (e : h ≡ (fed R w bytes).held) where
  pub raw_then : ripe R.good w.held ≡ false → ripe R.good h ≡ false
  raw_then raw = ap (ripe R.good) e ∙ fed_raw R w bytes raw

  pub none_then : R.stopped (fed R w bytes).state ≡ true → length h ≡ 0
  none_then over = ap (λ (x : List ℕ). length x) (e ∙ fed_quiet R w bytes over)

  pub small_then : (limit : ℕ) → Most R.good limit → ripe R.good w.held ≡ false → length h < limit
  small_then limit most raw = raw_small R.good limit most h (raw_then raw)
