-- The rows of the sessions, written and read.
use mathlib.Core.Path.{◌≡◌, refl, sym, ap, ◌∙◌}
use mathlib.Core.Bool.{true, false}
use mathlib.Core.List.{List, [], ◌∷◌, ◌++◌, append_assoc}
use Prim.Native.Nat.{ℕ, zero, suc, ◌+◌, ◌*◌, ◌/◌, ◌%◌, ◌≤◌}
use native.Mathlib.Omega.{arith}
use lib.Dec.{eqb}
use lib.ListN.{length, take, drop, length-append, length-drop, take-append-drop}
use lib.Seq.{length-take-le, drop_at, take_at, get_or-drop}
use borrow.Author.Tests.{ne_eqb, eqb-true, eqb-false}
use Rattle.words.specs.Numbers.{Bytes}
use Rattle.words.proofs.Choice.{decide}
use Rattle.printing.specs.Text.{each, hex_byte, hex_digits}
use Rattle.month_table.specs.Table.{session_row, session_rows}
use Rattle.month_table.specs.Reading.{Table, table, wrong, digest_in, is_session, with_digest, sessions_from}
use Rattle.month_table.proofs.Begins.{begins_front, begins_split}
use Rattle.month_table.proofs.Digits.{bytes_back, length_bytes_in, bytes_in_small}

length_each : (d : List ℕ) → length (each hex_byte d) ≡ 2 * length d
unfolding each hex_digits
length_each [] = refl
length_each (b ∷ bs) = omega (arith, length_each bs)

pub length_session : (d : List ℕ) → length d ≡ 32 → length (session_row d) ≡ 75
unfolding session_row
length_session d h = omega (arith, length-append (each hex_byte d) (44 ∷ 49 ∷ 10 ∷ []), length_each d)

pub length_sessions : (n : ℕ) (ds : List ℕ) → length ds ≡ 32 * n → length (session_rows n ds) ≡ 75 * n
unfolding session_rows
length_sessions zero ds h = refl
length_sessions (suc n) ds h =
    length-append (session_row (take 32 ds)) (session_rows n (drop 32 ds))
    ∙ omega (arith, length_session (take 32 ds) (length-take-le 32 ds (omega arith)), length_sessions n (drop 32 ds) (omega (arith, length-drop 32 ds)))

-- ---- a row that was written

digest_back : (d r : List ℕ) → length d ≡ 32 → Bytes d → digest_in (session_row d ++ r) ≡ d
unfolding digest_in session_row
digest_back d r h small = rw (append_assoc (each hex_byte d) (44 ∷ 49 ∷ 10 ∷ []) r, ← h) (bytes_back d ((44 ∷ 49 ∷ 10 ∷ []) ++ r) small)

pub session_back : (d r : List ℕ) → length d ≡ 32 → Bytes d → is_session (session_row d ++ r) ≡ true
unfolding is_session
session_back d r h small = rw (digest_back d r h small) (begins_front (session_row d) r)

-- ---- a row that is read

pub digest_whole : (t : List ℕ) → length (digest_in t) ≡ 32
unfolding digest_in
digest_whole t = length_bytes_in 32 (drop 8 t)

pub digest_small : (t : List ℕ) → Bytes (digest_in t)
unfolding digest_in
digest_small t = bytes_in_small 32 (drop 8 t)

pub session_split : (t : List ℕ) → is_session t ≡ true → t ≡ session_row (digest_in t) ++ drop 75 t
unfolding is_session
session_split t e = rw (length_session (digest_in t) (digest_whole t)) at (begins_split (session_row (digest_in t)) t e)

-- ---- one turn

pub sessions_none : (fuel n : ℕ) (figures : List ℕ) → sessions_from fuel n figures [] ≡ table figures []
unfolding sessions_from
sessions_none zero n figures = refl
sessions_none (suc fuel) n figures = refl

module _ (fuel n : ℕ) (figures t : List ℕ) (some : length t ≡ 0 → ⊥) where
  pub sessions_more : is_session t ≡ true → sessions_from (suc fuel) n figures t ≡ with_digest (digest_in t) (sessions_from fuel (suc n) figures (drop 75 t))
  unfolding sessions_from
  sessions_more e = rw (ne_eqb (length t) 0 some, e)

  pub sessions_wrong : is_session t ≡ false → sessions_from (suc fuel) n figures t ≡ wrong n
  unfolding sessions_from
  sessions_wrong e = rw (ne_eqb (length t) 0 some, e)

-- ---- what was written reads back

pub empty : (l : List ℕ) → length l ≡ 0 → l ≡ []
empty [] h = refl
empty (x ∷ xs) h = absurd (omega arith)

bytes_take : (n : ℕ) (l : List ℕ) → Bytes l → Bytes (take n l)
bytes_take zero l h i = omega arith
bytes_take (suc n) [] h i = omega arith
bytes_take (suc n) (x ∷ xs) h zero = h 0
bytes_take (suc n) (x ∷ xs) h (suc i) = bytes_take n xs (λ k. h (suc k)) i

bytes_drop : (n : ℕ) (l : List ℕ) → Bytes l → Bytes (drop n l)
bytes_drop n l h i = rw get_or-drop (h (n + i))

pub sessions_back : (n fuel k : ℕ) (figures ds : List ℕ) → length ds ≡ 32 * n → Bytes ds → n ≤ fuel
    → sessions_from fuel k figures (session_rows n ds) ≡ table figures ds
unfolding session_rows
sessions_back zero fuel k figures ds h small room = rw (empty ds (omega arith)) (sessions_none fuel k figures)
sessions_back (suc n) zero k figures ds h small room = absurd (omega arith)
sessions_back (suc n) (suc fuel) k figures ds h small room =
    let whole : length (take 32 ds) ≡ 32 = length-take-le 32 ds (omega arith) in
    let bytes : Bytes (take 32 ds) = bytes_take 32 ds small in
    let long = length_session (take 32 ds) whole in
    sessions_more fuel k figures (session_row (take 32 ds) ++ session_rows n (drop 32 ds))
    (λ e. omega (arith, length-append (session_row (take 32 ds)) (session_rows n (drop 32 ds))))
    (session_back (take 32 ds) (session_rows n (drop 32 ds)) whole bytes)
    ∙ rw (
      digest_back (take 32 ds) (session_rows n (drop 32 ds)) whole bytes,
      drop_at (session_row (take 32 ds)) (session_rows n (drop 32 ds)) 75 long,
      sessions_back n fuel (suc k) figures (drop 32 ds) (omega (arith, length-drop 32 ds)) (bytes_drop 32 ds small) (omega arith),
    )
    (ap (λ (l : List ℕ). table figures l) (take-append-drop 32 ds))

-- ---- no other text is taken

pub record Sessions (t ds : List ℕ) : Type 0 where
  pub whole : length ds % 32 ≡ 0
  pub bytes : Bytes ds
  pub rows : t ≡ session_rows (length ds / 32) ds

bytes_append : (s t : List ℕ) → Bytes s → Bytes t → Bytes (s ++ t)
bytes_append [] t h k i = k i
bytes_append (x ∷ xs) t h k zero = h 0
bytes_append (x ∷ xs) t h k (suc i) = bytes_append xs t (λ j. h (suc j)) k i

sessions_one : (t ds : List ℕ) → is_session t ≡ true → Sessions (drop 75 t) ds → Sessions t (digest_in t ++ ds)
unfolding session_rows
sessions_one t ds e s =
    let size : length (digest_in t ++ ds) ≡ 32 + length ds = length-append (digest_in t) ds ∙ rw (digest_whole t) in
    let count : length (digest_in t ++ ds) / 32 ≡ suc (length ds / 32) = omega arith in
    record {
      whole = omega (arith, s.whole);
      bytes = bytes_append (digest_in t) ds (digest_small t) s.bytes;
      rows = session_split t e ∙ rw (count, take_at (digest_in t) ds 32 (digest_whole t), drop_at (digest_in t) ds 32 (digest_whole t), ← s.rows);
    }

-- what a digest was put before
with_table : (d : List ℕ) (x : Table) (figures ds : List ℕ) → with_digest d x ≡ table figures ds → (P : Type 0)
    → ((es : List ℕ) → x ≡ table figures es → ds ≡ d ++ es → P) → P
with_table d (table f es) figures ds e P k = k es (cc) (cc)
with_table d (wrong n) figures ds e P k = let z : ◌≡◌ {A = ℕ} 0 1 = cc in absurd (omega arith)

pub record Told (figures t given ds : List ℕ) : Type 0 where
  pub same : given ≡ figures
  pub sessions : Sessions t ds

sessions_end : (t figures given ds : List ℕ) → length t ≡ 0 → table figures [] ≡ table given ds → Told figures t given ds
unfolding session_rows
sessions_end t figures given ds none e =
    let no : ds ≡ [] = cc in
    record { same = cc; sessions = rw (no, empty t none) (record { whole = refl; bytes = λ i. omega arith; rows = refl }) }

pub sessions_only : (fuel n : ℕ) (figures t given ds : List ℕ) → length t ≤ fuel → sessions_from fuel n figures t ≡ table given ds → Told figures t given ds
sessions_only zero n figures t given ds h e =
    sessions_end t figures given ds (omega arith) (sym (ap (sessions_from zero n figures) (empty t (omega arith)) ∙ sessions_none zero n figures) ∙ e)
sessions_only (suc fuel) n figures t given ds h e = decide (eqb (length t) 0)
    (λ z. let none = eqb-true (length t) 0 z in
    sessions_end t figures given ds none (sym (ap (sessions_from (suc fuel) n figures) (empty t none) ∙ sessions_none (suc fuel) n figures) ∙ e))
    (λ z. let some = eqb-false (length t) 0 z in
    decide (is_session t)
    (λ r. with_table (digest_in t) (sessions_from fuel (suc n) figures (drop 75 t)) given ds (sym (sessions_more fuel n figures t some r) ∙ e) (Told figures t given ds)
    (λ es q j. let told = sessions_only fuel (suc n) figures (drop 75 t) given es (omega (arith, length-drop 75 t)) q in
    record { same = told.same; sessions = rw j (sessions_one t es r told.sessions) }))
    (λ r. let z : ◌≡◌ {A = ℕ} 0 1 = cc (sessions_wrong fuel n figures t some r) in absurd (omega arith)))
