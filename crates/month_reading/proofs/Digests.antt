-- Digests, byte by byte and row by row.
use mathlib.Core.Path.{◌≡◌, refl, sym, ap, ◌∙◌}
use mathlib.Core.Bool.{true, false}
use mathlib.Core.List.{List, [], ◌++◌, append-nil, append_assoc}
use Prim.Native.Nat.{ℕ, zero, suc, ◌+◌, ◌*◌, ◌%◌, ◌≤◌, ◌<◌}
use native.Mathlib.Numerals.{add-one}
use native.Mathlib.Omega.{arith}
use lib.Dec.{ltb}
use lib.ListN.{length, take, drop, get_or, set, length-append, length-set}
use lib.Seq.{take-suc, take_all, take-suc-set, get_or-drop, drop-drop, sets, length-sets}
use Rattle.words.proofs.Choice.{choose}
use Rattle.words.proofs.Stores.{sets_append}
use Rattle.month_table.specs.Table.{session_row}
use Rattle.month_table.specs.Reading.{digit_value, bytes_in, digest_in, is_session}
use Rattle.month_reading.specs.Inner.Terms.{digests_in}
use Rattle.month_reading.proofs.Searches.{begins_length, begins_short}
use Rattle.month_table.proofs.Sessions.{length_session, digest_whole}

-- ---- a digest

pub digit_small : (b : ℕ) → b < 256 → digit_value b < 256
unfolding digit_value
digit_small b h = choose (ltb b 58) (λ (v : ℕ). v < 256) (λ _. omega arith) (λ _. omega arith)

bytes_at : (n : ℕ) (s : List ℕ) (i : ℕ) → i < n → get_or (bytes_in n s) i 0 ≡ (16 * digit_value (get_or s (2 * i) 0) + digit_value (get_or s (2 * i + 1) 0)) % 256
unfolding bytes_in
bytes_at zero s i h = absurd (omega arith)
bytes_at (suc n) s zero h = refl
bytes_at (suc n) s (suc i) h =
    let first : 2 * suc i ≡ 2 + 2 * i = omega arith in
    let second : 2 * suc i + 1 ≡ 2 + (2 * i + 1) = omega arith in
    rw (second, first, ← get_or-drop 2 s (2 * i) 0, ← get_or-drop 2 s (2 * i + 1) 0) (bytes_at n (drop 2 s) i (omega arith))

digest_byte : (t : List ℕ) (i at : ℕ) → at ≡ 8 + 2 * i → i < 32 → get_or (digest_in t) i 0 ≡ (16 * digit_value (get_or t at 0) + digit_value (get_or t (at + 1) 0)) % 256
unfolding digest_in
digest_byte t i at e h =
    let second : 8 + 2 * i + 1 ≡ 8 + (2 * i + 1) = omega arith in
    rw (e, second, ← get_or-drop 8 t (2 * i) 0, ← get_or-drop 8 t (2 * i + 1) 0) (bytes_at 32 (drop 8 t) i h)

-- The first i bytes of the digest are made.
pub record Made (t d : List ℕ) (i : ℕ) : Type 0 where
  pub inside : i ≤ 32
  pub long : length d ≡ 32
  pub front : take i d ≡ take i (digest_in t)

module _ {t d : List ℕ} {i : ℕ} (m : Made t d i) where
  pub made_byte : (at v : ℕ) → at ≡ 8 + 2 * i → i < 32 → v ≡ (16 * digit_value (get_or t at 0) + digit_value (get_or t (at + 1) 0)) % 256 → Made t (set d i v) (i + 1)
  made_byte at v e h q =
      record {
        inside = omega arith;
        long = length-set d i v ∙ m.long;
        front =
            rw (add-one i, take-suc-set d i v (omega arith), take-suc (digest_in t) i 0 (omega (arith, digest_whole t)), m.front, q, digest_byte t i at e h);
      }

  pub made_all : 32 ≤ i → d ≡ digest_in t
  made_all h = sym (take_all i d (omega arith)) ∙ m.front ∙ take_all i (digest_in t) (omega (arith, digest_whole t))

-- ---- a session

pub not_session : (t : List ℕ) → length t < 75 → is_session t ≡ false
unfolding is_session
not_session t h = begins_short (session_row (digest_in t)) t (omega (arith, length_session (digest_in t) (digest_whole t)))

pub session_length : (t : List ℕ) → is_session t ≡ true → 75 ≤ length t
unfolding is_session
session_length t e = omega (arith, begins_length (session_row (digest_in t)) t e, length_session (digest_in t) (digest_whole t))

-- ---- digests of rows

pub length_digests_in : (n : ℕ) (t : List ℕ) → length (digests_in n t) ≡ 32 * n
unfolding digests_in
length_digests_in zero t = refl
length_digests_in (suc n) t = length-append (digest_in t) (digests_in n (drop 75 t)) ∙ omega (arith, digest_whole t, length_digests_in n (drop 75 t))

digests_more : (n : ℕ) (t : List ℕ) → digests_in (suc n) t ≡ digest_in t ++ digests_in n (drop 75 t)
unfolding digests_in
digests_more n t = refl

digests_none : (t : List ℕ) → digests_in 0 t ≡ []
unfolding digests_in
digests_none t = refl

-- one row more
pub digests_after_lem : (n : ℕ) (t : List ℕ) (at : ℕ) → at ≡ 75 * n → digests_in (n + 1) t ≡ digests_in n t ++ digest_in (drop at t)
digests_after_lem zero t at e =
    let here : at ≡ 0 = omega arith in
    rw (here, add-one 0, digests_more 0 t, digests_none t, digests_none (drop 75 t)) (append-nil (digest_in t))
digests_after_lem (suc n) t at e =
    let place : at ≡ 75 + 75 * n = omega arith in
    let more : digests_in (suc n) (drop 75 t) ≡ digests_in n (drop 75 t) ++ digest_in (drop at t) =
    rw (add-one n, drop-drop (75 * n) 75 t, ← place) at (digests_after_lem n (drop 75 t) (75 * n) refl) in
    rw (add-one (suc n), digests_more (suc n) t, digests_more n t)
    (ap (λ (l : List ℕ). digest_in t ++ l) more
    ∙ sym (append_assoc (digest_in t) (digests_in n (drop 75 t)) (digest_in (drop at t))))

-- The digests of k rows are stored.
pub record Stored (l m t : List ℕ) (k : ℕ) : Type 0 where
  pub same : m ≡ sets l 0 (digests_in k t)

module _ {l m t : List ℕ} {k : ℕ} (p : Stored l m t k) where
  pub stored_length : length m ≡ length l
  stored_length = rw p.same (length-sets l 0 (digests_in k t))

  pub stored_row : {n : List ℕ} → n ≡ sets m (32 * k) (digest_in (drop (75 * k) t)) → Stored l n t (k + 1)
  stored_row {n} q =
      let place : 32 * k ≡ 0 + length (digests_in k t) = omega (arith, length_digests_in k t) in
      record { same = q ∙ rw (p.same, place, digests_after_lem k t (75 * k) refl) (sym (sets_append l 0 (digests_in k t) (digest_in (drop (75 * k) t)))) }

  pub stored_fits : (count : ℕ) → k < count → 32 * count ≤ length l → 32 * k + length (digest_in (drop (75 * k) t)) ≤ length m
  stored_fits count h room = omega (arith, digest_whole (drop (75 * k) t), stored_length)

pub stored_none : (l t : List ℕ) → Stored l l t 0
stored_none l t = record { same = rw digests_none }
