-- The bytes that a run takes, and that it is the longest that fits.
use mathlib.Core.Path.{◌≡◌, refl}
use mathlib.Core.List.{List, [], ◌∷◌, ◌++◌}
use Prim.Native.Nat.{ℕ, zero, suc, ◌+◌, ◌-◌, ◌≤◌, ◌<◌}
use native.Mathlib.Omega.{arith}
use lib.Dec.{leb}
use lib.ListN.{length, take, drop, replicate, length-append, length-replicate}
use borrow.Author.Tests.{leb-true, leb-false}
use Rattle.words.specs.Numbers.{be_bytes}
use Rattle.words.proofs.Choice.{choose}
use Rattle.words.proofs.Numbers.{length_be_bytes}
use Rattle.inventory.specs.Listing.{Entry}
use Rattle.indices.specs.Area.{filled, entry_size, code_field, entry_bytes, entries_bytes, fitting, run, answer}
use Rattle.indices.specs.Claims.Longest.{taken, LongestRun}
use Rattle.indices.specs.Claims.Indices.{Fits}
use Rattle.indices.proofs.Written.{fitting_front}

-- ---- what entries take

pub entry_length : (e : Entry) → length (entry_bytes e) ≡ entry_size (length e.code)
unfolding entry_bytes code_field
entry_length e =
    let n = filled (length e.code) in
    omega (arith, length-append (be_bytes 4 e.index) (be_bytes 4 n ++ code_field e.code), length-append (be_bytes 4 n) (code_field e.code), length-append e.code (replicate (n - length e.code) 0), length-replicate {A = ℕ} (n - length e.code) 0, length_be_bytes 4 e.index, length_be_bytes 4 n)

pub entries_length : (es : List Entry) → length (entries_bytes es) ≡ taken es
unfolding entries_bytes taken
entries_length [] = refl
entries_length (e ∷ es) = omega (arith, length-append (entry_bytes e) (entries_bytes es), entry_length e, entries_length es)

pub answer_length : (es : List Entry) → length (answer es) ≡ 4 + taken es
unfolding answer
answer_length es = omega (arith, length-append (be_bytes 4 (length es)) (entries_bytes es), length_be_bytes 4 (length es), entries_length es)

-- ---- the run

pub fitting_taken : (room : ℕ) (es : List Entry) → taken (fitting room es) ≤ room
unfolding fitting taken
fitting_taken room [] = omega arith
fitting_taken room (e ∷ es) =
    choose (leb (entry_size (length e.code)) room) (λ l. taken l ≤ room) {x = e ∷ fitting (room - entry_size (length e.code)) es} {y = []}
    (λ q. omega (arith, leb-true (entry_size (length e.code)) room q, fitting_taken (room - entry_size (length e.code)) es))
    (λ _. omega arith)

-- more of the first entries take more than there is room
fitting_most : (room : ℕ) (es : List Entry) (n : ℕ) → length (fitting room es) < n → n ≤ length es → room < taken (take n es)
unfolding fitting taken
fitting_most room [] n h l = absurd (omega arith)
fitting_most room (e ∷ es) zero h l = absurd (omega arith)
fitting_most room (e ∷ es) (suc n) h l =
    let size = entry_size (length e.code) in
    choose (leb size room) (λ l. length l < suc n → room < size + taken (take n es)) {x = e ∷ fitting (room - size) es} {y = []}
    (λ q p. omega (arith, leb-true size room q, fitting_most (room - size) es n (omega arith) (omega arith)))
    (λ q p. omega (arith, leb-false size room q))
    h

pub longest_run : LongestRun
unfolding run
longest_run size number es h =
    let rest : List Entry = drop (number - 1) es in
    record {
      first = fitting_front (size - 4) rest;
      fits = omega (arith, fitting_taken (size - 4) rest);
      no_longer = λ n p l. omega (arith, fitting_most (size - 4) rest n p l);
    }

pub fits : Fits
fits size number es h = rw answer_length (longest_run size number es h).fits
