-- Laws of judging a dump structure.
use mathlib.Core.Path.{◌≡◌, refl, ap, ◌∙◌}
use mathlib.Core.Bool.{Bool, true, false, ◌&&◌}
use mathlib.Core.List.{List}
use Prim.Native.Nat.{ℕ, zero, suc, ◌+◌, ◌*◌, ◌<◌, ◌≤◌}
use native.Mathlib.Omega.{arith}
use lib.Dec.{leb, eqb}
use lib.ListN.{length}
use Rattle.std.specs.List.{list_all, range_with_len}
use borrow.Author.Tests.{leb-true}
use Rattle.words.proofs.Choice.{decide, and_left, and_right}
use Rattle.dump.specs.Structure.{header_size, section_size, section_limit, version, sections, status_flags, first_section, sections_end, good_header, each_section, good_structure}

-- ---- sections one after the other

-- so many from number a on, by their numbers
each_from : (test : ℕ → Bool) (at a n : ℕ) → list_all (λ k. test (at + section_size * k)) (range_with_len a n) ≡ each_section test n (at + section_size * a)
unfolding each_section
each_from test at a zero = refl
each_from test at a (suc n) =
    let next : at + section_size * (a + 1) ≡ at + section_size * a + section_size = omega arith in
    ap (λ (b : Bool). test (at + section_size * a) && b) (each_from test at (a + 1) n ∙ ap (each_section test n) next)

pub each_numbered : (test : ℕ → Bool) (at n : ℕ) → list_all (λ k. test (at + section_size * k)) (range_with_len 0 n) ≡ each_section test n at
each_numbered test at n = let start : at + section_size * 0 ≡ at = omega arith in each_from test at 0 n ∙ ap (each_section test n) start

-- ---- the header

-- where the sections of a good header stand
pub header_bounds : (s : List ℕ) → good_header s ≡ true → (header_size ≤ first_section s) × (sections_end s ≤ length s)
unfolding good_header
header_bounds s h =
    let both : (leb header_size (first_section s) && leb (sections_end s) (length s)) ≡ true = and_right (eqb (status_flags s) 0) _ (and_right (leb (sections s) section_limit) _ (and_right (leb 1 (sections s)) _ (and_right (eqb (version s) 1) _ h))) in
    (leb-true _ _ (and_left _ _ both), leb-true _ _ (and_right (leb header_size (first_section s)) _ both))

-- without a header there is no room for sections behind the header
pub short_structure : (s : List ℕ) → length s < header_size → good_structure s ≡ false
unfolding good_structure
short_structure s h = decide (good_header s) (λ e. absurd (omega (arith, header_bounds s e))) (λ e. rw e)
