-- Laws of the sections of a run, one after the other, in the terms of the structure as it was registered.
use mathlib.Core.Path.{◌≡◌, refl, sym, ap, ◌∙◌}
use mathlib.Core.Bool.{Bool, true, false, ◌||◌, not, or-true}
use mathlib.Core.List.{List}
use mathlib.Core.Logic.{inl, inr, ⊎_elim}
use Prim.Native.Nat.{ℕ, zero, suc, ◌+◌, ◌*◌, ◌^◌, ◌≤◌, ◌<◌}
use native.Mathlib.Nat.{add-zero, mod-eq_of_lt, eq-or-lt_of_le}
use native.Mathlib.Omega.{arith}
use lib.Dec.{eqb}
use lib.ListN.{length, get_or}
use lib.Seq.{sets, length-sets}
use borrow.Author.Tests.{ne_eqb}
use Rattle.words.specs.Claims.Exactly.{Outside}
use Rattle.words.specs.Numbers.{Bytes, be, be_bytes}
use Rattle.words.proofs.Numbers.{be_same, be_below, length_be_bytes}
use Rattle.words.proofs.Stores.{be_stored}
use Rattle.dump.specs.Structure.{section_size, first_section}
use Rattle.dumping.specs.declared.section.Section.{Section}
use Rattle.dumping.specs.Running.{section_at, errors_of, actual_of, memory_after, Running, section_run, sections_run}
use Rattle.dumping.specs.Claims.Run.{place, section_of, Copies}
use Rattle.dumping.proofs.OneSection.{beside, errors_most, actual_most, section_copies, errors_size, actual_size}

-- a byte beside a number that is stored
pub number_beside : (w v : ℕ) (l : List ℕ) (at i : ℕ) → Outside at w i → get_or (sets l at (be_bytes w v)) i 0 ≡ get_or l i 0
number_beside w v l at i = beside (be_bytes w v) l at w i (omega (arith, length_be_bytes w v))

-- a number whose bytes stay
pub same_number : (s t : List ℕ) (w p : ℕ) → ((i : ℕ) → p ≤ i → i < p + w → get_or s i 0 ≡ get_or t i 0) → be w s p ≡ be w t p
same_number s t w p h = be_same s t w p p (λ n l. h (p + n) (omega arith) (omega arith))

-- the last section of several
run_last : (platform : List ℕ) (n at : ℕ) (r : Running) → sections_run platform (suc n) at r ≡ section_run platform (at + section_size * n) (sections_run platform n at r)
unfolding sections_run
run_last platform zero at r = rw add-zero
run_last platform (suc n) at r =
    let e : at + section_size + section_size * n ≡ at + section_size * suc n = omega arith in
    run_last platform n (at + section_size) (section_run platform at r) ∙ rw e

module _ (platform memory copy : List ℕ) where
  -- what is told of section number k: memory keeps its size, so what it was at the beginning decides
  abbrev pub errors : ℕ → ℕ
  errors k = errors_of platform memory (section_of copy k)

  abbrev pub actual : ℕ → ℕ
  actual k = actual_of platform memory (section_of copy k)

  -- memory, the copy, and whether there was an error, after k sections
  unfoldable pub memories : ℕ → List ℕ
  memories zero = memory
  memories (suc k) = memory_after platform (memories k) (section_of copy k)

  unfoldable pub copies : ℕ → List ℕ
  copies zero = copy
  copies (suc k) = sets (sets (copies k) (place copy k + 6) (be_bytes 2 (errors k))) (place copy k + 24) (be_bytes 8 (actual k))

  pub failures : ℕ → Bool
  failures zero = false
  failures (suc k) = failures k || not (eqb (errors k) 0)

  -- ---- memory

  pub memories_size : (k : ℕ) → length (memories k) ≡ length memory
  unfolding memories memory_after
  memories_size zero = refl
  memories_size (suc k) = simp length-sets (memories_size k)

  pub each_copies : (k : ℕ) → Copies platform (memories k) (memories (suc k)) (section_of copy k) (actual k)
  unfolding memories
  each_copies k = rw (← (actual_size platform (memories k) memory (section_of copy k) (memories_size k))) (section_copies platform (memories k) (section_of copy k))

  -- a byte to which no section copies
  pub memories_kept : (n i : ℕ) → ((k : ℕ) → k < n → Outside (section_of copy k).destination (actual k) i) → get_or (memories n) i 0 ≡ get_or memory i 0
  unfolding memories
  memories_kept zero i o = refl
  memories_kept (suc n) i o = (each_copies n).others i (o n (omega arith)) ∙ memories_kept n i (λ k h. o k (omega arith))

  -- ---- the copy

  pub copies_size : (k : ℕ) → length (copies k) ≡ length copy
  unfolding copies
  copies_size zero = refl
  copies_size (suc k) = simp length-sets (copies_size k)

  -- a byte that section number k does not fill
  abbrev pub Unfilled : ℕ → ℕ → Type 0
  Unfilled k i = Outside (place copy k + 6) 2 i × Outside (place copy k + 24) 8 i

  copies_next : (k i : ℕ) → Unfilled k i → get_or (copies (suc k)) i 0 ≡ get_or (copies k) i 0
  unfolding copies
  copies_next k i h =
      number_beside 8 (actual k) (sets (copies k) (place copy k + 6) (be_bytes 2 (errors k))) (place copy k + 24) i h.1
      ∙ number_beside 2 (errors k) (copies k) (place copy k + 6) i h.0

  -- a byte that no section from number k on fills
  pub copies_kept : (k n i : ℕ) → k ≤ n → ((j : ℕ) → k ≤ j → j < n → Unfilled j i) → get_or (copies n) i 0 ≡ get_or (copies k) i 0
  copies_kept k zero i h b =
      let e : 0 ≡ k = omega arith in
      ap (λ (m : ℕ). get_or (copies m) i 0) e
  copies_kept k (suc n) i h b = ⊎_elim
      (λ (e : k ≡ suc n). ap (λ (m : ℕ). get_or (copies m) i 0) (sym e))
      (λ (l : k < suc n). copies_next n i (b n (omega arith) (omega arith)) ∙ copies_kept k n i (omega arith) (λ j u v. b j u (omega arith)))
      (eq-or-lt_of_le h)

  -- in its turn a section stands as it was registered
  registered : (k w p : ℕ) → place copy k ≤ p → be w (copies k) p ≡ be w copy p
  unfolding copies
  registered k w p h = same_number (copies k) copy w p (λ i l u. copies_kept 0 k i (omega arith) (λ j a b. (inr (omega arith), inr (omega arith))))

  section_registered : (k : ℕ) → section_at (copies k) (place copy k) ≡ section_of copy k
  section_registered k =
      let at = place copy k in
      λ i. record {
        request = registered k 4 at (omega arith) i;
        kind = registered k 2 (at + 4) (omega arith) i;
        start = registered k 8 (at + 8) (omega arith) i;
        requested = registered k 8 (at + 16) (omega arith) i;
        destination = registered k 8 (at + 32) (omega arith) i;
      }

  -- and what it filled in stays
  module _ (k n : ℕ) (h : k < n) (fits : first_section copy + section_size * n ≤ length copy) where
    abbrev at : ℕ
    at = place copy k

    abbrev half : List ℕ
    half = sets (copies k) (at + 6) (be_bytes 2 (errors k))

    stays : (w p : ℕ) → p + w ≤ at + section_size → be w (copies n) p ≡ be w (copies (suc k)) p
    stays w p e = same_number (copies n) (copies (suc k)) w p (λ i l u. copies_kept (suc k) n i h (λ j a b. (inl (omega arith), inl (omega arith))))

    pub errors_told : be 2 (copies n) (at + 6) ≡ errors k
    unfolding copies
    errors_told =
        stays 2 (at + 6) (omega arith)
        ∙ same_number (copies (suc k)) half 2 (at + 6) (λ i l u. number_beside 8 (actual k) half (at + 24) i (inl (omega arith)))
        ∙ be_stored (copies k) 2 (errors k) (at + 6) (omega (arith, copies_size k))
        ∙ mod-eq_of_lt (omega (arith, errors_most platform memory (section_of copy k)))

    pub actual_told : Bytes copy → be 8 (copies n) (at + 24) ≡ actual k
    unfolding copies
    actual_told bytes =
        let below : actual k < 256 ^ 8 = omega (arith, actual_most platform memory (section_of copy k), be_below copy bytes 8 (at + 16)) in
        stays 8 (at + 24) (omega arith)
        ∙ be_stored half 8 (actual k) (at + 24) (omega (arith, copies_size k, length-sets (copies k) (at + 6) (be_bytes 2 (errors k))))
        ∙ mod-eq_of_lt below

  -- ---- errors

  pub no_failure : (n : ℕ) → ((k : ℕ) → k < n → errors k ≡ 0) → failures n ≡ false
  unfolding failures
  no_failure zero h = refl
  no_failure (suc n) h = rw (no_failure n (λ k l. h k (omega arith)), h n (omega arith))

  pub failure : (n k : ℕ) → k < n → (errors k ≡ 0 → ⊥) → failures n ≡ true
  unfolding failures
  failure zero k h e = absurd (omega arith)
  failure (suc n) k h e = ⊎_elim
      (λ (q : suc k ≡ suc n). let s : n ≡ k = omega arith in rw (s, ne_eqb (errors k) 0 e, or-true))
      (λ (l : suc k < suc n). rw (failure n k (omega arith) e))
      (eq-or-lt_of_le h)

  -- ---- the run

  abbrev after : ℕ → Running
  after k = record { memory = memories k; copy = copies k; failed = failures k }

  -- a section run in its turn
  in_turn : (k : ℕ) → section_run platform (place copy k) (after k) ≡ after (suc k)
  unfolding section_run memories copies failures
  in_turn k =
      let ran : Section → Running = λ x. record {
        memory = memory_after platform (memories k) x;
        copy = sets (sets (copies k) (place copy k + 6) (be_bytes 2 (errors_of platform (memories k) x))) (place copy k + 24) (be_bytes 8 (actual_of platform (memories k) x));
        failed = failures k || not (eqb (errors_of platform (memories k) x) 0);
      } in
      let x = section_of copy k in
      let size = memories_size k in
      ap ran (section_registered k) ∙ rw (errors_size platform (memories k) memory x size, actual_size platform (memories k) memory x size)

  pub sections_ran : (k : ℕ) → sections_run platform k (first_section copy) (record { memory = memory; copy = copy; failed = false }) ≡ after k
  unfolding sections_run memories copies failures
  sections_ran zero = refl
  sections_ran (suc k) = run_last platform k (first_section copy) _ ∙ ap (section_run platform (place copy k)) (sections_ran k) ∙ in_turn k
