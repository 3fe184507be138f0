-- A good dump structure exactly when: the test of each part, and what it tells.
use mathlib.Core.Path.{◌≡◌, refl, ap, ◌∙◌}
use mathlib.Core.Bool.{Bool, true, ◌&&◌, ◌||◌, cond}
use mathlib.Core.List.{List, ◌∷◌}
use mathlib.Core.Logic.{◌⊎◌, inl, inr, ⊎_elim, ⊎_map}
use Prim.Native.Nat.{ℕ, zero, suc, ◌+◌, ◌*◌, ◌<◌, ◌≤◌}
use native.Mathlib.Nat.{add-zero}
use native.Mathlib.Omega.{arith}
use lib.Dec.{leb, ltb, eqb}
use lib.ListN.{length, drop, length-drop, length-append}
use borrow.Author.Tests.{eqb-true, eqb-false}
use Rattle.words.specs.Numbers.{be}
use Rattle.words.specs.Nul.{until_nul}
use Rattle.words.specs.Claims.Exactly.{Exactly}
use Rattle.words.proofs.Choice.{decide}
use Rattle.words.proofs.Exactly.{equal, at_most, below, both, either}
use Rattle.words.proofs.Named.{until_stops, until_non_zero, until_split}
use Rattle.dump.proofs.Claims.{structure_cases}
use Rattle.dump.proofs.StructureLaws.{header_bounds, short_structure}
use Rattle.dump.specs.Structure.{good_header, each_section, good_type, good_section, requested, without_disk, path_end, good_path, good_structure}
use Rattle.dump.specs.Claims.Structure.{Section, NoDisk, Disk, StructureExactly}

-- ---- sections

-- each of so many sections from an offset on, by the test of one
module _ (test : ℕ → Bool) (P : ℕ → Type 0) (exactly : (at : ℕ) → Exactly (test at ≡ true) (P at)) where
  abbrev Each : ℕ → ℕ → Type 0
  Each n at = (k : ℕ) → k < n → P (at + 40 * k)

  next : (at k : ℕ) → at + 40 + 40 * k ≡ at + 40 * suc k
  next at k = omega arith

  one_more : (n at : ℕ) → P at × Each n (at + 40) → Each (suc n) at
  one_more n at h zero l = rw add-zero h.0
  one_more n at h (suc k) l = rw (next at k) at (h.1 k (omega arith))

  first_and_rest : (n at : ℕ) → Each (suc n) at → P at × Each n (at + 40)
  first_and_rest n at h = (rw add-zero at (h 0 (omega arith)), λ k l. rw (next at k) (h (suc k) (omega arith)))

  each : (n at : ℕ) → Exactly (each_section test n at ≡ true) (Each n at)
  unfolding each_section
  each zero at = (λ e k l. absurd (omega arith), λ h. refl)
  each (suc n) at = let tests = both (exactly at) (each n (at + 40)) in (λ e. one_more n at (tests.0 e), λ h. tests.1 (first_and_rest n at h))

-- one section
type : (t : ℕ) → Exactly (good_type t ≡ true) ((t ≡ 1) ⊎ ((t ≡ 2) ⊎ ((t ≡ 0x11) ⊎ ((t ≡ 0x12) ⊎ (0x100 ≤ t)))))
unfolding good_type
type t = either (equal t 1) (either (equal t 2) (either (equal t 0x11) (either (equal t 0x12) (at_most 0x100 t))))

module _ (s : List ℕ) where
  section : (at : ℕ) → Exactly (good_section s at ≡ true) (Section s at)
  unfolding good_section
  section at =
      let tests = both (at_most (be 4 s at) 1) (both (type (be 2 s (at + 4))) (both (equal (be 2 s (at + 6)) 0) (equal (be 8 s (at + 24)) 0))) in (
        λ e. let t = tests.0 e in record { request = t.0; type = t.1.0; errors = t.1.1.0; actual = t.1.1.1 },
        λ h. tests.1 (h.request, (h.type, (h.errors, h.actual))),
      )

  -- ---- the disk

  abbrev first : ℕ
  first = be 4 s 8

  abbrev count : ℕ
  count = be 2 s 4

  abbrev path : ℕ
  path = be 4 s 32

  -- without one
  no_disk : be 4 s 12 ≡ 0 → Exactly (without_disk s ≡ true) (NoDisk s first count)
  unfolding without_disk requested
  no_disk z =
      let flags = each (λ at. eqb (be 4 s at) 1) (λ at. be 4 s at ≡ 1) (λ at. equal (be 4 s at) 1) count first in
      let tests = both (equal (be 8 s 16) 0) (both (equal (be 8 s 24) 0) (both (equal path 0) flags)) in (
        λ e. let t = tests.0 e in record { block_size = z; first_block = t.0; blocks = t.1.0; path_offset_claim = t.1.1.0; requested = t.1.1.1 },
        λ h. tests.1 (h.first_block, (h.blocks, (h.path_offset_claim, h.requested))),
      )

  -- the path of one, which ends at this place
  tests_of_path : (end : ℕ) → Exactly
      ((leb 40 path && (ltb path end && (ltb end (length s) && (ltb end first || leb (first + 40 * count) path)))) ≡ true)
      ((40 ≤ path) × ((path < end) × ((end < length s) × ((end < first) ⊎ (first + 40 * count ≤ path)))))
  tests_of_path end =
      both (at_most 40 path) (both (below path end) (both (below end (length s)) (either (below end first) (at_most (first + 40 * count) path))))

  with_path : (be 4 s 12 ≡ 0 → ⊥) → good_path s ≡ true → Disk s first count (until_nul (drop path s)) (drop (length (until_nul (drop path s)) + 1) (drop path s))
  unfolding good_path
  with_path n e =
      let t = (tests_of_path (path_end s)).0 e in
      let size = length-drop path s in
      record {
        block_size = n;
        from = t.0;
        some = omega (arith, t.1.0);
        non_zero = until_non_zero (drop path s);
        ended = until_split (drop path s) (omega (arith, t.1.1.0));
        apart = ⊎_map (λ h. omega arith) (λ h. h) t.1.1.1;
      }

  path_good : (name rest : List ℕ) → Disk s first count name rest → good_path s ≡ true
  unfolding good_path
  path_good name rest d =
      let found : until_nul (drop path s) ≡ name = ap until_nul d.ended ∙ until_stops name rest d.non_zero in
      let size : length (drop path s) ≡ length name + suc (length rest) = ap length d.ended ∙ length-append name (0 ∷ rest) in
      let inside = length-drop path s in
      rw found ((tests_of_path (path + length name)).1 (d.from, (omega (arith, d.some), (omega arith, ⊎_map (λ h. omega arith) (λ h. h) d.apart))))

  -- either, by the block size
  abbrev OnDisk : Type 0
  OnDisk = (name : List ℕ) × ((rest : List ℕ) × Disk s first count name rest)

  disk : Exactly (cond (eqb (be 4 s 12) 0) (without_disk s) (good_path s) ≡ true) (NoDisk s first count ⊎ OnDisk)
  disk = decide (eqb (be 4 s 12) 0)
      (λ t. let z = eqb-true (be 4 s 12) 0 t in rw t (λ e. inl ((no_disk z).0 e), ⊎_elim (no_disk z).1 (λ (d : OnDisk). absurd (d.1.1.block_size z))))
      (λ t.
      let n = eqb-false (be 4 s 12) 0 t in
      rw t (λ e. inr (_, (_, with_path n e)), ⊎_elim (λ (d : NoDisk s first count). absurd (n d.block_size)) (λ (d : OnDisk). path_good _ _ d.1.1)))

-- ---- the whole

pub structure_exactly : StructureExactly
unfolding good_structure good_header
structure_exactly s =
    let first = be 4 s 8 in
    let count = be 2 s 4 in
    let place = both (at_most 40 first) (at_most (first + 40 * count) (length s)) in
    let header = both (equal (be 4 s 0) 1) (both (at_most 1 count) (both (at_most count 10) (both (equal (be 2 s 6) 0) place))) in
    let tests = both header (both (each (good_section s) (Section s) (section s) count first) (disk s)) in (
      λ e.
          let t = tests.0 e in
          let h = t.0 in
          record {
            version = h.0;
            some = h.1.0;
            few = h.1.1.0;
            status_flags_claim = h.1.1.1.0;
            from = h.1.1.1.1.0;
            end = h.1.1.1.1.1;
            sections = t.1.0;
            disk = t.1.1;
          },
      λ h. tests.1 ((h.version, (h.some, (h.few, (h.status_flags_claim, (h.from, h.end))))), (h.sections, h.disk)),
    )

-- what `is_structure` needs: its claims, and the laws of the parts
pub ruleset of_structures = (structure_cases, structure_exactly, short_structure, header_bounds)
