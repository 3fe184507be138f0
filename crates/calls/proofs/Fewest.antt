-- Laws of cuttings: one that is not ahead of a place is not ahead of the longest run from there on; and what it costs to cut a run short.
use mathlib.Core.Path.{◌≡◌, refl, ap, ◌∙◌, sym}
use mathlib.Core.List.{List, [], ◌∷◌, append-nil}
use Prim.Native.Nat.{ℕ, zero, suc, ◌+◌, ◌-◌, ◌≤◌, ◌<◌}
use native.Mathlib.Omega.{arith}
use native.Mathlib.Nat.{lt_of_not-le}
use native.Mathlib.Numerals.{add-one}
use borrow.Author.Tests.{leb-true}
use lib.ListN.{length, take, drop, length-append, length-drop, length-replicate}
use lib.Seq.{take_all, take-nil, drop-nil, take-append-le, drop-append-le, drop-append-add}
use Rattle.journal.specs.declared.operation.Operation.{Operation}
use Rattle.journal.specs.declared.operation.Operation.TheVariants.{Delete, Update, Add}
use Rattle.journal.specs.Reportable.{operand_words}
use Rattle.nodes.specs.Run.{area_words, present, cost, run}
use Rattle.nodes.proofs.Runs.{length_le_operand_words, cost_take, cost_drop, longest_run}
use Rattle.calls.specs.Claims.Fewest.{AllHeld, joined_runs, Cutting, areas_of, deletes, FewestWitness}

-- ---- where the first n runs end

abbrev pub end_of : ℕ → List (List Operation) → ℕ
end_of n runs = length (joined_runs (take n runs))

end_of_within : (n : ℕ) (runs : List (List Operation)) → end_of n runs ≤ length (joined_runs runs)
unfolding joined_runs
end_of_within zero runs = omega arith
end_of_within (suc n) [] = omega arith
end_of_within (suc n) (r ∷ rs) = simp length-append (omega (arith, end_of_within n rs))

cost_none : cost [] ≡ 0
unfolding cost present operand_words
cost_none = refl

-- What stands from a place on that the first a runs do not pass, up to the end of the next run, is a part of that run: it fits an area.
part_fits : (a k n : ℕ) (runs : List (List Operation)) → AllHeld runs → end_of a runs ≤ k → k + n ≤ end_of (suc a) runs → cost (take n (drop k (joined_runs runs))) ≤ area_words
unfolding joined_runs
part_fits a k n [] h p q = simp (drop-nil, take-nil, cost_none) (omega arith)
part_fits zero k n (r ∷ rs) h p q =
    let inside : k + n ≤ length r = omega (arith, ap length (append-nil r)) in
    let here : k ≤ length r = omega arith in
    let short : n ≤ length (drop k r) = omega (arith, length-drop k r) in
    rw (drop-append-le k r (joined_runs rs), take-append-le n (drop k r) (joined_runs rs)) (omega (arith, h.0, cost_take n (drop k r), cost_drop k r))
part_fits (suc a) k n (r ∷ rs) h p q =
    let m = k - length r in
    let before = length-append r (joined_runs (take a rs)) in
    let next = length-append r (joined_runs (take (suc a) rs)) in
    let far : length r + m ≡ k = omega arith in
    rw (← far, drop-append-add r (joined_runs rs) m) (part_fits a m n rs h.1 (omega arith) (omega arith))

-- a cutting has an area for each run, and one area at least
pub areas_least : (runs : List (List Operation)) → (1 ≤ areas_of runs) × (length runs ≤ areas_of runs)
unfolding areas_of
areas_least [] = omega arith
areas_least (r ∷ rs) = omega arith

-- ---- a cutting beside the longest runs

module _ (os : List Operation) (runs : List (List Operation)) (c : Cutting os runs) where
  -- its next run does not pass the longest one, since what would pass it fits too
  none_further : (a k : ℕ) → end_of a runs ≤ k → k + suc (length (run os k)) ≤ end_of (suc a) runs → ⊥
  none_further a k p q =
      let n = suc (length (run os k)) in
      let inside : n ≤ length (drop k os) = omega (arith, length-drop k os, end_of_within (suc a) runs, ap length c.joined) in
      omega (arith, (longest_run os k).no_longer n (omega arith) inside, rw c.joined at (part_fits a k n runs c.held p q))

  -- so one that is behind stays behind
  pub stays_behind : (a k : ℕ) → end_of a runs ≤ k → end_of (a + 1) runs ≤ k + length (run os k)
  stays_behind a k p = rw add-one (omega (arith, lt_of_not-le (none_further a k p)))

  -- and it has another area where it has not come to the end of the list
  pub another_area : (a : ℕ) → end_of a runs < length os → a + 1 ≤ areas_of runs
  another_area a p =
      let whole : length runs ≤ a → end_of a runs ≡ length os = λ q. ap (λ (rs : List (List Operation)). length (joined_runs rs)) (take_all a runs q) ∙ ap length c.joined in
      omega (arith, areas_least runs, lt_of_not-le (λ (q : length runs ≤ a). omega (arith, whole q)))

-- ---- the witness

-- a run that is not empty costs a word for each operation, and an operator
cost_least : (os : List Operation) → 0 < length os → length os + 1 ≤ cost os
unfolding cost present operand_words
cost_least [] h = absurd (omega arith)
cost_least (Delete p ∷ os) h = omega (arith, length_le_operand_words os)
cost_least (Update p ∷ os) h = omega (arith, length_le_operand_words os)
cost_least (Add p i ∷ os) h = omega (arith, length_le_operand_words os)

-- two runs are as long as the list
two_lengths : (os first second : List Operation) → joined_runs (first ∷ second ∷ []) ≡ os → length first + length second ≡ length os
unfolding joined_runs
two_lengths os first second e = sym (simp (length-append, append-nil)) ∙ ap length e

-- so a first run that is short leaves 1,019 operations or more to the second, and they cost 1,020 words or more
too_long : (first second : List Operation) → length first ≤ 1017 → Cutting (deletes 2036) (first ∷ second ∷ []) → ⊥
too_long first second h c =
    let rest : length first + length second ≡ 2036 = two_lengths (deletes 2036) first second c.joined ∙ length-replicate 2036 (Delete 42) in
    omega (arith, cost_least second (omega arith), c.held.1.0)

pub fewest_witness : FewestWitness
unfolding joined_runs areas_of cost present operand_words
fewest_witness =
    record {
      none = refl;
      two = refl;
      two_areas = record { joined = refl; held = (leb-true 4096 4096 refl, (leb-true 4096 4096 refl, tt)) };
      three_areas = record { joined = refl; held = (leb-true 4092 4096 refl, (leb-true 4096 4096 refl, (leb-true 28 4096 refl, tt))) };
      no_two = too_long;
    }
