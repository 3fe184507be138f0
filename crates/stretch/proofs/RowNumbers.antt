-- The rows as numbers: each has a row's sets as its digits in base 8.
use mathlib.Core.Path.{◌≡◌, refl, ap}
use mathlib.Core.Bool.{Bool, true, ◌&&◌}
use mathlib.Core.List.{[], ◌∷◌}
use Prim.Native.Nat.{ℕ, zero, suc, ◌+◌, ◌*◌, ◌-◌, ◌/◌, ◌%◌, ◌^◌, ◌<◌, ◌≤◌}
use native.Mathlib.Omega.{arith}
use lib.Dec.{eqb}
use lib.ListN.{get_or}
use borrow.Author.Tests.{eqb-true, eqb-false}
use Rattle.words.proofs.Choice.{decide, and_left, and_right}
use Rattle.journal.specs.Journal.{largest_type}
use Rattle.journal.specs.Scope.{rows}
use Rattle.journal.specs.Marks.{count_limit}
use Rattle.journal.specs.Terms.{IsKind, opcode_for}
use Rattle.journal.proofs.Opcodes.{kind_opcode}
use Rattle.scanning.specs.Inner.Terms.{weight_of}
use Rattle.scanning.proofs.Weighing.{weight_light}
use Rattle.scanning.proofs.WeightLaws.{weight_is}
use Rattle.stretch.specs.Inner.Terms.{bit_of}

-- ---- a test of every number up to one

abbrev every : (ℕ → Bool) → ℕ → Bool
every f zero = f 0
every f (suc n) = f (suc n) && every f n

every_at : (f : ℕ → Bool) (n : ℕ) → every f n ≡ true → (k : ℕ) → k ≤ n → f k ≡ true
every_at f zero e zero h = e
every_at f zero e (suc k) h = absurd (omega arith)
every_at f (suc n) e k h = decide (eqb k (suc n))
    (λ q. rw (eqb-true k (suc n) q) (and_left _ _ e))
    (λ q. let other = eqb-false k (suc n) q in every_at f n (and_right (f (suc n)) _ e) k (omega arith))

-- ---- the four numbers, tested bit by bit

abbrev pub row_number : ℕ → ℕ
row_number n = get_or (35_183_600_402_432 ∷ 35_184_277_529_744 ∷ 1024 ∷ 633_318_697_598_976 ∷ []) n 0

abbrev right : ℕ → ℕ → ℕ → Bool
right n node k = eqb (row_number n / 2 ^ (3 * node + k) % 2) (get_or (get_or rows n []) node 0 / 2 ^ k % 2)

all_right : every (λ n. every (λ node. every (λ k. right n node k) 2) largest_type) 3 ≡ true
unfolding rows
all_right = refl

bit_is : (n node k : ℕ) → n ≤ 3 → node ≤ largest_type → k ≤ 2 → row_number n / 2 ^ (3 * node + k) % 2 ≡ get_or (get_or rows n []) node 0 / 2 ^ k % 2
bit_is n node k p q r = eqb-true _ _ (every_at (right n node) 2 (every_at (λ m. every (right n m) 2) largest_type (every_at (λ m. every (λ node. every (right m node) 2) largest_type) 3 all_right n p) node q) k r)

-- what a kind and a node type weigh in a row, and that it is a number of 64 bits
module _ (n kind node : ℕ) where
  pub weight_in_row : n ≤ 3 → IsKind kind → node ≤ largest_type → count_limit ^ (opcode_for kind - 1) * bit_of (row_number n) node (opcode_for kind) ≡ weight_of (get_or rows n []) kind node
  weight_in_row p of q =
      let bit = bit_is n node (opcode_for kind - 1) p q (omega (arith, (kind_opcode kind of).high)) in
      weight_is (get_or (get_or rows n []) node 0) (opcode_for kind) _ (ap (λ (b : ℕ). count_limit ^ (opcode_for kind - 1) * b) bit)

  pub below : IsKind kind → weight_of (get_or rows n []) kind node < 0x1_0000_0000_0000_0000
  below of = omega (arith, (weight_light (get_or (get_or rows n []) node 0) (opcode_for kind) (kind_opcode kind of)).1)
