-- The three opcodes, sets of them, and the four kinds of records of nodes.
use mathlib.Core.Path.{◌≡◌, refl, sym, ◌∙◌}
use mathlib.Core.Bool.{cond}
use Prim.Native.Nat.{ℕ, zero, suc, ◌*◌, ◌-◌, ◌/◌, ◌%◌, ◌^◌, ◌<◌}
use native.Mathlib.Nat.{mul-zero, mul-one, one-mul}
use native.Mathlib.Omega.{arith}
use lib.Dec.{eqb}
use Rattle.journal.specs.Journal.{IsOpcode, number}
use Rattle.journal.specs.declared.operation.Opcode.{Opcode}
use Rattle.journal.specs.declared.operation.Opcode.TheVariants as codes
use Rattle.journal.specs.Terms.{IsKind, opcode_for}
use Rattle.journal.specs.Scope.{holds}

pub code_1 : IsOpcode 1
code_1 = record { low = omega arith; high = omega arith }

pub code_2 : IsOpcode 2
code_2 = record { low = omega arith; high = omega arith }

pub code_3 : IsOpcode 3
code_3 = record { low = omega arith; high = omega arith }

-- the number of an opcode is one of the three
pub number_is : (o : Opcode) → IsOpcode (number o)
number_is codes.Delete = code_1
number_is codes.Update = code_2
number_is codes.Add = code_3

-- and one that is no addition is not the third
pub not_third : (o : Opcode) → (o ≡ codes.Add → ⊥) → number o ≡ 3 → ⊥
not_third codes.Delete h e = omega arith
not_third codes.Update h e = omega arith
not_third codes.Add h e = h refl

-- a statement about every opcode
pub each-code : (P : ℕ → Type 0) → P 1 → P 2 → P 3 → (code : ℕ) → IsOpcode code → P code
each-code P x y z zero o = absurd (omega arith)
each-code P x y z (suc zero) o = x
each-code P x y z (suc (suc zero)) o = y
each-code P x y z (suc (suc (suc zero))) o = z
each-code P x y z (suc (suc (suc (suc k)))) o = absurd (omega arith)

pub kind_1 : IsKind 1
kind_1 = record { low = omega arith; high = omega arith }

pub kind_2 : IsKind 2
kind_2 = record { low = omega arith; high = omega arith }

pub kind_3 : IsKind 3
kind_3 = record { low = omega arith; high = omega arith }

pub kind_4 : IsKind 4
kind_4 = record { low = omega arith; high = omega arith }

-- a statement about every kind
pub each_kind : (P : ℕ → Type 0) → P 1 → P 2 → P 3 → P 4 → (kind : ℕ) → IsKind kind → P kind
each_kind P x y z w zero k = absurd (omega arith)
each_kind P x y z w (suc zero) k = x
each_kind P x y z w (suc (suc zero)) k = y
each_kind P x y z w (suc (suc (suc zero))) k = z
each_kind P x y z w (suc (suc (suc (suc zero)))) k = w
each_kind P x y z w (suc (suc (suc (suc (suc n))))) k = absurd (omega arith)

-- the opcode of a kind is one
pub kind_opcode : (kind : ℕ) → IsKind kind → IsOpcode (opcode_for kind)
kind_opcode = each_kind (λ (k : ℕ). IsOpcode (opcode_for k)) code_1 code_2 code_3 code_2

-- ---- sets of opcodes

-- a weight times a bit is the choice by the bit
pub bit_chooses : (w bit : ℕ) → bit < 2 → w * bit ≡ cond (eqb bit 1) w 0
bit_chooses w zero h = mul-zero w
bit_chooses w (suc zero) h = mul-one w
bit_chooses w (suc (suc n)) h = absurd (omega arith)

-- the bit of an opcode in a set
pub bit_is : (set code : ℕ) → set / 2 ^ (code - 1) % 2 ≡ cond (holds set code) 1 0
bit_is set code = sym (one-mul (set / 2 ^ (code - 1) % 2)) ∙ bit_chooses 1 (set / 2 ^ (code - 1) % 2) (omega arith)
