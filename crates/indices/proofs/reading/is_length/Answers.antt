-- `reading::is_length` meets its contract.
use mathlib.Core.Path.{◌≡◌, refl}
use mathlib.Core.Bool.{Bool, true, false, ◌&&◌}
use Prim.Native.Nat.{ℕ, ◌+◌, ◌*◌, ◌/◌, ◌%◌, ◌<◌}
use native.Mathlib.Omega.{arith}
use lib.Dec.{leb, eqb}
use borrow.Author.Tests.{lt-leb, le-leb, eq-eqb, leb-true, eqb-true}
use Rattle.inventory.specs.Inventory.{code_limit}
use Rattle.indices.specs.Area.{field_limit}
use Rattle.indices.specs.Reading.{good_length}
use Rattle.indices.proofs.reading.is_length.Goals as goal

-- too long, or no multiple of 4
beyond : (n : ℕ) → 256 < n / 4 + n % 4 * 0x4000_0000 → (a b : Bool) → leb n 1024 ≡ a → eqb (n % 4) 0 ≡ b → (a && b) ≡ false
beyond n h true true l m = absurd (omega (arith, leb-true n 1024 l, eqb-true (n % 4) 0 m))
beyond n h true false l m = refl
beyond n h false b l m = refl

pub returns-in-1-to-256 : goal.returns-in-1-to-256
unfolding good_length code_limit
returns-in-1-to-256 c =
    rw (le-leb 1 c.args.n (omega arith), le-leb c.args.n field_limit (omega arith), eq-eqb (c.args.n % 4) 0 (omega arith))

pub returns-in_default : goal.returns-in_default
unfolding good_length
returns-in_default c =
    rw (lt-leb 1 c.args.n (omega arith))

pub returns-in_default-2 : goal.returns-in_default-2
unfolding good_length code_limit
returns-in_default-2 c =
    rw (le-leb 1 c.args.n (omega arith), beyond c.args.n (omega arith) _ _ refl refl)
