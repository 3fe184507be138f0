-- `weights::unit_of` meets its contract.
use mathlib.Core.Path.{◌≡◌, refl}
use Prim.Native.Nat.{ℕ, ◌-◌, ◌*◌, ◌^◌, ◌%◌}
use Rattle.journal.specs.Marks.{count_limit}
use Rattle.journal.proofs.Opcodes.{each-code}
use Rattle.stretch.proofs.weights.unit_of.Goals as goal

pub returns : goal.returns
returns c =
    each-code (λ (k : ℕ). 1 * 2 ^ (21 * (k - 1)) % 0x1_0000_0000_0000_0000 ≡ count_limit ^ (k - 1)) refl refl refl c.args.code c.requires
