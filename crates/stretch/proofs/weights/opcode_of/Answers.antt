-- `weights::opcode_of` meets its contract.
use mathlib.Core.Path.{◌≡◌, refl}
use Prim.Native.Nat.{ℕ, ◌-◌, ◌*◌, ◌/◌}
use Rattle.journal.specs.Terms.{opcode_for}
use Rattle.journal.proofs.Opcodes.{each_kind}
use Rattle.stretch.proofs.weights.opcode_of.Goals as goal

pub returns : goal.returns
returns c =
    each_kind (λ (k : ℕ). k - 2 * (k / 4) ≡ opcode_for k) refl refl refl refl c.args.kind c.requires
