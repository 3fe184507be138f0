-- `walking::in_set` meets its contract.
use mathlib.Core.Path.{sym, ap, ◌∙◌}
use Prim.Native.Nat.{ℕ, ◌%◌}
use native.Mathlib.Nat.{div-one}
use Rattle.journal.proofs.Opcodes.{bit_is}
use Rattle.journal.proofs.walking.in_set.Goals as goal

pub returns-in-Delete : goal.returns-in-Delete
returns-in-Delete c =
    rw c.in-Delete.is (ap (λ (n : ℕ). n % 2) (sym (div-one c.args.set)) ∙ bit_is c.args.set 1)

pub returns-in-Update : goal.returns-in-Update
returns-in-Update c =
    rw c.in-Update.is (bit_is c.args.set 2)

pub returns-in-Add : goal.returns-in-Add
returns-in-Add c =
    rw c.in-Add.is (bit_is c.args.set 3)
