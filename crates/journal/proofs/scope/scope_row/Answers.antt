-- `scope::scope_row` meets its contract.
use mathlib.Core.Bool.{true}
use mathlib.Core.List.{List, []}
use mathlib.Core.Path.{◌≡◌, refl}
use Prim.Native.Nat.{ℕ}
use lib.ListN.{get_or}
use borrow.Author.Tests.{le-leb, lt-leb, ne_eqb}
use Rattle.std.proofs.Common.{Some, arith}
use Rattle.journal.specs.Scope.{rows, row_of, negative, valid, scope_row}
use Rattle.journal.proofs.Claims.{scope_rows}
use Rattle.journal.proofs.scope.scope_row.Goals as goal

-- a row of the table is the scope's where the definition chooses it
row_is : (row : List ℕ) (scope number : ℕ) → row ≡ get_or rows number [] → valid scope ≡ true → row_of scope ≡ get_or rows number [] → Some row ≡ scope_row scope
row_is row scope number e v s = rw (v, s, ← e)

pub returns-in-2147483648-to-4294967295 : goal.returns-in-2147483648-to-4294967295
unfolding rows row_of negative valid
returns-in-2147483648-to-4294967295 c =
    let scope = c.args.scope in
    let t = le-leb 0x8000_0000 scope (omega arith) in
    record { value = row_is _ scope 0 c.row_at-in-2147483648-to-4294967295.ensures (rw t) (rw t); rows = scope_rows }

pub returns-in-1 : goal.returns-in-1
unfolding rows row_of negative valid
returns-in-1 c =
    record { value = rw c.in-1.is (row_is _ 1 1 c.row_at.ensures refl refl); rows = scope_rows }

pub returns-in-2 : goal.returns-in-2
unfolding rows row_of negative valid
returns-in-2 c =
    record { value = rw c.in-2.is (row_is _ 2 2 c.row_at-in-2.ensures refl refl); rows = scope_rows }

pub returns-in-3 : goal.returns-in-3
unfolding rows row_of negative valid
returns-in-3 c =
    record { value = rw c.in-3.is (row_is _ 3 3 c.row_at-in-3.ensures refl refl); rows = scope_rows }

pub returns-in_default : goal.returns-in_default
unfolding row_of negative valid
returns-in_default c =
    let scope = c.args.scope in
    record { value = rw (lt-leb 0x8000_0000 scope (omega arith), ne_eqb scope 1 (λ e. omega arith), ne_eqb scope 2 (λ e. omega arith), ne_eqb scope 3 (λ e. omega arith)); rows = scope_rows }
