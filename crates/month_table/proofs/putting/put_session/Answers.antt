-- `putting::put_session` meets its contract.
use mathlib.Core.List.{List, [], ◌∷◌, ◌++◌}
use Prim.Native.Nat.{ℕ}
use Rattle.printing.specs.Text.{each, hex_byte}
use Rattle.printing.proofs.Puts.{fits-first, fits_then, put_then}
use Rattle.month_table.specs.Table.{session_row}
use Rattle.month_table.proofs.putting.put_session.Goals as goal

abbrev session- : List ℕ
session- = 115 ∷ 101 ∷ 115 ∷ 115 ∷ 105 ∷ 111 ∷ 110 ∷ 44 ∷ []

abbrev end- : List ℕ
end- = 44 ∷ 49 ∷ 10 ∷ []

pub push-requires : goal.push-requires
unfolding session_row
push-requires c =
    fits-first _ session- (each hex_byte c.args.digest.now ++ end-) c.requires

pub push_value-requires : goal.push_value-requires
unfolding session_row
push_value-requires c =
    fits-first _ (each hex_byte c.args.digest.now) end- (fits_then (each hex_byte c.args.digest.now ++ end-) c.requires c.push.ensures)

pub push-requires-2 : goal.push-requires-2
unfolding session_row
push-requires-2 c =
    fits_then end- (fits_then (each hex_byte c.args.digest.now ++ end-) c.requires c.push.ensures) c.push_value.ensures

pub returns : goal.returns
unfolding session_row
returns c =
    put_then c.push.ensures (put_then c.push_value.ensures c.push-2.ensures)
