-- `reading_nodes::store_operands` meets its contract.
use native.Mathlib.Omega.{arith}
use lib.ListN.{drop, length-drop}
use Rattle.node_area.proofs.Walks.{words_inside}
use Rattle.readers.proofs.NodeWords.{operands_pairs, operands_singles}
use Rattle.readers.proofs.reading_nodes.store_operands.Goals as goal

pub store_pairs-requires : goal.store_pairs-requires
store_pairs-requires c =
    let args = c.args in
    let least = c.min-pairs.ensures in
    let inside = words_inside (drop args.at args.area.now) in
    let behind = length-drop args.at args.area.now in
    (omega arith, omega arith)

pub returns-then-code-eq3 : goal.returns-then-code-eq3
returns-then-code-eq3 c =
    let args = c.args in
    let both = operands_pairs args.word args.most _ args.at args.to args.area.now _ _ c.requires.1 c.if-code-eq3.true c.min-pairs.ensures c.store_pairs.ensures in
    record { value = both.0; out_after = both.1 }

pub store_singles-requires : goal.store_singles-requires
store_singles-requires c =
    let args = c.args in
    let least = c.min-singles.ensures in
    let other = c.if-code-eq3.false in
    let inside = words_inside (drop args.at args.area.now) in
    let behind = length-drop args.at args.area.now in
    (omega arith, omega arith, λ some. let range = c.requires.3 (omega arith) in (range.0, omega arith))

pub returns : goal.returns
returns c =
    let args = c.args in
    let both = operands_singles args.word args.most _ args.at args.to args.area.now _ _ c.requires.1 c.if-code-eq3.false c.min-singles.ensures c.store_singles.ensures in
    record { value = both.0; out_after = both.1 }
