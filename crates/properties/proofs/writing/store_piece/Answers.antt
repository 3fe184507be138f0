-- `writing::store_piece` meets its contract.
use mathlib.Core.Path.{◌∙◌}
use native.Mathlib.Omega.{arith}
use lib.ListN.{drop, take, length-drop}
use lib.Seq.{length-take-le}
use Rattle.words.proofs.Ranges.{range_from}
use Rattle.properties.proofs.Writes.{piece_stored}
use Rattle.properties.proofs.writing.store_piece.Goals as goal

pub returns : goal.returns
returns c =
    let p = c.args.p in
    let j = c.args.j.now in
    let name = take p.name_length (drop p.name j) in
    let sized = length-take-le p.name_length (drop p.name j) (rw length-drop (omega (arith, c.requires.1))) in
    c.store-2.ensures ∙ rw (c.store_be32.ensures, c.store_zeros.ensures, c.store.ensures, range_from j p.name p.name_length, range_from j p.value c.args.n)
    (piece_stored c.args.area.now c.args.to p.name_length name c.args.descriptor (take c.args.n (drop p.value j)) sized)
