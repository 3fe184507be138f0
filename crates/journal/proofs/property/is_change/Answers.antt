-- `property::is_change` meets its contract.
use mathlib.Core.Path.{◌≡◌, sym, ◌∙◌}
use mathlib.Core.Bool.{◌&&◌}
use native.Mathlib.Omega.{arith}
use lib.Dec.{leb, eqb}
use lib.ListN.{drop}
use borrow.Author.Tests.{le-leb, lt-leb}
use Rattle.records.specs.Records.{kind_of, first_record}
use Rattle.journal.specs.Property.{phandle_of}
use Rattle.journal.proofs.Sizes.{sized_here, kind_read, phandle_read}
use Rattle.journal.proofs.property.is_change.Goals as goal

pub read_frame-frame-requires : goal.read_frame-frame-requires
read_frame-frame-requires c =
    omega (arith, sized_here c.args.j.now c.args.at c.requires.0)

pub read_le32-carried-requires : goal.read_le32-carried-requires
read_le32-carried-requires c =
    omega (arith, sized_here c.args.j.now c.args.at c.requires.0)

pub returns-then-frame-ge5 : goal.returns-then-frame-ge5
returns-then-frame-ge5 c =
    let told : let args = c.args in let here = first_record (drop args.at args.j.now) in (leb 5 (kind_of here) && eqb (phandle_of here) args.phandle) ≡ (leb 5 c.read_frame-frame.result.kind && eqb c.read_le32-carried.result args.phandle) =
    rw (
      kind_read c.args.j.now c.args.at c.requires.0,
      phandle_read c.args.j.now c.args.at c.requires.0,
      c.read_frame-frame.ensures,
      c.read_le32-carried.ensures,
    ) in
    sym (told ∙ rw (le-leb 5 c.read_frame-frame.result.kind c.if-frame-ge5.true))

pub returns-else-frame-ge5 : goal.returns-else-frame-ge5
returns-else-frame-ge5 c =
    let told : let args = c.args in let here = first_record (drop args.at args.j.now) in (leb 5 (kind_of here) && eqb (phandle_of here) args.phandle) ≡ (leb 5 c.read_frame-frame.result.kind && eqb c.read_le32-carried.result args.phandle) =
    rw (
      kind_read c.args.j.now c.args.at c.requires.0,
      phandle_read c.args.j.now c.args.at c.requires.0,
      c.read_frame-frame.ensures,
      c.read_le32-carried.ensures,
    ) in
    sym (told ∙ rw (lt-leb 5 c.read_frame-frame.result.kind c.if-frame-ge5.false))
