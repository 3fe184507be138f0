-- `structure::are_requested` meets its contract.
use mathlib.Core.Path.{◌∙◌, refl}
use Prim.Native.Nat.{◌+◌, ◌*◌}
use native.Mathlib.Omega.{arith}
use borrow.Author.Rules.{rules}
use borrow.Author.Tests.{tests}
use Rattle.std.proofs.lemmas.Iterator.{YieldsList-from_range}
use Rattle.std.proofs.lemmas.Iterator.Search.{all_from_yields_List}
use Rattle.dump.specs.Structure.{section_size, requested}
use Rattle.dump.proofs.StructureLaws.{each_numbered}
use Rattle.dump.proofs.structure.are_requested.Goals as goal

pub returns : goal.returns
unfolding requested
returns c =
    let test = requested c.args.s.now in
    all_from_yields_List (λ k. test (c.args.first + section_size * k)) _ _ _ c.all.ensures.ran (YieldsList-from_range 0 c.args.count c.args.count refl (omega arith)) (λ x b q k. search (rules, tests))
    ∙ each_numbered test c.args.first c.args.count
