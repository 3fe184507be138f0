use Rattle.std.specs.Prelude.{Err}
use mathlib.Core.Path.{◌≡◌, sym, ap, ◌∙◌}
use Prim.Native.Nat.{ℕ}
use lib.Dec.{eqb}
use borrow.Author.Rules.{rules}
use borrow.Author.Tests.{lt-ltb}
use Rattle.indices.specs.declared.reading.Refusal.TheVariants.{Past}
use Rattle.indices.specs.Reading.{length_at, fault_at, reading}
use Rattle.locations.specs.Inner.Terms.{listing_of}
use Rattle.locations.proofs.Listings.{sought_first, sought_end, sought_bad, sought_fine}
use Rattle.locations.proofs.listed.find_listed.Goals as goal

pub returns-then-area-lt4 : goal.returns-then-area-lt4
unfolding listing_of reading
returns-then-area-lt4 c =
    rw (lt-ltb _ 4 c.if-area-lt4.true)

pub loop-passed-init : goal.loop-passed-init
loop-passed-init c =
    sought_first c.args.area.now c.args.index c.read_be32-count.result c.if-area-lt4.false c.read_be32-count.ensures

pub returns-then-area-at-lt8 : goal.returns-then-area-at-lt8
unfolding fault_at
returns-then-area-at-lt8 c =
    let past : fault_at c.args.area.now c.loop-passed.at ≡ Err Past =
    rw (lt-ltb _ 8 c.if-area-at-lt8.true) in
    sought_bad c.loop-passed.invariant c.loop-passed-test.true _ (past)

pub fault_of-requires : goal.fault_of-requires
unfolding length_at
fault_of-requires c =
    (search rules, c.read_be32-n.ensures)

pub returns-in-Err : goal.returns-in-Err
returns-in-Err c =
    sought_bad c.loop-passed.invariant c.loop-passed-test.true _ (sym c.fault_of.ensures ∙ c.in-Err.is)

pub loop-passed-preserved : goal.loop-passed-preserved
loop-passed-preserved c =
    sought_fine c.loop-passed.invariant c.loop-passed-test.true _ _ _ c.read_be32-n.ensures (sym c.fault_of.ensures ∙ c.in-Ok.is)
    (ap (λ (w : ℕ). eqb w c.args.index) c.read_be32.ensures) c.first_found-found.ensures

pub returns : goal.returns
returns c =
    sought_end c.loop-passed.invariant c.loop-passed-test.false
