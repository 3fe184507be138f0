-- `wanted::Wanted::is_at` meets its contract.
use native.Mathlib.Omega.{arith}
use borrow.Author.Tests.{eq-eqb, ne_eqb}
use Rattle.inventory.proofs.RecordLaws.{matches_at}
use Rattle.inventory.proofs.wanted.Wanted.is_at.Goals as goal

pub returns-then-from-self : goal.returns-then-from-self
returns-then-from-self c =
    rw (matches_at c.args.s.now c.args.at c.args.self.flag c.args.self.item_type (omega (arith, c.requires.large)), ← c.read_le16.ensures, ← c.from.ensures, ← c.read_le32.ensures, eq-eqb _ _ c.if-from-self.true)

pub returns-else-from-self : goal.returns-else-from-self
returns-else-from-self c =
    rw (matches_at c.args.s.now c.args.at c.args.self.flag c.args.self.item_type (omega (arith, c.requires.large)), ← c.read_le16.ensures, ← c.from.ensures, ne_eqb _ _ c.if-from-self.false)
