-- `following::walk_past` meets its contract.
use mathlib.Core.Path.{◌∙◌}
use native.Mathlib.Omega.{arith}
use borrow.Author.Tests.{eq-eqb, ne_eqb}
use Rattle.properties.proofs.following.walk_past.Goals as goal

pub returns-then-p-phandle : goal.returns-then-p-phandle
returns-then-p-phandle c =
    rw (ne_eqb _ _ c.if-p-phandle.true)

pub walk_over-requires : goal.walk_over-requires
walk_over-requires c =
    rw c.extent_of.ensures (omega (arith, c.requires), omega (arith, c.requires))

pub returns : goal.returns
returns c =
    c.walk_over.ensures ∙ rw (c.extent_of.ensures, eq-eqb _ _ c.if-p-phandle.false)
