-- `calling::number_for` meets its contract.
use borrow.Author.Tests.{lt-ltb, le-ltb, eq-eqb, ne_eqb}
use Rattle.calls.specs.Buffer.{number_for}
use Rattle.rtas.proofs.calling.number_for.Goals as goal

pub returns-then-args-lt12 : goal.returns-then-args-lt12
unfolding number_for
returns-then-args-lt12 c =
    rw (lt-ltb _ _ c.if-args-lt12.true)

pub returns-then-inputs-gt16 : goal.returns-then-inputs-gt16
unfolding number_for
returns-then-inputs-gt16 c =
    rw (le-ltb _ _ c.if-args-lt12.false, ← c.read_be32-inputs.ensures, ← c.read_be32-outputs.ensures, lt-ltb _ _ c.if-inputs-gt16.true)

pub returns-then-outputs-gt16 : goal.returns-then-outputs-gt16
unfolding number_for
returns-then-outputs-gt16 c =
    rw (le-ltb _ _ c.if-args-lt12.false, ← c.read_be32-inputs.ensures, ← c.read_be32-outputs.ensures, le-ltb _ _ c.if-inputs-gt16.false, lt-ltb _ _ c.if-outputs-gt16.true)

pub returns-then-args-inputs : goal.returns-then-args-inputs
unfolding number_for
returns-then-args-inputs c =
    rw (le-ltb _ _ c.if-args-lt12.false, ← c.read_be32-inputs.ensures, ← c.read_be32-outputs.ensures, le-ltb _ _ c.if-inputs-gt16.false, le-ltb _ _ c.if-outputs-gt16.false, lt-ltb _ _ c.if-args-inputs.true)

pub returns-then-outputs-eq0 : goal.returns-then-outputs-eq0
unfolding number_for
returns-then-outputs-eq0 c =
    rw (le-ltb _ _ c.if-args-lt12.false, ← c.read_be32-inputs.ensures, ← c.read_be32-outputs.ensures, le-ltb _ _ c.if-inputs-gt16.false, le-ltb _ _ c.if-outputs-gt16.false, le-ltb _ _ c.if-args-inputs.false, eq-eqb _ _ c.if-outputs-eq0.true)

pub returns : goal.returns
unfolding number_for
returns c =
    rw (le-ltb _ _ c.if-args-lt12.false, ← c.read_be32-inputs.ensures, ← c.read_be32-outputs.ensures, le-ltb _ _ c.if-inputs-gt16.false, le-ltb _ _ c.if-outputs-gt16.false, le-ltb _ _ c.if-args-inputs.false, ne_eqb _ _ c.if-outputs-eq0.false)
