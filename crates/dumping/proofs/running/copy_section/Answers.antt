-- `running::copy_section` meets its contract.
use mathlib.Core.Path.{refl}
use borrow.Author.Tests.{eq-eqb, ne_eqb}
use Rattle.dumping.specs.Running.{source_of}
use Rattle.dumping.proofs.Runs.{not_asked, asked}
use Rattle.dumping.proofs.running.copy_section.Goals as goal

pub returns-then-section-ne1 : goal.returns-then-section-ne1
returns-then-section-ne1 c =
    let a = c.args in
    let t = not_asked a.platform.now a.memory.now a.section (ne_eqb _ 1 c.if-section-ne1.true) in
    record { errors_value = (t.flags, t.bytes); memory_after = t.left }

pub returns : goal.returns
returns c =
    let a = c.args in
    let t = asked a.platform.now a.memory.now a.section (source_of a.platform.now a.memory.now a.section) _ _ _ (eq-eqb _ 1 c.if-section-ne1.false) refl (rw c.source_length-source.ensures at c.error_flags-errors.ensures.value) (rw c.source_length-source.ensures at c.actual_length-actual.ensures.value) c.store_section.ensures in
    record { errors_value = (t.flags, t.bytes); memory_after = t.left }
