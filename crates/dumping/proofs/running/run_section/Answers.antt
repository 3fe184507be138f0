-- `running::run_section` meets its contract.
use Rattle.dumping.specs.Running.{section_run}
use Rattle.dumping.proofs.running.run_section.Goals as goal

pub returns : goal.returns
unfolding section_run
returns c =
    let x = c.section_at-section.ensures in
    rw (c.store_be64.ensures, c.store_be16.ensures, c.copy_section-copied.ensures.memory_after, c.copy_section-copied.ensures.errors_value.0, c.copy_section-copied.ensures.errors_value.1, x)
