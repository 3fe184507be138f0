-- `writing::write_run` meets its contract.
use native.Mathlib.Omega.{arith}
use Rattle.indices.proofs.Bounds.{entries_bounded}
use Rattle.indices.proofs.Longest.{longest_run}
use Rattle.indices.proofs.OtherCodes.{writer_agrees}
use Rattle.indices.proofs.Writes.{run_few, run_none, run_counted}
use Rattle.indices.proofs.writing.write_run.Goals as goal

pub overflow_cast-handed : goal.overflow_cast-handed
overflow_cast-handed c =
    omega (arith, c.write_entries-handed.ensures.value, run_few c.args.area.now c.requires.1)

pub returns-then-handed-gt0 : goal.returns-then-handed-gt0
returns-then-handed-gt0 c =
    let done = run_counted c.args.area.now c.requires.1 c.write_entries-handed.ensures.value c.write_entries-handed.ensures.area_after c.requires.0 c.if-handed-gt0.true c.store_be32.ensures in
    record { value = done.0; area_after = done.1; claims = (longest_run, writer_agrees); bounds = entries_bounded }

pub returns-else-handed-gt0 : goal.returns-else-handed-gt0
returns-else-handed-gt0 c =
    let done = run_none c.args.area.now c.requires.1 c.write_entries-handed.ensures.value c.write_entries-handed.ensures.area_after c.if-handed-gt0.false in
    record { value = done.0; area_after = done.1; claims = (longest_run, writer_agrees); bounds = entries_bounded }
