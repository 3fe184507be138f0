-- `running::section_at` meets its contract.
use Rattle.dumping.proofs.running.section_at.Goals as goal

pub returns : goal.returns
returns c =
    rw (
      c.read_be64-3.ensures,
      c.read_be64-2.ensures,
      c.read_be64.ensures,
      c.read_be16.ensures,
      c.read_be32.ensures,
    )
