-- `calling::request_of` meets its contract.
use Rattle.rtas.proofs.calling.request_of.Goals as goal

pub returns : goal.returns
returns c =
    rw (c.read_be32.ensures, c.read_be32-2.ensures, c.read_be32-3.ensures, c.read_be32-4.ensures, c.read.ensures)
