-- `draugsten_bench_inventory` meets its contract.
use Rattle.bench.proofs.Counting.{none_listed, some_listed}
use Rattle.bench.proofs.draugsten_bench_inventory.Goals as goal

pub returns-in-None : goal.returns-in-None
returns-in-None c =
    none_listed _ _ _ _ _ c.scan.ensures.scan_finds c.in-None.is

pub returns-in-Some : goal.returns-in-Some
returns-in-Some c =
    some_listed _ _ _ _ _ c.scan.ensures.scan_finds _ c.in-Some.is
