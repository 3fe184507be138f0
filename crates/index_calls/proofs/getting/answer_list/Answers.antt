-- `getting::answer_list` meets its contract.
use Rattle.index_calls.proofs.Lists.{left_malformed}
use Rattle.index_calls.proofs.getting.answer_list.Goals as goal

pub answer_counted-requires : goal.answer_counted-requires
answer_counted-requires c =
    let told = rw (c.in-Some.is, c.wanted_by.ensures.0, c.wanted_by.ensures.1) at c.scan.ensures.scan_finds in
    (c.requires.0, c.requires.1, told.0, told.1, told.2)

pub returns-in-None : goal.returns-in-None
returns-in-None c =
    let both = left_malformed c.args.inventory.now c.args.request c.args.area.now c.refused.result (rw c.in-None.is at c.scan.ensures.scan_finds) c.refused.ensures in
    record { status_value = both.0; area_after = both.1 }
