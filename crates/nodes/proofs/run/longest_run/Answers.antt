-- `run::longest_run` meets its contract.
use Rattle.nodes.specs.Run.{cut}
use Rattle.nodes.proofs.Cut.{cut_is_longest}
use Rattle.nodes.proofs.run.longest_run.Goals as goal

pub returns : goal.returns
unfolding cut
returns c =
    let first = c.min-deletes.ensures in
    let second = c.room_after-second.ensures in
    let third = c.room_after-third.ensures in
    record { value = rw (c.min-additions.ensures, c.saturating_sub-2.ensures, third, c.min-updates.ensures, c.saturating_sub.ensures, second, first); longest = cut_is_longest }
