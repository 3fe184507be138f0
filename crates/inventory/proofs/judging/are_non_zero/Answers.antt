-- `judging::are_non_zero` meets its contract.
use Rattle.std.proofs.Common.{◌≡◌, min, rules}
use Rattle.std.specs.List.{fold}
use Rattle.inventory.proofs.Codes.{least_non_zero}
use Rattle.inventory.proofs.judging.are_non_zero.Goals as goal

pub returns : goal.returns
returns c =
    let folded : c.fold.result ≡ fold min 255 c.args.s.now = search rules in
    rw folded (least_non_zero c.args.s.now)
