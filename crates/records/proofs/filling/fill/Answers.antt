-- `filling::fill` meets its contract.
use mathlib.Core.Path.{◌∙◌, ap}
use native.Mathlib.Omega.{arith}
use lib.Seq.{sets}
use Rattle.words.proofs.Ranges.{range_from}
use Rattle.records.proofs.Behind.{filled_front}
use Rattle.records.proofs.filling.fill.Goals as goal

pub returns : goal.returns
returns c =
    let a = c.args in
    let stored = c.store.ensures ∙ ap (sets a.buffer.now a.held) (range_from a.bytes.now a.at c.missing-n.result) in
    record {
      amount = c.missing-n.ensures;
      whole = stored;
      front = filled_front a.buffer.now a.held a.bytes.now a.at c.missing-n.result _ (omega arith) (omega arith) stored;
    }
