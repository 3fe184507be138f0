-- `forecasting::is_below` meets its contract.
use mathlib.Core.Path.{sym}
use native.Mathlib.Omega.{arith}
use borrow.Author.Tests.{lt-ltb}
use Rattle.forecast.proofs.Told.{below_rest}
use Rattle.forecast.proofs.forecasting.is_below.Goals as goal

pub returns-then-n-deletes : goal.returns-then-n-deletes
returns-then-n-deletes c =
    sym (lt-ltb c.args.n _ (omega (arith, c.if-n-deletes.true)))

pub returns-then-n-deletes-2 : goal.returns-then-n-deletes-2
returns-then-n-deletes-2 c =
    sym (lt-ltb c.args.n _ (omega (arith, c.if-n-deletes-2.true, c.if-n-deletes.false)))

pub returns : goal.returns
returns c =
    let a = c.args in below_rest a.n a.all c.if-n-deletes.false c.if-n-deletes-2.false
