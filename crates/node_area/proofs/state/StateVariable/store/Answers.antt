-- `state::StateVariable::store` meets its contract.
use Rattle.words.proofs.Stores.{store_first}
use Rattle.node_area.proofs.state.StateVariable.store.Goals as goal

pub returns : goal.returns
returns c =
    let a = c.args in store_first a.area.now c.store_be32.new.s 0 a.self.0 c.store_be32.ensures
