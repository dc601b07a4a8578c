-- `read_state` meets its contract: item by item.
-- Assumes nothing.
use Rattle.told.proofs.States.{state_same}
use Rattle.told.proofs.read_state.Goals as goal

pub returns : goal.returns
returns c = state_same c.args.place.now c.item.ensures c.item-2.ensures c.item-3.ensures c.item-4.ensures c.item-5.ensures c.item-6.ensures c.item-7.ensures c.item-8.ensures
