-- `State::start` meets its contract. Its values are the first store of the tables.
use Rattle.machine.specs.Fresh.{start_of}
use Rattle.machine.proofs.State.start.Goals as goal

pub returns : goal.returns
unfolding start_of
returns c = rw c.first_store.ensures
