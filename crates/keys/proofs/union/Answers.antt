-- `keys::union` meets its contract. A bit of the disjunction is one of either.
use Rattle.keys.proofs.Laws.{or_member}
use Rattle.keys.proofs.union.Goals as goal

pub returns : goal.returns
returns c = or_member c.args.a c.args.b
