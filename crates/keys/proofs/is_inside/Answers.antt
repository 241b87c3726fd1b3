-- `keys::is_inside` meets its contract. A set is in another where it is their conjunction.
use Rattle.keys.proofs.Laws.{including_and}
use Rattle.keys.proofs.is_inside.Goals as goal

pub returns : goal.returns
returns c = including_and c.args.a c.args.b c.ranges.a.fits c.ranges.b.fits
