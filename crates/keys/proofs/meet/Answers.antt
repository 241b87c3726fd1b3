-- `keys::meet` meets its contract. Two sets meet where their conjunction is not 0.
use Rattle.keys.proofs.Laws.{meeting_and}
use Rattle.keys.proofs.meet.Goals as goal

pub returns : goal.returns
returns c = meeting_and c.args.a c.args.b c.ranges.a.fits c.ranges.b.fits
