-- `keys::without` meets its contract. Bit k is cleared, and the others stay.
use Rattle.keys.proofs.Laws.{clear_member}
use Rattle.keys.proofs.without.Goals as goal

pub returns-clause-members : goal.returns-clause-members
returns-clause-members c = λ j. clear_member c.args.m c.args.k j c.ranges.m.fits c.requires
