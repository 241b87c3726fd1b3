-- Each arm by its rule.
use Rattle.records.specs.Rule.{fits}
use Rattle.records.proofs.fits.Goals as goal

pub returns-in-NoTag : goal.returns-in-NoTag
unfolding fits
returns-in-NoTag c = rw (← c.length_rule.ensures, c.in-NoTag.is)

pub returns-in-Exact : goal.returns-in-Exact
unfolding fits
returns-in-Exact c = rw (← c.length_rule.ensures, c.in-Exact.is) (rw c.from.ensures)

pub returns-in-Values : goal.returns-in-Values
unfolding fits
returns-in-Values c = rw (← c.length_rule.ensures, c.in-Values.is) c.values_fit.ensures

pub returns-in-Pairs : goal.returns-in-Pairs
unfolding fits
returns-in-Pairs c = rw (← c.length_rule.ensures, c.in-Pairs.is) c.pairs_fit.ensures
