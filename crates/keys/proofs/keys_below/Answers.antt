-- `keys::keys_below` meets its contract. All keys of a set of 64 bits are below 64.
use Rattle.std.proofs.Common.{sym, ◌∙◌, rules, le-leb}
use Rattle.keys.specs.Keys.{within}
use Rattle.keys.proofs.Laws.{all_within}
use Rattle.keys.proofs.keys_below.Goals as goal

pub returns-then-n-ge64 : goal.returns-then-n-ge64
returns-then-n-ge64 c = le-leb _ _ c.if-n-ge64.true ∙ sym (all_within 64 c.args.m c.args.n c.ranges.m.fits c.if-n-ge64.true)

pub returns-else-n-ge64 : goal.returns-else-n-ge64
unfolding within
returns-else-n-ge64 c = search rules
