-- `keys::has` meets its contract. No key at 64 or above is in a set of 64 bits.
use Rattle.std.proofs.Common.{sym, ◌∙◌, rules, le-ltb}
use Rattle.keys.specs.Keys.{member}
use Rattle.keys.proofs.Laws.{high}
use Rattle.keys.proofs.has.Goals as goal

pub returns-then-k-lt64 : goal.returns-then-k-lt64
unfolding member
returns-then-k-lt64 c = search rules

pub returns-else-k-lt64 : goal.returns-else-k-lt64
returns-else-k-lt64 c = le-ltb _ _ c.if-k-lt64.false ∙ sym (high 64 c.args.m c.args.k c.ranges.m.fits c.if-k-lt64.false)
