use Rattle.std.proofs.Common.{refl, arith}
use Rattle.bounded.specs.Bounded.{sum_below}
use Rattle.bounded.proofs.Laws.{sum_up}
use Rattle.tables.proofs.Tables.sites.Goals as goal

pub loop-g-init : goal.loop-g-init
unfolding sum_below
loop-g-init c = (refl, omega arith)

pub loop-g-preserved : goal.loop-g-preserved
loop-g-preserved c = (rw (sum_up, c.loop-g.invariant.0, c.from-sum.ensures), omega (arith, c.loop-g.invariant.1))
