use Rattle.std.proofs.Common.{sym, ◌∙◌}
use Rattle.bounded.specs.Bounded.{any_below}
use Rattle.bounded.proofs.Laws.{any_up}
use Rattle.keys.proofs.Laws.{none_member}
use Rattle.tables.specs.Lists.{in_row}
use Rattle.plan.proofs.row_set.Goals as goal

pub loop-i-init : goal.loop-i-init
unfolding in_row any_below
loop-i-init c = none_member

pub loop-i-preserved : goal.loop-i-preserved
unfolding in_row
loop-i-preserved c k = c.with-m.ensures.members k ∙ rw (c.from.ensures, c.loop-i.invariant k) (sym (any_up _ _))
