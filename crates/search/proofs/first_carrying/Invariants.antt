-- `search::first_carrying` meets its contract. The first position that has pairs left is tried, and has none left then, until one has a vote to carry.
use Rattle.order.specs.Order.{codes}
use Rattle.plan.specs.Planned.{Planned}
use Rattle.search.specs.Search.{seen}
use Rattle.search.specs.Known.{Knows}
use Rattle.search.proofs.Carrying.{tries}
use Rattle.search.proofs.first_carrying.Given as goal

abbrev pub invariant-loop-i : goal.invariant-loop-i
invariant-loop-i l = Planned l.plan → Knows l.plan.tables (seen l.w) (codes l.order) l.initial.known → Knows l.plan.tables (seen l.w) (codes l.order) l.known

abbrev pub decreases-loop-i : goal.decreases-loop-i
decreases-loop-i l = tries (codes l.order) l.known
