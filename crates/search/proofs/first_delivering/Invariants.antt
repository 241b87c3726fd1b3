-- `search::first_delivering` meets its contract. No site below s has one to deliver, until one has; what was tried is known.
use Rattle.order.specs.Order.{codes}
use Rattle.plan.specs.Planned.{Planned}
use Rattle.search.specs.Search.{seen}
use Rattle.search.specs.Known.{Knows}
use Rattle.search.proofs.Carrying.{NoneBelow}
use Rattle.search.proofs.first_delivering.Given as goal

abbrev pub invariant-loop-s : goal.invariant-loop-s
invariant-loop-s l = Planned l.plan → Knows l.plan.tables (seen l.w) (codes l.order) l.initial.known → Knows l.plan.tables (seen l.w) (codes l.order) l.known × NoneBelow l.plan.tables (seen l.w) l.s
