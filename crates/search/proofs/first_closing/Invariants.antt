-- `search::first_closing` meets its contract. No site below s has one to close, until one has; what was tried is known.
use Rattle.std.proofs.Common.{◌≡◌, ltb}
use Rattle.bounded.specs.Bounded.{least_below}
use Rattle.order.specs.Order.{codes}
use Rattle.parts.specs.Cells.{nobody}
use Rattle.plan.specs.Planned.{Planned}
use Rattle.search.specs.Search.{seen, nowhere, closes_first_in}
use Rattle.search.specs.Known.{Knows}
use Rattle.search.proofs.first_closing.Given as goal

abbrev pub invariant-loop-s : goal.invariant-loop-s
invariant-loop-s l = Planned l.plan → Knows l.plan.tables (seen l.w) (codes l.order) l.initial.known
    → Knows l.plan.tables (seen l.w) (codes l.order) l.known × (least_below l.s (λ z. ltb (closes_first_in l.plan.tables (seen l.w) z) nobody) nowhere ≡ nowhere)
