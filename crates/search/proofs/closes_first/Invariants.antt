-- `search::closes_first` meets its contract. None before position i can be closed, until one can.
use Rattle.std.proofs.Common.{ℕ, ◌≡◌, ◌≤◌, ◌<◌, false, eqb, get_or, unwrap_or}
use Rattle.bounded.specs.Bounded.{first_below}
use Rattle.order.specs.Order.{codes}
use Rattle.parts.specs.Cells.{place_in, nobody}
use Rattle.plan.specs.Planned.{Planned}
use Rattle.queues.specs.Queue.{queued_in}
use Rattle.search.specs.Search.{closing, seen}
use Rattle.search.proofs.closes_first.Given as goal

abbrev pub invariant-loop-i : goal.invariant-loop-i
invariant-loop-i l = Planned l.plan → l.s < l.plan.sites
    → unwrap_or l.head nobody ≡ first_below l.plan.tables.txns (place_in l.w.places) (queued_in l.w.delivered l.w.closed l.s) nobody
    → (j : ℕ) → l.p ≤ j → j < l.i → get_or (codes l.order) j nobody < nobody → eqb (closing l.plan.tables (seen l.w) (get_or (codes l.order) j nobody) l.s) 0 ≡ false
