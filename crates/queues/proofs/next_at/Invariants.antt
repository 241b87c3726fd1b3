-- `queues::next_at` meets its contract. What is found after t turns is `next_in` of the first t.
use Rattle.std.proofs.Common.{◌≡◌, ◌<◌, IfSome, unwrap_or}
use Rattle.tables.specs.Sites.{site_keys}
use Rattle.plan.specs.Planned.{Planned}
use Rattle.parts.specs.Cells.{nobody}
use Rattle.queues.specs.Queue.{next_in}
use Rattle.queues.proofs.next_at.Given as goal

abbrev pub invariant-loop-t : goal.invariant-loop-t
invariant-loop-t l = let T = l.plan.tables in
    IfSome l.found (λ u. u < T.txns)
    × (Planned l.plan → unwrap_or l.found nobody ≡ next_in l.w.places l.w.delivered T.txn l.t (site_keys T l.s) l.s)
