-- `known::carry_on` meets its contract. The invariant: k votes were carried, only votes on t are to be carried still, and its first q pairs are passed (`Goes`).
-- Where the pair q carries, only t can be closed by it, at the site that took the vote: that is known there, and nobody once `closes_now` has said no.
-- The measure is what is left of the pairs. Assumes nothing.
use Rattle.std.proofs.Common.{ℕ, ◌≡◌, ◌≤◌, ◌-◌}
use Rattle.plan.specs.Planned.{Planned}
use Rattle.parts.specs.Changed.{with_votes}
use Rattle.order.specs.Order.{codes}
use Rattle.search.specs.Search.{Carry, seen, todo_in}
use Rattle.search.specs.Known.{Knows}
use Rattle.known.proofs.Handing.{Goes}
use Rattle.known.proofs.carry_on.Given as goal

abbrev pub invariant-loop-q : goal.invariant-loop-q
invariant-loop-q l = (l.k ≤ l.n) × (l.known.open ≡ l.initial.known.open) × (l.w ≡ with_votes l.initial.w l.w.carried)
    × ((from to : ℕ) → Planned l.plan
    → Knows l.plan.tables (seen l.initial.w) (codes l.order) l.initial.known
    → todo_in l.plan.tables (seen l.initial.w) ≡ Carry l.t from to
    → Goes l.plan.tables (seen l.initial.w) (codes l.order) l.known l.t l.k l.q l.w.carried)

abbrev pub decreases-loop-q : goal.decreases-loop-q
decreases-loop-q l = 256 - l.q
