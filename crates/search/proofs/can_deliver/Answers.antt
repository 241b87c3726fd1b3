-- `search::can_deliver` meets its contract. The first position that waits has the next to deliver, which can be if it is not blocked; three positions are stored on the way.
use Rattle.std.proofs.Common.{ℕ, ◌≡◌, ◌<◌, ◌≤◌, false, not, eqb, eqb-true, get_or, set, length, refl, sym, ◌∙◌, arith, rules}
use Rattle.bounded.proofs.Truth.{clash}
use Rattle.order.specs.Order.{codes, waits_at}
use Rattle.order.proofs.Positions.{none_waits}
use Rattle.parts.specs.Cells.{nobody}
use Rattle.plan.specs.Planned.{Planned}
use Rattle.queues.specs.Queue.{next_of}
use Rattle.refusals.specs.Refusals.{deliver_refusal_in}
use Rattle.search.specs.Search.{seen}
use Rattle.search.specs.Within.{Within}
use Rattle.search.specs.Known.{Knows}
use Rattle.search.proofs.Stored.{knows_next, knows_below}
use Rattle.search.proofs.Carrying.{waits_to, queue_ends, knows_looked, next_found, next-none, deliver_answers, deliver_none}
use Rattle.search.proofs.can_deliver.Goals as goal
use Rattle.search.proofs.can_deliver.Goals.{Start, After-unwrap_or, After-last_to-q, After-is_blocked}

site : (c : Start) → c.args.s < 16
site c = omega (arith, c.requires.s_bound, c.requires.laid.sites)

-- none waits before the position found
waits : (c : After-unwrap_or) → Planned c.args.plan.now → Knows c.args.plan.now.tables (seen c.args.w.now) (codes c.args.order.now) c.args.known.now → c.args.s < 16
    → (i : ℕ) → i < c.unwrap_or.result → waits_at c.args.plan.now.tables c.args.w.now.places c.args.w.now.delivered (codes c.args.order.now) c.args.s i ≡ false
waits c p k low =
    waits_to c.args.plan.now.tables (seen c.args.w.now) (codes c.args.order.now) c.args.known.now k c.args.s c.unwrap_or.result low
    (λ i a b. (c.next_from-next.ensures.by_index p k.ordered).0 i a (rw c.unwrap_or.ensures at b))

pub returns-in_err-at-clause-knows : goal.returns-in_err-at-clause-knows
returns-in_err-at-clause-knows c p k =
    let past = goal.at.returns-in_err-at-clause-knows c in
    let T = c.args.plan.now.tables in
    let w = seen c.args.w.now in
    let order = codes c.args.order.now in
    let s = c.args.s in
    let none = waits past.After-unwrap_or p k (site past.Start) in (
      knows_next T w order c.args.known.now k s c.unwrap_or.result _ none,
      (
        rw c.from_residual.ensures tt,
        λ _. deliver_none T w s (rw (← p.sites) c.requires.s_bound) (next-none T p.fits w order k.ordered s (λ j m. none j (rw (c.unwrap_or.ensures, c.in_err-at.was) m))),
      ),
    )

pub returns-in_err-t-clause-knows : goal.returns-in_err-t-clause-knows
returns-in_err-t-clause-knows c p k =
    let order = codes c.args.order.now in
    let long : length c.args.w.now.places ≡ 128 = search rules in
    let at = c.in_ok-at.at in
    let none : nobody ≤ get_or order at nobody = rw c.in_err-t.was at c.standing.ensures.value in
    clash ((c.in_ok-at.ensures.by_index p k.ordered).1 c.in_ok-at.ensures.bound.1) (none_waits c.args.plan.now.tables c.args.w.now.places c.args.w.now.delivered order c.args.s at long none)

-- what is known with the three positions stored
knows : (c : After-last_to-q) (b : Within (set c.args.known.now.next.at c.args.s c.unwrap_or.result)) (h : Within (set c.args.known.now.top.at c.args.s c.last_to-q.result)) → Planned c.args.plan.now → Knows c.args.plan.now.tables (seen c.args.w.now) (codes c.args.order.now) c.args.known.now → c.args.s < 16
    → ((i : ℕ) → i < c.unwrap_or.result → waits_at c.args.plan.now.tables c.args.w.now.places c.args.w.now.delivered (codes c.args.order.now) c.args.s i ≡ false)
    → Knows c.args.plan.now.tables (seen c.args.w.now) (codes c.args.order.now)
    (record c.args.known.now { next = record { at = set c.args.known.now.next.at c.args.s c.unwrap_or.result; within = b }; low = set c.args.known.now.low c.args.s c.head_from-p.result; top = record { at = set c.args.known.now.top.at c.args.s c.last_to-q.result; within = h } })
knows c b h p k low none =
    let T = c.args.plan.now.tables in
    let w = seen c.args.w.now in
    let order = codes c.args.order.now in
    let below = knows_below T w order c.args.known.now k c.args.s low c.head_from-p.result c.head_from-p.ensures.by_index in
    knows_looked T w order c.args.known.now k c.args.s c.unwrap_or.result low c.head_from-p.result c.last_to-q.result b h (search rules) none below
    (queue_ends T w order c.args.known.now k c.args.s c.last_to-q.result low c.head_from-p.result below c.last_to-q.ensures.by_index)

-- the transaction at the position found is the next
next : (c : After-is_blocked) → Planned c.args.plan.now → Knows c.args.plan.now.tables (seen c.args.w.now) (codes c.args.order.now) c.args.known.now → c.args.s < 16
    → ((i : ℕ) → i < c.unwrap_or.result → waits_at c.args.plan.now.tables c.args.w.now.places c.args.w.now.delivered (codes c.args.order.now) c.args.s i ≡ false)
    → next_of c.args.plan.now.tables c.args.w.now.places c.args.w.now.delivered c.args.s ≡ c.in_ok-t.t
next c p k low none =
    let at = c.in_ok-at.at in
    let e = c.in_ok-t.ensures.value in
    next_found c.args.plan.now.tables p.fits (seen c.args.w.now) (codes c.args.order.now) k.ordered c.args.s at (λ j m. none j (rw (c.unwrap_or.ensures, c.in_ok-at.was) m)) (rw (← e) c.in_ok-t.ensures.low)
    ((c.in_ok-at.ensures.by_index p k.ordered).1 c.in_ok-at.ensures.bound.1)
    ∙ sym e

-- it can be delivered unless it is blocked
judged : (c : After-is_blocked) → Planned c.args.plan.now → Knows c.args.plan.now.tables (seen c.args.w.now) (codes c.args.order.now) c.args.known.now → c.args.s < 16
    → next_of c.args.plan.now.tables c.args.w.now.places c.args.w.now.delivered c.args.s ≡ c.in_ok-t.t
    → not c.is_blocked.result ≡ eqb (deliver_refusal_in c.args.plan.now.tables c.args.w.now.places c.args.w.now.delivered c.args.w.now.closed c.args.s) 0
judged c p k low found =
    let T = c.args.plan.now.tables in
    let w = seen c.args.w.now in
    let order = codes c.args.order.now in
    let l = c.args.known.now in
    let s = c.args.s in
    let t = c.in_ok-t.t in
    let below = knows_below T w order l k s low c.head_from-p.result c.head_from-p.ensures.by_index in
    let above = queue_ends T w order l k s c.last_to-q.result low c.head_from-p.result below c.last_to-q.ensures.by_index in
    let e = c.in_ok-t.ensures.value in
    let txn : t < T.txns = rw e (k.ordered.is c.in_ok-at.at (rw (← e) c.in_ok-t.ensures.low)).0 in
    deliver_answers T w s (rw (← p.sites) c.requires.s_bound) t c.is_blocked.result found c.in_ok-t.ensures.low (c.is_blocked.ensures w.places p k.ordered txn below above)

pub returns-then-is_blocked-clause-knows : goal.returns-then-is_blocked-clause-knows
returns-then-is_blocked-clause-knows c p k =
    let past = goal.at.returns-then-is_blocked-clause-knows c in
    let low = site past.Start in
    let none = waits past.After-unwrap_or p k low in
    let found = next past.After-is_blocked p k low none in
    (knows past.After-last_to-q _ _ p k low none, (tt, λ _. sym (judged past.After-is_blocked p k low found) ∙ rw c.if-is_blocked.true refl))

pub returns-else-is_blocked-clause-knows : goal.returns-else-is_blocked-clause-knows
returns-else-is_blocked-clause-knows c p k =
    let past = goal.at.returns-else-is_blocked-clause-knows c in
    let low = site past.Start in
    let none = waits past.After-unwrap_or p k low in
    let found = next past.After-is_blocked p k low none in (
      knows past.After-last_to-q _ _ p k low none,
      ((eqb-true _ _ (sym (judged past.After-is_blocked p k low found) ∙ rw c.if-is_blocked.false refl), sym c.in_ok-t.ensures.value ∙ sym found), λ e. clash refl e),
    )
