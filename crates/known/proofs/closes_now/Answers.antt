-- From the first position that may be in the queue on, `head_from` finds the head.
use Rattle.std.proofs.Common.{◌≡◌, length, sym, ◌∙◌, arith}
use Rattle.order.specs.Order.{codes}
use Rattle.search.specs.Search.{seen}
use Rattle.search.proofs.Closing.{only_queued}
use Rattle.search.proofs.Stored.{knows_moved}
use Rattle.known.proofs.Handing.{head_found}
use Rattle.known.proofs.closes_now.Goals as goal

pub returns-then-not-is_queued-clause-knows : goal.returns-then-not-is_queued-clause-knows
returns-then-not-is_queued-clause-knows c p m k =
    (k, sym (only_queued c.args.plan.now.tables (seen c.args.w.now) c.args.t c.args.s (sym c.is_queued.ensures ∙ c.if-not-is_queued.true)))

pub returns-clause-knows : goal.returns-clause-knows
returns-clause-knows c p m k =
    let a = c.args in
    let T = a.plan.now.tables in
    let from = c.head_from-p.ensures in
    let long : length a.w.now.delivered ≡ 2048 = omega arith in (
      knows_moved T (seen a.w.now) (codes a.order.now) a.known.now k a.s c.requires.t_bound.1 _ from.by_index,
      c.can_close.ensures p m (c.head_number.ensures.value ∙ head_found T p.fits (seen a.w.now) (codes a.order.now) a.known.now k a.s _ c.requires.t_bound.1 long from.by_index from.result_value),
    )
