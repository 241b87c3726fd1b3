-- `search::can_close` meets its contract. Only what is in the queue can be closed; that is judged by its verdict.
use Rattle.std.proofs.Common.{◌<◌, sym, ap, ◌∙◌, eqb, arith}
use Rattle.order.proofs.Order.{head_first}
use Rattle.search.specs.Search.{seen}
use Rattle.search.proofs.Closing.{only_queued, only_concerned, by_verdict, found_is, accepts}
use Rattle.search.proofs.can_close.Goals as goal
use Rattle.search.proofs.can_close.Goals.{then-is_queued, else-is_queued}

pub returns-then-is_concerned : goal.returns-then-is_concerned
returns-then-is_concerned c p l h = let a = c.args in
    elim c.if-is_queued.branch [
      | else-is_queued w ↦ absurd (cc)
      | then-is_queued w ↦
          let low : a.t < 128 = omega arith in
          let queued = sym c.is_queued.ensures ∙ w.if-is_queued.true in
          let concerned = sym (w.is_concerned.ensures p c.requires.t_bound.0) ∙ sym w.value-is ∙ c.if-is_concerned.true in
          let heads = c.eq.ensures ∙ found_is a.head a.t low ∙ ap (λ f. eqb f a.t) h ∙ sym (head_first a.w.now.places a.w.now.delivered a.w.now.closed a.plan.now.tables.txns a.t a.s p.fits.txns c.requires.t_bound.0 queued) in
          rw (by_verdict a.plan.now.tables (seen a.w.now) a.t a.s c.requires.t_bound.0 (omega (arith, p.sites)) concerned queued)
          (c.is_ok.ensures.value ∙ accepts c.verdict_refusal.result ∙ ap (λ n. eqb n 0) (c.verdict_refusal.ensures _ _ p heads))
    ]

pub returns-else-is_concerned : goal.returns-else-is_concerned
returns-else-is_concerned c p l h = let a = c.args in
    c.if-is_concerned.false
    ∙ sym (elim c.if-is_queued.branch [
      | then-is_queued w ↦ only_concerned a.plan.now.tables (seen a.w.now) a.t a.s (sym (w.is_concerned.ensures p c.requires.t_bound.0) ∙ sym w.value-is ∙ c.if-is_concerned.false)
      | else-is_queued w ↦ only_queued a.plan.now.tables (seen a.w.now) a.t a.s (sym c.is_queued.ensures ∙ w.if-is_queued.false)
    ])
