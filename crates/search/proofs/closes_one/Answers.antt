-- `search::closes_one` meets its contract. Where only one may be closed, no other can.
use Rattle.std.proofs.Common.{◌≡◌, ◌<◌, sym, ap, ◌∙◌, eqb, length, lt-ltb, le-ltb, arith, rules}
use Rattle.bounded.proofs.Truth.{clash}
use Rattle.order.specs.Order.{codes}
use Rattle.parts.specs.Cells.{nobody}
use Rattle.search.specs.Search.{seen, closing}
use Rattle.search.proofs.Tried.{code_closes, code_shut}
use Rattle.search.proofs.Closing.{head_stands, code_past, only_past}
use Rattle.search.proofs.closes_one.Goals as goal
use Rattle.search.proofs.closes_one.Goals.{then-t-plan, else-t-plan}

pub returns-in-Nobody-clause-value : goal.returns-in-Nobody-clause-value
returns-in-Nobody-clause-value c p l k below above starts = let a = c.args in
    sym (code_past a.plan.now.tables p.fits (seen a.w.now) a.s nobody p.fits.txns (λ e. absurd (omega (arith, e))) (rw c.in-Nobody.is at k))

pub returns-then-closes-clause-value : goal.returns-then-closes-clause-value
returns-then-closes-clause-value c p l k below above starts = let a = c.args in let t = c.in-Only.t in
    elim c.if-t-plan.branch [
      | then-t-plan w ↦
          let low : t < nobody = omega (arith, w.if-t-plan.true, p.fits.txns) in
          let long : length a.w.now.delivered ≡ 2048 = search rules in
          let h = head_stands a.plan.now a.w.now (codes a.order.now) a.s a.p a.q c.head_number-head.result p long c.requires.ordered below above starts c.head_number-head.ensures.value in
          c.from-then-closes.ensures
          ∙ sym (code_closes a.plan.now.tables p.fits (seen a.w.now) a.s t (λ e. absurd (omega (arith, e))) (rw (c.in-Only.is, lt-ltb t nobody low) at k)
          (ap (λ u. eqb (closing a.plan.now.tables (seen a.w.now) u a.s) 0) (sym w.from.ensures) ∙ sym (w.can_close-closes.ensures p l h) ∙ sym w.closes-is ∙ c.if-closes.true))
      | else-t-plan w ↦ clash c.if-closes.true (w.closes-is ∙ le-ltb _ _ w.if-t-plan.false)
    ]

pub returns-else-closes-clause-value : goal.returns-else-closes-clause-value
returns-else-closes-clause-value c p l k below above starts = let a = c.args in let t = c.in-Only.t in
    elim c.if-t-plan.branch [
      | then-t-plan w ↦
          let low : t < nobody = omega (arith, w.if-t-plan.true, p.fits.txns) in
          let long : length a.w.now.delivered ≡ 2048 = search rules in
          let h = head_stands a.plan.now a.w.now (codes a.order.now) a.s a.p a.q c.head_number-head.result p long c.requires.ordered below above starts c.head_number-head.ensures.value in
          sym (code_shut a.plan.now.tables p.fits (seen a.w.now) a.s t (λ e. absurd (omega (arith, e))) (rw (c.in-Only.is, lt-ltb t nobody low) at k)
          (ap (λ u. eqb (closing a.plan.now.tables (seen a.w.now) u a.s) 0) (sym w.from.ensures) ∙ sym (w.can_close-closes.ensures p l h) ∙ sym w.closes-is ∙ c.if-closes.false))
      | else-t-plan w ↦ sym (only_past a.plan.now.tables p.fits (seen a.w.now) a.s t w.if-t-plan.false (rw c.in-Only.is at k))
    ]

pub returns-in-Anyone-clause-value : goal.returns-in-Anyone-clause-value
returns-in-Anyone-clause-value c p l k below above starts = let a = c.args in
    let long : length a.w.now.delivered ≡ 2048 = search rules in
    c.closes_first.ensures.value p l below above
    (head_stands a.plan.now a.w.now (codes a.order.now) a.s a.p a.q c.head_number-head.result p long c.requires.ordered below above starts c.head_number-head.ensures.value)
