use Rattle.std.proofs.Common.{sym, ap, ◌∙◌, eqb, arith}
use Rattle.order.specs.Order.{codes}
use Rattle.search.specs.Search.{seen, closing}
use Rattle.search.proofs.Closing.{first_closes, none_first}
use Rattle.search.proofs.closes_first.Goals as goal

pub returns-then-can_close-clause-value : goal.returns-then-can_close-clause-value
returns-then-can_close-clause-value c p l below above h = let a = c.args in let e = c.in-Some.ensures in
    e.value
    ∙ sym (first_closes a.plan.now.tables (seen a.w.now) (codes a.order.now) a.s a.p a.q p.fits.txns c.requires.ordered below above c.loop-i.i
    (c.loop-i.invariant p l h) (omega (arith, e.value, e.low))
    (ap (λ t. eqb (closing a.plan.now.tables (seen a.w.now) t a.s) 0) (sym e.value) ∙ sym (c.can_close.ensures p l h) ∙ c.if-can_close.true))

pub returns-clause-value : goal.returns-clause-value
returns-clause-value c p l below above h = let a = c.args in
    sym (none_first a.plan.now.tables (seen a.w.now) (codes a.order.now) a.s a.p a.q p.fits.txns c.requires.ordered below above
    (λ j b d low. c.loop-i.invariant p l h j b (omega (arith, d, c.loop-i-test.false)) low))
