use Rattle.std.proofs.Common.{◌≡◌, ◌<◌, true, refl, sym, eq-eqb, ne_eqb, arith}
use Rattle.std.proofs.lemmas.Bool.{eqb-false}
use Rattle.bounded.specs.Bounded.{first_below}
use Rattle.bounded.proofs.Truth.{clash}
use Rattle.bounded.proofs.Laws.{least_up, least_stop}
use Rattle.order.specs.Order.{codes}
use Rattle.tables.specs.Sites.{site_count}
use Rattle.search.specs.Search.{seen, first_delivering_in}
use Rattle.search.proofs.Stored.{knows_stuck}
use Rattle.search.proofs.first_delivering.Goals as goal
use Rattle.search.proofs.first_delivering.Goals.{then-not-known-s+in_default, else-not-known-s}

pub loop-s-init : goal.loop-s-init
unfolding first_below
loop-s-init c p k = (k, refl)

pub returns-in-Some-clause-knows : goal.returns-in-Some-clause-knows
unfolding first_delivering_in
returns-in-Some-clause-knows c p k =
    let (i, none) = c.loop-s.invariant p k in
    let g = c.in-Some.ensures.knows p i in
    let l : c.loop-s.s < site_count c.args.plan.now.tables = rw (← p.sites) c.loop-s-test.true in
    (g.0, ((sym (least_stop (site_count c.args.plan.now.tables) c.loop-s.s _ _ l p.fits.sites none (eq-eqb _ _ g.1.0.0)), g.1.0.1), λ e. clash refl e))

-- after s, which was stuck or is now
pub loop-s-preserved : goal.loop-s-preserved
loop-s-preserved c p k =
    let (i, none) = c.loop-s.invariant p k in
    elim c.if-not-known-s.branch [
      | then-not-known-s+in_default x ↦
          let g = x.can_deliver.ensures.knows p i in
          let no = g.1.1 (rw x.in_default.is refl) in
          (rw x.known-is (knows_stuck c.args.plan.now.tables (seen c.args.w.now) (codes c.args.order.now) _ g.0 c.loop-s.s true (λ _ z. eqb-false _ _ no z)), least_up _ _ _ none no)
      | else-not-known-s x ↦ (rw x.known-is i, least_up _ _ _ none (ne_eqb _ _ (i.stuck c.loop-s.s x.if-not-known-s.false)))
    ]

pub returns-clause-knows : goal.returns-clause-knows
unfolding first_delivering_in
returns-clause-knows c p k =
    let (i, none) = c.loop-s.invariant p k in
    let z : c.loop-s.s ≡ site_count c.args.plan.now.tables = omega (arith, c.loop-s-test.false, p.sites) in
    (i, (tt, λ _. rw z at none))
