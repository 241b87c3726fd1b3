-- `machine::deliver_next` meets its contract. DELIVER is one turn, and `after_deliver` says what is known after it.
use Rattle.std.proofs.Common.{◌<◌, arith, sym, ◌∙◌}
use Rattle.machine.proofs.Loop.{delivers, turn_delivers}
use Rattle.machine.proofs.deliver_next.Goals as goal
use Rattle.machine.proofs.deliver_next.Goals.{After-from-site}

-- what is delivered is a transaction, and s a site
low : (c : After-from-site) → (c.in-Some.t < c.args.plan.now.tables.txns) × (c.from-site.result < 16)
low c =
    let (r, (e, q)) = c.requires.ready in
    let k = delivers _ r.1 e in
    (omega (arith, k.1, c.in-Some.ensures.value, q), omega (arith, k.0, r.0.fits.sites, c.from-site.ensures))

pub deliver_at-requires-clause-t_bound : goal.deliver_at-requires-clause-t_bound
deliver_at-requires-clause-t_bound c = low (goal.at.deliver_at-requires-clause-t_bound c).After-from-site

pub after_deliver-requires-clause-t_bound : goal.after_deliver-requires-clause-t_bound
after_deliver-requires-clause-t_bound c = let (x, y) = low (goal.at.after_deliver-requires-clause-t_bound c).After-from-site in
    (omega (arith, x, c.requires.ready.0.0.laid.txns), (y, c.requires.p_bound))

pub returns-in-Some : goal.returns-in-Some
returns-in-Some c = λ k.
    let (r, (e, q)) = c.requires.ready in
    let d = c.deliver_at.ensures in
    let b = c.from-site.ensures in
    let t = c.in-Some.ensures.value in
    let known = rw b at c.after_deliver.ensures in
    turn_delivers _ r.1 _ _ _ _ _ _ e (t ∙ q) (rw b at (d.value r.0)) (rw (d.parts, b))
    (known _ _ _ r.0 e (sym t) (low (goal.at.returns-in-Some c).After-from-site).0 (rw d.parts) k)

pub returns-in_default : goal.returns-in_default
returns-in_default c = let (r, (e, q)) = c.requires.ready in absurd (omega (arith, (delivers _ r.1 e).1, r.0.fits.txns, q, c.in_default.ensures.value))
