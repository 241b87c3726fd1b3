use Rattle.std.proofs.Common.{◌≡◌, ◌<◌, ◌≤◌, refl, get_or, le-ltb, arith, rules}
use Rattle.bounded.specs.Bounded.{first_below}
use Rattle.bounded.proofs.Truth.{clash}
use Rattle.bounded.proofs.Laws.{least_up}
use Rattle.order.specs.Order.{codes}
use Rattle.parts.specs.Cells.{nobody}
use Rattle.tables.specs.Sites.{site_count}
use Rattle.search.specs.Search.{seen, nowhere, closes_first_in, first_closing_in}
use Rattle.search.specs.declared.Closable.TheVariants.{Nobody}
use Rattle.search.proofs.Entries.{closing_get}
use Rattle.search.proofs.Stored.{knows_below, knows_moved}
use Rattle.search.proofs.Closing.{code_past, knows_none, first_site}
use Rattle.search.proofs.first_closing.Goals as goal
use Rattle.search.proofs.first_closing.Goals.{In-loop-s, then-ne+in_default, else-ne}

pub loop-s-init : goal.loop-s-init
unfolding first_below
loop-s-init c p k = (k, refl)

-- s is a site
site : (c : In-loop-s) → c.loop-s.s < 16
site c = omega (arith, c.loop-s-test.true, c.requires.laid.sites)

pub returns-in-Some-clause-knows : goal.returns-in-Some-clause-knows
returns-in-Some-clause-knows c p k₀ =
    let (k, none) = c.loop-s.invariant p k₀ in
    let T = c.args.plan.now.tables in
    let w = seen c.args.w.now in
    let order = codes c.args.order.now in
    let l = c.loop-s.known in
    let s = c.loop-s.s in
    let low = site (goal.at.returns-in-Some-clause-knows c).In-loop-s in
    let h = c.head_from-p.ensures in
    -- the first that can be closed at s is found
    let found : c.in-Some.t ≡ closes_first_in T w s =
    c.in-Some.ensures.value p c.loop-s-test.true (closing_get T w l.closable k.closing s (search rules))
    (knows_below T w order l k s low c.head_from-p.result h.by_index) (λ i b. k.top s i low b) h.result_value in (
      knows_moved T w order l k s low c.head_from-p.result h.by_index,
      ((first_site T p.fits w s c.in-Some.t (omega (arith, c.loop-s-test.true, p.sites)) none found c.in-Some.ensures.low, found), λ e. clash refl e),
    )

pub loop-s-preserved : goal.loop-s-preserved
loop-s-preserved c p k₀ =
    let T = c.args.plan.now.tables in
    let w = seen c.args.w.now in
    let order = codes c.args.order.now in
    let l = c.loop-s.known in
    let s = c.loop-s.s in
    let low = site (goal.at.loop-s-preserved c).In-loop-s in
    let (k, none) = c.loop-s.invariant p k₀ in
    elim c.if-ne.branch [
      | then-ne+in_default g ↦
          let h = g.head_from-p.ensures in
          -- the first that can be closed at s is found, and there is none
          let found : nobody ≡ closes_first_in T w s =
          rw g.in_default.is at (g.closes_one.ensures.value p c.loop-s-test.true (closing_get T w l.closable k.closing s (search rules))
          (knows_below T w order l k s low g.head_from-p.result h.by_index) (λ i b. k.top s i low b) h.result_value) in
          let shut : nobody ≤ closes_first_in T w s = omega (arith, found) in (
            rw g.known-is (knows_none T w order _ (knows_moved T w order l k s low g.head_from-p.result h.by_index) s p.fits shut),
            least_up s _ nowhere none (le-ltb _ _ shut),
          )
      | else-ne g ↦
          let z : get_or l.closable s Nobody ≡ Nobody = search rules in
          let shut : closes_first_in T w s ≡ nobody = code_past T p.fits w s nobody p.fits.txns (λ e. absurd (omega (arith, e))) (rw z at (closing_get T w l.closable k.closing s (search rules))) in
          (rw g.known-is k, least_up s _ nowhere none (le-ltb (closes_first_in T w s) nobody (omega (arith, shut))))
    ]

pub returns-clause-knows : goal.returns-clause-knows
unfolding first_closing_in
returns-clause-knows c p k₀ =
    let (k, none) = c.loop-s.invariant p k₀ in
    let z : c.loop-s.s ≡ site_count c.args.plan.now.tables = omega (arith, c.loop-s-test.false, p.sites) in
    (k, (tt, λ _. rw z at none))
