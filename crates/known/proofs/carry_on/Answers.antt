use Rattle.std.proofs.Common.{ℕ, ◌≡◌, ◌+◌, ◌*◌, ◌/◌, ◌%◌, ◌<◌, Bool, true, cond, List, eqb, length, length-set, set, arith, ap, refl, sym, ◌∙◌}
use Rattle.keys.specs.Keys.{member, adding}
use Rattle.parts.specs.Cells.{cell}
use Rattle.parts.specs.Changed.{with_votes}
use Rattle.parts.specs.declared.Parts.{Parts}
use Rattle.order.specs.Order.{codes}
use Rattle.tables.specs.Fits.{Fits}
use Rattle.tables.specs.Sites.{site_count}
use Rattle.tables.specs.declared.Tables.{Tables}
use Rattle.refusals.specs.Refusals.{carry_refusal_in}
use Rattle.search.specs.Search.{Seen, closing, seen}
use Rattle.search.specs.Known.{Knows}
use Rattle.search.specs.declared.Closable.TheVariants.{Only}
use Rattle.search.specs.declared.Known.{Known}
use Rattle.known.specs.After.{carried_parts}
use Rattle.known.proofs.Handing.{Goes, goes_first, goes_opened, goes_some, Handed, goes_by, goes_known, on_taker, on_knows, on_handed, handed_ends, handed_goes}
use Rattle.known.proofs.carry_on.Goals as goal
use Rattle.known.proofs.carry_on.Goals.{then-can_carry+else-closes_now, else-can_carry, then-loop-q-test+else-k-n, else-loop-q-test}

-- where the pair q can carry, it has carried once more, and r is whether t can be closed by it, as `closes_now` says; from w on only the votes carried have changed
module _ (T : Tables) (fits : Fits T) (w v : Parts) (votes : v ≡ with_votes w v.carried) (order : List ℕ) (l m : Known) (t k q : ℕ) (c : List ℕ) (r : Bool) where
  carries : Goes T (seen w) order l t k q v.carried → q < 256
      → eqb (carry_refusal_in T v.cast v.carried t (q / 16) (q % 16)) 0 ≡ true
      → c ≡ set v.carried (t * 16 + q % 16) (cond (member (cell 0 v.carried t (q % 16)) (q / 16)) (cell 0 v.carried t (q % 16)) (adding (cell 0 v.carried t (q % 16)) (q / 16)))
      → length c ≡ 2048 → q % 16 < length l.closable
      → (q % 16 < site_count T → Knows T (seen (with_votes v c)) order (record l { closable = set l.closable (q % 16) (Only t) })
      → Knows T (seen (with_votes v c)) order m × (r ≡ eqb (closing T (seen (with_votes v c)) t (q % 16)) 0))
      → Handed T (seen w) order m t k q c × (r ≡ eqb (closing T (carried_parts (seen w) c) t (q % 16)) 0)
  carries g h z hand long b asked =
      let same = ap (λ (u : Parts). carried_parts (seen u) c) votes in
      let room : t * 16 + q % 16 < length v.carried = omega (arith, g.handing.txn, fits.txns, simp length-set at (ap length hand)) in
      let y = ap (λ (u : Parts). eqb (carry_refusal_in T u.cast v.carried t (q / 16) (q % 16)) 0) (sym votes) ∙ z in
      let now = asked (on_taker T fits (seen w) order l t k q v.carried g h y room c hand) (rw same (on_knows T fits (seen w) order l t k q v.carried g h y room c hand b)) in
      (on_handed T fits (seen w) order l t k q v.carried g h y room c hand m (rw same at now.0), now.1 ∙ ap (λ (u : Seen). eqb (closing T u t (q % 16)) 0) same)

pub loop-q-init : goal.loop-q-init
loop-q-init c = (omega arith, refl, refl, λ from to p k e. goes_first c.args.plan.now.tables p.fits _ _ c.args.known.now c.args.t from to k e)

pub returns-then-closes_now-clause-carried : goal.returns-then-closes_now-clause-carried
returns-then-closes_now-clause-carried c from to p k e =
    let a = c.args in
    let b = c.loop-q in
    let T = a.plan.now.tables in
    let w = seen a.w.now in
    let kept = c.closes_now.ensures.kept in
    let x = (carries T p.fits a.w.now b.w b.invariant.2 (codes a.order.now) b.known c.closes_now.new.known a.t b.k b.q c.hand.new.carried c.closes_now.result
    (b.invariant.3 from to p k e) c.loop-q-test.true (sym (c.can_carry.ensures p) ∙ c.if-can_carry.true)
    c.hand.ensures c.hand.array_long.6 (omega arith) (λ at new. c.closes_now.ensures.knows p (rw p.sites at) new)).0 in (
      x.carried,
      (handed_ends T p.fits w (codes a.order.now) c.closes_now.new.known a.t b.k b.q c.hand.new.carried x (omega (arith, ap (λ (l : Known). length l.passed) kept)) (λ i h y. goes_opened T p.fits w (codes a.order.now) a.known.now a.t from to k e i (omega (arith, ap (λ (l : Known). l.open) kept, b.invariant.1)) y), λ _. omega arith),
    )

pub loop-q-preserved : goal.loop-q-preserved
loop-q-preserved c =
    let a = c.args in
    let b = c.loop-q in
    let T = a.plan.now.tables in
    elim c.if-can_carry.branch [
      | then-can_carry+else-closes_now w ↦
          let told = w.closes_now.new.known in
          let kept = w.closes_now.ensures.kept in
          rw (w.w-is, w.known-is, w.k-is) (
            omega arith,
            ap (λ (l : Known). l.open) kept ∙ b.invariant.1,
            ap (λ (v : Parts). with_votes v w.hand.new.carried) b.invariant.2,
            λ from to p k e.
                let x = carries T p.fits a.w.now b.w b.invariant.2 (codes a.order.now) b.known told a.t b.k b.q w.hand.new.carried w.closes_now.result
                (b.invariant.3 from to p k e) c.loop-q-test.true (sym (c.can_carry.ensures p) ∙ w.if-can_carry.true)
                w.hand.ensures w.hand.array_long.6 (omega arith) (λ at new. w.closes_now.ensures.knows p (rw p.sites at) new) in
                handed_goes T p.fits (seen a.w.now) (codes a.order.now) told a.t b.k b.q w.hand.new.carried x.0 (sym x.1 ∙ w.if-closes_now.false),
          )
      | else-can_carry w ↦
          rw (w.w-is, w.known-is, w.k-is) (
            b.invariant.0,
            b.invariant.1,
            b.invariant.2,
            λ from to p k e. goes_by T p.fits _ _ _ _ _ _ _ (b.invariant.3 from to p k e) (ap (λ (v : Parts). eqb (carry_refusal_in T v.cast b.w.carried a.t (b.q / 16) (b.q % 16)) 0) (sym b.invariant.2) ∙ sym (c.can_carry.ensures p) ∙ w.if-can_carry.false),
          )
    ]

pub returns-clause-carried : goal.returns-clause-carried
returns-clause-carried c from to p k e =
    let b = c.loop-q in
    let g = b.invariant.3 from to p k e in (
      g.carried,
      (
        goes_known _ p.fits _ _ _ _ _ _ _ g (omega arith) (λ i h y. goes_opened _ p.fits _ _ _ _ from to k e i (rw (← b.invariant.1) h) y),
        λ m. elim c.loop-q-test.branch [
          | then-loop-q-test+else-k-n w ↦ omega (arith, w.if-k-n.false)
          | else-loop-q-test w ↦ goes_some _ p.fits _ _ _ _ from to k e _ _ _ _ w.loop-q-test.false g
        ],
      ),
    )
