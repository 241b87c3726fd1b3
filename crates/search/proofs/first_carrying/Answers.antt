use Rattle.std.proofs.Common.{◌≡◌, ◌<◌, refl, sym, ◌∙◌, get_or, set, get_or-set_same, length, arith, rules}
use Rattle.bounded.proofs.Truth.{clash}
use Rattle.order.specs.Order.{codes}
use Rattle.plan.specs.Planned.{Planned}
use Rattle.search.specs.Search.{seen}
use Rattle.search.specs.Known.{first_pair, Knows}
use Rattle.search.proofs.Carrying.{knows_sought, none_open, open_carries, knows_tried}
use Rattle.search.proofs.first_carrying.Goals as goal
use Rattle.search.proofs.first_carrying.Goals.{After-unwrap_or}

-- the first pair of the transaction at the position
first : (c : After-unwrap_or) → Planned c.args.plan.now → Knows c.args.plan.now.tables (seen c.args.w.now) (codes c.args.order.now) c.loop-i.known
    → c.unwrap_or.result ≡ first_pair c.args.plan.now.tables c.args.w.now.cast c.args.w.now.carried c.in_ok-t.t
first c p k = c.unwrap_or.ensures ∙ c.pair_from-pair.ensures.value p (k.passed c.in_ok-t.t)

-- what is known with the position and the pair stored
knows : (c : After-unwrap_or) → Planned c.args.plan.now → Knows c.args.plan.now.tables (seen c.args.w.now) (codes c.args.order.now) c.loop-i.known
    → Knows c.args.plan.now.tables (seen c.args.w.now) (codes c.args.order.now) (record c.loop-i.known { «open» = c.in-Some.i; passed = set c.loop-i.known.passed c.in_ok-t.t c.unwrap_or.result })
knows c p k =
    let T = c.args.plan.now.tables in
    let w = seen c.args.w.now in
    let order = codes c.args.order.now in
    let l = c.loop-i.known in
    let t = c.in_ok-t.t in
    let left : get_or l.passed t 0 < 256 = rw c.in_ok-t.ensures.value c.in-Some.ensures.some.1 in
    knows_tried T w order (record l { «open» = c.in-Some.i }) t c.unwrap_or.result (knows_sought T w order l k c.in-Some.i c.in-Some.ensures.by_index) c.in_ok-t.ensures.low (search rules) left (first c p k)

pub returns-in-Some-pair-clause-knows : goal.returns-in-Some-pair-clause-knows
returns-in-Some-pair-clause-knows c p k₀ =
    let past = goal.at.returns-in-Some-pair-clause-knows c in
    let T = c.args.plan.now.tables in
    let w = seen c.args.w.now in
    let order = codes c.args.order.now in
    let k = c.loop-i.invariant p k₀ in
    let t = c.in_ok-t.t in
    let q = c.in-Some-pair.q in
    let e : c.unwrap_or.result ≡ q = c.unwrap_or.ensures ∙ rw c.in-Some-pair.is refl in
    let pair = sym e ∙ first past.After-unwrap_or p k in
    let low : t < length c.loop-i.known.passed = search rules in (
      knows past.After-unwrap_or p k,
      (
        (
          open_carries T w order c.loop-i.known k c.in-Some.i c.in-Some.ensures.by_index p.fits t c.in_ok-t.ensures.value c.in_ok-t.ensures.low (rw (← pair) c.in-Some-pair.ensures.bound),
          pair,
          get_or-set_same c.loop-i.known.passed t c.unwrap_or.result 0 low ∙ e,
        ),
        λ z. clash refl z,
      ),
    )

pub loop-i-preserved : goal.loop-i-preserved
loop-i-preserved c p k₀ = knows (goal.at.loop-i-preserved c).After-unwrap_or p (c.loop-i.invariant p k₀)

pub returns-clause-knows : goal.returns-clause-knows
returns-clause-knows c p k₀ =
    let T = c.args.plan.now.tables in
    let w = seen c.args.w.now in
    let order = codes c.args.order.now in
    let k = c.loop-i.invariant p k₀ in (
      knows_sought T w order c.loop-i.known k 128 c.in_default.ensures.by_index,
      (tt, λ _. none_open T w order c.loop-i.known k 128 c.in_default.ensures.by_index p.fits (omega arith)),
    )
