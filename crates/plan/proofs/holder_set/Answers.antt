use Rattle.std.proofs.Common.{ℕ, ◌≡◌, sym, ◌∙◌, Bool, arith, get_or, le-ltb}
use Rattle.keys.proofs.Laws.{none_member}
use Rattle.keys.specs.Keys.{member}
use Rattle.plan.proofs.Questions.{below_step}
use Rattle.plan.proofs.holder_set.Goals as goal
use Rattle.plan.proofs.holder_set.Goals.{then-has, else-has}

pub loop-s-init : goal.loop-s-init
loop-s-init c j = rw (le-ltb j 0 (omega arith)) (none_member j)

pub loop-s-preserved : goal.loop-s-preserved
loop-s-preserved c j =
    let p : ℕ → Bool = λ i. member (get_or c.args.site_sets.now i 0) c.args.k in
    let h : p c.loop-s.s ≡ c.has.result = sym c.has.ensures in
    elim c.if-has.branch [
      | then-has w ↦ rw w.m-is (w.with-m.ensures.members j ∙ rw (c.loop-s.invariant j) (rw (h ∙ w.if-has.true) at (sym (below_step c.loop-s.s j p))))
      | else-has w ↦ rw w.m-is (c.loop-s.invariant j ∙ rw (h ∙ w.if-has.false) at (sym (below_step c.loop-s.s j p)))
    ]
