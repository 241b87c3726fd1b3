use Rattle.std.proofs.Common.{refl, sym, ◌∙◌, arith}
use Rattle.bounded.specs.Bounded.{first_of, sum_below}
use Rattle.bounded.proofs.Laws.{of_up, sum_up, stops}
use Rattle.tables.proofs.Laws.{handed, group_at, ninth}
use Rattle.numbers.proofs.Laws.{file_above}
use Rattle.tables.proofs.Tables.groups_refusal.Goals as goal

pub loop-g-init : goal.loop-g-init
unfolding first_of sum_below
loop-g-init c = (refl, refl, omega arith)

pub returns-then-g-ge8 : goal.returns-then-g-ge8
returns-then-g-ge8 c = stops _ _ _ _ c.loop-g-test.true c.loop-g.invariant.0 (sym (ninth _ _ _ _ _ c.if-g-ge8.true)) (λ z. omega arith)

pub returns-in_err-group_refusal : goal.returns-in_err-group_refusal
returns-in_err-group_refusal c =
    handed _ _ c.from_residual.ensures.1
    ∙ stops _ _ _ _ c.loop-g-test.true c.loop-g.invariant.0 (c.in_err-group_refusal.ensures ∙ group_at c.args.self.now _ _ _ _ c.from.ensures c.from-n.ensures c.loop-g.invariant.1) (file_above _)

pub loop-g-preserved : goal.loop-g-preserved
loop-g-preserved c = (
  rw (of_up, c.loop-g.invariant.0) (sym (c.in_ok-group_refusal.ensures ∙ group_at c.args.self.now _ _ _ _ c.from.ensures c.from-n.ensures c.loop-g.invariant.1)),
  rw (sum_up, c.loop-g.invariant.1, c.from-n.ensures, c.from.ensures),
  omega (arith, c.loop-g.invariant.2),
)
