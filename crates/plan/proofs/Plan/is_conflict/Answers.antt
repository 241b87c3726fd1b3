-- The two calls are the two sides of `conflict`.
use Rattle.std.proofs.Common.{rules, ◌∙◌}
use Rattle.tables.specs.Lists.{conflict_in}
use Rattle.plan.proofs.Questions.{plan_reads}
use Rattle.plan.proofs.Plan.is_conflict.Goals as goal

pub returns-then-meet : goal.returns-then-meet
unfolding conflict_in
returns-then-meet c p l h = rw (← plan_reads _ p c.args.t l (search rules) c.args.u h, ← c.meet.ensures, c.if-meet.true)

pub returns-else-meet : goal.returns-else-meet
unfolding conflict_in
returns-else-meet c p l h =
    rw (← plan_reads _ p c.args.t l (search rules) c.args.u h, ← c.meet.ensures, c.if-meet.false)
    (c.meet-else-meet.ensures ∙ plan_reads _ p c.args.u h (search rules) c.args.t l)
