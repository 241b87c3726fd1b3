-- The keys of t are the union of two rows.
use Rattle.std.proofs.Common.{◌∙◌}
use Rattle.plan.proofs.Questions.{plan_concerns}
use Rattle.plan.proofs.Plan.is_concerned.Goals as goal

pub returns : goal.returns
returns c p l = c.meet.ensures ∙ plan_concerns _ p c.args.t l c.keys_of.result c.keys_of.type_inv c.keys_of.ensures c.args.s c.requires.1
