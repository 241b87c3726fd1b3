-- The set that t reads meets the keys of s where one of the row is among them.
use Rattle.std.proofs.Common.{rules, ◌∙◌}
use Rattle.plan.proofs.Questions.{plan_votes}
use Rattle.plan.proofs.Plan.is_voter.Goals as goal

pub returns : goal.returns
returns c p l =
    c.meet.ensures ∙ plan_votes _ p c.args.t l (search rules) c.args.s c.requires.1
