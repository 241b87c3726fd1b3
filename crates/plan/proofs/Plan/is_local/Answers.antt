use Rattle.std.proofs.Common.{refl, ◌∙◌, rules}
use Rattle.bounded.proofs.Ranges.{all_below_Rev}
use Rattle.plan.proofs.Questions.{plan_local}
use Rattle.plan.proofs.Plan.is_local.Goals as goal

pub returns : goal.returns
returns c p l =
    all_below_Rev _ _ _ _ _ _ c.args.self.now.sites c.all.ensures.ran (λ x b q h. (search rules, λ l. search rules)) c.rev.ensures.source refl
    ∙ plan_local _ p c.args.t l c.keys_of-all.result c.keys_of-all.type_inv c.keys_of-all.ensures
