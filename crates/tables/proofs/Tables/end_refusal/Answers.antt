-- `Tables::end_refusal` meets its contract. The chain tests the keys from the last down, as `end_refusal` does.
use Rattle.std.proofs.Common.{◌≡◌, sym, rules, ◌∙◌}
use Rattle.bounded.specs.Bounded.{all_below}
use Rattle.bounded.proofs.Ranges.{all_below_Rev}
use Rattle.tables.specs.Judge.{some_group, end_refusal}
use Rattle.tables.proofs.Tables.end_refusal.Goals as goal
use Rattle.tables.proofs.Tables.end_refusal.Goals.{After-all}

-- what the chain answers
held : (c : After-all) → c.all.result ≡ all_below c.args.self.now.keys (some_group c.args.self.now.group c.args.self.now.groups)
held c = all_below_Rev _ _ _ _ _ _ _ c.all.ensures.ran (λ x b q h. (search rules, λ l. search rules)) c.rev.ensures.source c.from.ensures

pub returns-then-all : goal.returns-then-all
unfolding end_refusal
returns-then-all c = rw (sym (held (goal.at.returns-then-all c).After-all) ∙ c.if-all.true)

pub returns : goal.returns
unfolding end_refusal
returns c = rw (sym (held (goal.at.returns c).After-all) ∙ c.if-all.false)
