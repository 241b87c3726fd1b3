-- `rules::certify` meets its contract. The chain asks each of the reads, as `certify_in` does.
use Rattle.std.proofs.Common.{rules, ◌≡◌, sym, ap, cond}
use Rattle.bounded.proofs.Ranges.{all_below_Rev}
use Rattle.tables.specs.Lists.{read_row, read_count}
use Rattle.tables.specs.Sites.{site_keys}
use Rattle.plan.specs.Planned.{Planned}
use Rattle.rules.specs.Votes.{certify_in}
use Rattle.rules.proofs.certify.Goals as goal
use Rattle.rules.proofs.certify.Goals.{After-all-is_yes}

asked : (c : After-all-is_yes) → Planned c.args.plan.now
    → certify_in c.args.w.now.versions c.args.w.now.readversions c.args.w.now.recorded (read_row c.args.plan.now.tables c.args.t) (read_count c.args.plan.now.tables c.args.t) c.args.t c.args.s (site_keys c.args.plan.now.tables c.args.s)
    ≡ cond c.all-is_yes.result 1 2
unfolding certify_in
asked c p = rw (← p.site_sets c.args.s c.requires.t_bound.1) (ap (λ b. cond b 1 2) (sym (
    all_below_Rev _ _ _ _ _ _ (read_count c.args.plan.now.tables c.args.t) c.all-is_yes.ensures.ran (λ x b q h. (search rules, λ l. search rules)) c.rev.ensures.source c.reads.ensures
    )))

pub returns-then-is_yes : goal.returns-then-is_yes
returns-then-is_yes c p = rw (asked (goal.at.returns-then-is_yes c).After-all-is_yes p, c.if-is_yes.true)

pub returns-else-is_yes : goal.returns-else-is_yes
returns-else-is_yes c p = rw (asked (goal.at.returns-else-is_yes c).After-all-is_yes p, c.if-is_yes.false)
