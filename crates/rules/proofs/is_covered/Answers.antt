-- `rules::is_covered` meets its contract. The chain asks each of the reads, whose key is below 64.
use Rattle.std.proofs.Common.{rules, ◌∙◌}
use Rattle.bounded.proofs.Laws.{all_same}
use Rattle.bounded.proofs.Ranges.{all_below_Rev}
use Rattle.tables.specs.Lists.{read_count, read_key}
use Rattle.rules.specs.Votes.{covered_in}
use Rattle.rules.proofs.Votes.{covers}
use Rattle.rules.proofs.is_covered.Goals as goal

pub returns : goal.returns
unfolding covered_in
returns c own carried s p held =
    all_below_Rev _ _ _ _ _ _ (read_count c.args.plan.now.tables c.args.t) c.all.ensures.ran (λ x b q h. (search rules, λ l. search rules)) c.rev.ensures.source c.reads.ensures
    ∙ all_same _ _ _ (λ i l. covers c.args.plan.now c.args.held own carried s (read_key c.args.plan.now.tables c.args.t i) p held (c.requires.laid.read_low c.args.t i c.requires.t_bound l))
