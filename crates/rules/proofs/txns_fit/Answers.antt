-- `rules::txns_fit` meets its contract. The chain asks each of the transactions.
use Rattle.std.proofs.Common.{rules}
use Rattle.bounded.proofs.Ranges.{all_below_Rev}
use Rattle.rules.specs.Fit.{txns_fit}
use Rattle.rules.proofs.txns_fit.Goals as goal

pub returns : goal.returns
unfolding txns_fit
returns c = all_below_Rev _ _ _ _ _ _ _ c.all.ensures.ran (λ x b q h. (search rules, λ l. search rules)) c.rev.ensures.source c.from.ensures
