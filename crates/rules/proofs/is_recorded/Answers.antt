-- `rules::is_recorded` meets its contract. The chain asks each of the n reads.
use Rattle.std.proofs.Common.{rules, refl}
use Rattle.bounded.proofs.Ranges.{all_below_Rev}
use Rattle.rules.proofs.is_recorded.Goals as goal

pub returns : goal.returns
returns c = all_below_Rev _ _ _ _ _ _ _ c.all.ensures.ran (λ x b q h. (search rules, λ l. search rules)) c.rev.ensures.source refl
