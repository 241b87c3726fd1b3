use Rattle.std.proofs.Common.{rules, refl}
use Rattle.bounded.proofs.Ranges.{any_below_Rev}
use Rattle.known.specs.After.{shared}
use Rattle.known.proofs.is_shared.Goals as goal

pub returns : goal.returns
unfolding shared
returns c = any_below_Rev _ _ _ _ _ _ _ c.any.ensures.ran (λ x b q h. (search rules, λ l. search rules)) c.rev.ensures.source refl
