-- `Keys::are_present` meets its contract. The chain tests the keys from the last down, as `present` does.
use Rattle.std.proofs.Common.{rules}
use Rattle.bounded.proofs.Ranges.{all_below_Rev}
use Rattle.tables.specs.Lists.{present}
use Rattle.tables.proofs.Keys.are_present.Goals as goal

pub returns : goal.returns
unfolding present
returns c = all_below_Rev _ _ _ _ _ _ _ c.all.ensures.ran (λ x b q h. (search rules, λ l. search rules)) c.rev.ensures.source c.from.ensures
