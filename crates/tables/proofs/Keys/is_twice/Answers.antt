-- `Keys::is_twice` meets its contract. The chain tests the keys from the last down, as `twice` does.
use Rattle.std.proofs.Common.{rules}
use Rattle.bounded.proofs.Ranges.{any_below_Rev}
use Rattle.tables.specs.Lists.{twice}
use Rattle.tables.proofs.Keys.is_twice.Goals as goal

pub returns : goal.returns
unfolding twice
returns c = any_below_Rev _ _ _ _ _ _ _ c.any.ensures.ran (λ x b q h. (search rules, λ l. search rules)) c.rev.ensures.source c.from.ensures
