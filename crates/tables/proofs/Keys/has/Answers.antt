-- `Keys::has` meets its contract. The chain tests the keys from the last down, as `in_row` does.
use Rattle.std.proofs.Common.{rules, refl}
use Rattle.bounded.proofs.Ranges.{any_below_Rev}
use Rattle.tables.specs.Lists.{in_row}
use Rattle.tables.proofs.Keys.has.Goals as goal

pub returns : goal.returns
unfolding in_row
returns c = any_below_Rev _ _ _ _ _ _ _ c.any.ensures.ran (λ x b q h. (search rules, λ l. search rules)) c.rev.ensures.source refl
