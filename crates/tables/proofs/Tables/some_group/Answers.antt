-- `Tables::some_group` meets its contract. The chain tests the groups from the last down, as `some_group` does.
use Rattle.std.proofs.Common.{rules}
use Rattle.bounded.proofs.Ranges.{any_below_Rev}
use Rattle.tables.specs.Judge.{some_group}
use Rattle.tables.proofs.Tables.some_group.Goals as goal

pub returns : goal.returns
unfolding some_group
returns c = any_below_Rev _ _ _ _ _ _ _ c.any.ensures.ran (λ x b q h. (search rules, λ l. search rules)) c.rev.ensures.source c.from.ensures
