-- At each `return` the tests that led there say which case of `values_fit` holds.
use Rattle.std.proofs.Common.{arith}
use Rattle.std.proofs.lemmas.Grind.{common_steps}
use Rattle.records.specs.Rule.{values_fit}
use Rattle.records.proofs.values_fit.Goals as goal

pub returns-then-len-le256 : goal.returns-then-len-le256
unfolding values_fit
returns-then-len-le256 c = grind (arith, common_steps)

pub returns-else-len-le256 : goal.returns-else-len-le256
unfolding values_fit
returns-else-len-le256 c = grind (arith, common_steps)
