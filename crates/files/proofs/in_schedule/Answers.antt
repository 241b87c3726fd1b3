-- Each `return` by the tests that led there.
use Rattle.std.proofs.Common.{arith}
use Rattle.std.proofs.lemmas.Grind.{common_steps}
use Rattle.files.specs.Schedule.{in_schedule}
use Rattle.files.proofs.in_schedule.Goals as goal

pub returns-then-tag-ge16 : goal.returns-then-tag-ge16
unfolding in_schedule
returns-then-tag-ge16 c = grind (arith, common_steps)

pub returns-else-tag-ge16 : goal.returns-else-tag-ge16
unfolding in_schedule
returns-else-tag-ge16 c = grind (arith, common_steps)
