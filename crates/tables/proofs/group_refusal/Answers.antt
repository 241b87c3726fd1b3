-- `tables::group_refusal` meets its contract. The tests are those of `size_refusal`, in its order.
use Rattle.std.proofs.Common.{arith}
use Rattle.tables.specs.Judge.{size_refusal}
use Rattle.tables.proofs.group_refusal.Goals as goal

pub returns-then-g-ge8 : goal.returns-then-g-ge8
unfolding size_refusal
returns-then-g-ge8 c = grind arith

pub returns : goal.returns
unfolding size_refusal
returns c = grind arith
