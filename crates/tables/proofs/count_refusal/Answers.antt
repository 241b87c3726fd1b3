-- `tables::count_refusal` meets its contract. The tests are those of `count_refusal`, in its order.
use Rattle.std.proofs.Common.{arith}
use Rattle.tables.specs.Judge.{count_refusal}
use Rattle.tables.proofs.count_refusal.Goals as goal

pub returns-then-t-ge128 : goal.returns-then-t-ge128
unfolding count_refusal
returns-then-t-ge128 c = grind arith

pub returns : goal.returns
unfolding count_refusal
returns c = grind arith
