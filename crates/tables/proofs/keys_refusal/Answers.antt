-- `tables::keys_refusal` meets its contract. The tests are those of `keys_refusal`, in its order.
use Rattle.std.proofs.Common.{arith}
use Rattle.tables.specs.Judge.{keys_refusal}
use Rattle.tables.proofs.keys_refusal.Goals as goal

pub returns-then-keys-eq0 : goal.returns-then-keys-eq0
unfolding keys_refusal
returns-then-keys-eq0 c = grind arith

pub returns : goal.returns
unfolding keys_refusal
returns c = grind arith
