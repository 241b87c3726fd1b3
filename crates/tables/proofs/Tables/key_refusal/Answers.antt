-- `Tables::key_refusal` meets its contract. The tests are those of `key_refusal`, in its order.
use Rattle.std.proofs.Common.{arith}
use Rattle.tables.specs.Judge.{key_refusal}
use Rattle.tables.proofs.Tables.key_refusal.Goals as goal

pub returns-then-not-are_present : goal.returns-then-not-are_present
unfolding key_refusal
returns-then-not-are_present c = grind arith

pub returns-then-is_twice : goal.returns-then-is_twice
unfolding key_refusal
returns-then-is_twice c = grind arith

pub returns : goal.returns
unfolding key_refusal
returns c = grind arith
