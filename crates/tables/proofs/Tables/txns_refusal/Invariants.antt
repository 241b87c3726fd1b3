-- `Tables::txns_refusal` meets its contract. No transaction below t is refused, and `stops` takes the first refusal out of the loop.
use Rattle.std.proofs.Common.{◌≡◌}
use Rattle.bounded.specs.Bounded.{first_of}
use Rattle.tables.specs.Judge.{txn_refusal}
use Rattle.tables.proofs.Tables.txns_refusal.Given as goal

abbrev pub invariant-loop-t : goal.invariant-loop-t
invariant-loop-t l = first_of l.t (txn_refusal l.self) ≡ 0
