-- The set has the first i keys of the row.
use Rattle.std.proofs.Common.{ℕ, ◌≡◌}
use Rattle.keys.specs.Keys.{member}
use Rattle.tables.specs.Lists.{in_row}
use Rattle.plan.proofs.row_set.Given as goal

abbrev pub invariant-loop-i : goal.invariant-loop-i
invariant-loop-i l = (k : ℕ) → member l.m k ≡ in_row l.row.keys l.i k
