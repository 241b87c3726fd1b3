-- The loop's invariant: the first i numbers are stored.
use Rattle.std.proofs.Common.{◌≡◌}
use Rattle.records.specs.Number.{row_of}
use Rattle.records.proofs.put_row.Given as goal

abbrev pub invariant-loop-i : goal.invariant-loop-i
invariant-loop-i g l = l.l ≡ row_of g.T.Field.of g.T.Field.width l.step l.s l.at l.base l.initial.l l.i
