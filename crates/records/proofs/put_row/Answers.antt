use Rattle.std.proofs.Common.{refl}
use Rattle.records.specs.Number.{row_of}
use Rattle.records.proofs.Laws.{row_up}
use Rattle.records.proofs.put_row.Goals as goal

pub loop-i-init : goal.loop-i-init
unfolding row_of
loop-i-init g c = refl

pub loop-i-preserved : goal.loop-i-preserved
loop-i-preserved g c = rw (c.loop-i.invariant, row_up, ← c.read.ensures)
