-- The stores are those of `with_group`; a byte is a number of one byte.
use Rattle.records.proofs.Laws.{byte}
use Rattle.files.specs.Rows.{with_group}
use Rattle.files.proofs.with_group.Goals as goal

pub returns : goal.returns
unfolding with_group
returns c = rw (c.from.ensures, byte, c.read.ensures)
