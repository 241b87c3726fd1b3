-- A byte is a number of one byte.
use Rattle.std.proofs.Common.{sym}
use Rattle.records.proofs.Laws.{byte}
use Rattle.records.proofs.U8Field.read.Goals as goal

pub returns : goal.returns
returns c = sym (byte c.args.s.now c.args.at)
