-- `tables::no_tables` meets its contract. The literal is `no_tables`.
use Rattle.std.proofs.Common.{rules}
use Rattle.tables.specs.Empty.{no_tables}
use Rattle.tables.proofs.no_tables.Goals as goal

pub returns : goal.returns
unfolding no_tables
returns c = search rules
