-- There is no group to begin with.
use Rattle.files.proofs.Falls.{no_groups}
use Rattle.files.proofs.read_setup.Goals as goal

pub read_tables-outcome-requires : goal.read_tables-outcome-requires
read_tables-outcome-requires c = rw c.no_tables-tables.ensures no_groups
