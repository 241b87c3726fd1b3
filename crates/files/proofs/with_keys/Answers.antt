-- The stores are those of `with_keys`.
use Rattle.files.specs.Rows.{with_keys}
use Rattle.files.proofs.with_keys.Goals as goal

pub returns : goal.returns
unfolding with_keys
returns c = rw c.put_row.ensures
