-- Tables whose counts are within their limits.
use Rattle.std.specs.Prelude.{ℕ, ◌≤◌, ◌<◌, List}
use Rattle.tables.specs.Lists.{reads_in, writes_in}
use Rattle.tables.specs.Sites.{site_count}
use Rattle.tables.specs.declared.Txn.{Txn}
use Rattle.tables.specs.declared.Tables.{Tables}

-- of n transactions, each has eight reads and eight writes at most
abbrev pub Short : List Txn → ℕ → Type 0
Short txn n = (t : ℕ) → t < n → ((reads_in txn t).count ≤ 8) × ((writes_in txn t).count ≤ 8)

pub record Fits (T : Tables) : Type 0 where
  pub groups : T.groups ≤ 8
  pub sites : site_count T ≤ 16
  pub txns : T.txns ≤ 128
  pub short : Short T.txn T.txns
