-- Tables without keys, sites or transactions.
use Rattle.std.specs.Prelude.{replicate}
use Rattle.tables.specs.Sites.{no_group}
use Rattle.tables.specs.declared.Keys.{Keys}
use Rattle.tables.specs.declared.Txn.{Txn}
use Rattle.tables.specs.declared.Tables.{Tables}

-- eight places for keys, none of them taken
abbrev pub empty_keys : Keys
empty_keys = record { count = 0; keys = replicate 8 0 }

abbrev pub empty_txn : Txn
empty_txn = record { reads = empty_keys; writes = empty_keys; values = replicate 8 0 }

unfoldable pub no_tables : Tables
no_tables = record {
  keys = 0;
  first = replicate 64 0;
  groups = 0;
  group = replicate 8 no_group;
  txns = 0;
  txn = replicate 128 empty_txn;
}
