-- The tables with one record more.
use Rattle.std.specs.Prelude.{ℕ, ◌+◌, ◌/◌, List, set, get_or}
use Rattle.tables.specs.Lists.{no_txn, reads_in, writes_in}
use Rattle.tables.specs.declared.Tables.{Tables}
use Rattle.records.specs.Number.{number, row}

-- KEYS: first values, 4 bytes each
unfoldable pub with_keys : Tables → List ℕ → ℕ → ℕ → Tables
with_keys T s start len = record T { keys = len / 4; first = row 4 4 s start 0 T.first (len / 4) }

-- GROUP: site count, mask of held keys
unfoldable pub with_group : Tables → List ℕ → ℕ → Tables
with_group T s start = record T {
  groups = T.groups + 1;
  group = set T.group T.groups (record { sites = number s start 1; keys = number s (start + 1) 8 });
}

-- TXN: r, r key bytes, w, w pairs of key and value
abbrev pub reads_of : List ℕ → ℕ → ℕ
reads_of s start = number s start 1

abbrev pub writes_at : List ℕ → ℕ → ℕ
writes_at s start = start + 1 + reads_of s start

abbrev pub writes_of : List ℕ → ℕ → ℕ
writes_of s start = number s (writes_at s start) 1

unfoldable pub with_txn : Tables → List ℕ → ℕ → Tables
with_txn T s start = record T {
  txns = T.txns + 1;
  txn = set T.txn T.txns (record {
    reads = record { count = reads_of s start; keys = row 1 1 s (start + 1) 0 (reads_in T.txn T.txns).keys (reads_of s start) };
    writes = record { count = writes_of s start; keys = row 1 5 s (writes_at s start + 1) 0 (writes_in T.txn T.txns).keys (writes_of s start) };
    values = row 4 5 s (writes_at s start + 2) 0 (get_or T.txn T.txns no_txn).values (writes_of s start);
  });
}
