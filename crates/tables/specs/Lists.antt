-- What a transaction reads and writes.
use Rattle.std.specs.Prelude.{ℕ, Bool, ◌||◌, List, [], eqb, ltb, get_or}
use Rattle.bounded.specs.Bounded.{any_below, all_below}
use Rattle.tables.specs.declared.Keys.{Keys}
use Rattle.tables.specs.declared.Txn.{Txn}
use Rattle.tables.specs.declared.Tables.{Tables}

-- what stands past the last transaction: one without keys
abbrev pub no_keys : Keys
no_keys = record { count = 0; keys = [] }

abbrev pub no_txn : Txn
no_txn = record { reads = no_keys; writes = no_keys; values = [] }

-- the i-th of a list
abbrev pub row_at : List ℕ → ℕ → ℕ
row_at row i = get_or row i 0

-- of the first n of a list: k is among them; one stands twice; each is below the number of keys
unfoldable pub in_row : List ℕ → ℕ → ℕ → Bool
in_row row n k = any_below n (λ i. eqb (get_or row i 0) k)

unfoldable pub twice : List ℕ → ℕ → Bool
twice row n = any_below n (λ i. in_row row i (get_or row i 0))

unfoldable pub present : List ℕ → ℕ → ℕ → Bool
present row n keys = all_below n (λ i. ltb (get_or row i 0) keys)

-- one of the first n of a list is among the first m of another
unfoldable pub meets : List ℕ → ℕ → List ℕ → ℕ → Bool
meets row n other m = any_below n (λ i. in_row other m (get_or row i 0))

-- of transactions: what t reads, and writes; how many, and which
abbrev pub reads_in : List Txn → ℕ → Keys
reads_in txn t = (get_or txn t no_txn).reads

abbrev pub writes_in : List Txn → ℕ → Keys
writes_in txn t = (get_or txn t no_txn).writes

abbrev pub read_count : Tables → ℕ → ℕ
read_count T t = (reads_in T.txn t).count

abbrev pub read_row : Tables → ℕ → List ℕ
read_row T t = (reads_in T.txn t).keys

abbrev pub read_key : Tables → ℕ → ℕ → ℕ
read_key T t i = get_or (read_row T t) i 0

abbrev pub write_count : Tables → ℕ → ℕ
write_count T t = (writes_in T.txn t).count

abbrev pub write_row : Tables → ℕ → List ℕ
write_row T t = (writes_in T.txn t).keys

abbrev pub write_key : Tables → ℕ → ℕ → ℕ
write_key T t i = get_or (write_row T t) i 0

abbrev pub write_value : Tables → ℕ → ℕ → ℕ
write_value T t i = get_or (get_or T.txn t no_txn).values i 0

-- t reads a key that u writes
abbrev pub reads_from : List Txn → ℕ → ℕ → Bool
reads_from txn t u = meets (reads_in txn t).keys (reads_in txn t).count (writes_in txn u).keys (writes_in txn u).count

-- two transactions conflict if one reads a key that the other writes
unfoldable pub conflict_in : List Txn → ℕ → ℕ → Bool
conflict_in txn t u = reads_from txn t u || reads_from txn u t

abbrev pub conflict : Tables → ℕ → ℕ → Bool
conflict T t u = conflict_in T.txn t u
