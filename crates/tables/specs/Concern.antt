-- Which sites a transaction concerns: R(T), V(T), and whether T is local.
use Rattle.std.specs.Prelude.{ℕ, Bool, ◌&&◌, ◌||◌, not, List, get_or}
use Rattle.bounded.specs.Bounded.{any_below, all_below}
use Rattle.keys.specs.Keys.{member}
use Rattle.tables.specs.Lists.{reads_in, writes_in, read_row, read_count}
use Rattle.tables.specs.declared.Txn.{Txn}
use Rattle.tables.specs.Sites.{site_count, site_keys}
use Rattle.tables.specs.declared.Tables.{Tables}

-- of the first n keys of a list: one is in the set m; all are
unfoldable pub some_in : List ℕ → ℕ → ℕ → Bool
some_in row n m = any_below n (λ i. member m (get_or row i 0))

unfoldable pub all_in : List ℕ → ℕ → ℕ → Bool
all_in row n m = all_below n (λ i. member m (get_or row i 0))

-- V(t): the sites that hold any key that t reads
abbrev pub votes : Tables → ℕ → ℕ → Bool
votes T t s = some_in (read_row T t) (read_count T t) (site_keys T s)

-- R(t): the sites that hold any key of t; those whose keys are the set m
unfoldable pub touches : List Txn → ℕ → ℕ → Bool
touches txn t m = some_in (reads_in txn t).keys (reads_in txn t).count m || some_in (writes_in txn t).keys (writes_in txn t).count m

abbrev pub concerns : Tables → ℕ → ℕ → Bool
concerns T t s = touches T.txn t (site_keys T s)

-- all keys of t are in the set m
unfoldable pub inside : List Txn → ℕ → ℕ → Bool
inside txn t m = all_in (reads_in txn t).keys (reads_in txn t).count m && all_in (writes_in txn t).keys (writes_in txn t).count m

abbrev pub holds_all : Tables → ℕ → ℕ → Bool
holds_all T t s = inside T.txn t (site_keys T s)

-- t is local if each site of R(t) holds all keys of t, else global
unfoldable pub local : Tables → ℕ → Bool
local T t = all_below (site_count T) (λ s. not (concerns T t s) || holds_all T t s)
