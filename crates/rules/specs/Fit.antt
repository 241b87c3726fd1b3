-- The counts, lists and places that a step can run on.
use Rattle.std.specs.Prelude.{ℕ, Bool, ◌&&◌, not, List, leb}
use Rattle.parts.specs.Cells.{place_in}
use Rattle.bounded.specs.Bounded.{all_below}
use Rattle.tables.specs.Lists.{present, twice, reads_in, writes_in}
use Rattle.tables.specs.declared.Group.{Group}
use Rattle.tables.specs.declared.Txn.{Txn}
use Rattle.tables.specs.Sites.{sites_in}
use Rattle.steps.specs.declared.Place.{Place}

-- no count over its limit
unfoldable pub counts_fit : ℕ → ℕ → List Group → ℕ → Bool
counts_fit keys groups group txns = leb keys 64 && (leb groups 8 && (leb (sites_in group groups) 16 && leb txns 128))

-- of a list of n keys: eight at most, each below the key count, none twice
unfoldable pub row_fits : ℕ → List ℕ → ℕ → Bool
row_fits keys row n = leb n 8 && (present row n keys && not (twice row n))

-- the reads and writes of transaction t
unfoldable pub txn_fits : ℕ → List Txn → ℕ → Bool
txn_fits keys txn t = row_fits keys (reads_in txn t).keys (reads_in txn t).count && row_fits keys (writes_in txn t).keys (writes_in txn t).count

-- and those of n transactions
unfoldable pub txns_fit : ℕ → List Txn → ℕ → Bool
txns_fit keys txn n = all_below n (txn_fits keys txn)

-- no place over 128
unfoldable pub places_fit : List Place → ℕ → Bool
places_fit places n = all_below n (λ t. leb (place_in places t) 128)
