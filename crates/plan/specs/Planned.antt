-- A plan is of its tables: its sets are those by which the protocol's questions are answered.
use Rattle.std.specs.Prelude.{ℕ, ◌≤◌, ◌<◌, ◌&&◌, ◌≡◌, ltb, get_or}
use Rattle.keys.specs.Keys.{member}
use Rattle.tables.specs.Lists.{in_row, read_row, read_count, read_key, write_row, write_count}
use Rattle.tables.specs.Sites.{site_count, site_keys, holds}
use Rattle.tables.specs.Fits.{Fits, Short}
use Rattle.plan.specs.declared.Plan.{Plan}

-- counts and read keys within the limits that the code relies on
pub record Laid (p : Plan) : Type 0 where
  pub txns : p.tables.txns ≤ 128
  pub sites : p.sites ≤ 16
  pub short : Short p.tables.txn p.tables.txns
  pub read_low : (t i : ℕ) → t < p.tables.txns → i < read_count p.tables t → read_key p.tables t i < 64

-- the keys of each site; the sites that hold each key; the keys that each transaction reads and writes
pub record Planned (p : Plan) : Type 0 where
  pub laid : Laid p
  pub fits : Fits p.tables
  pub sites : p.sites ≡ site_count p.tables
  pub site_sets : (s : ℕ) → s < 16 → get_or p.site_sets s 0 ≡ site_keys p.tables s
  pub holders : (k s : ℕ) → k < 64 → member (get_or p.holders k 0) s ≡ (ltb s (site_count p.tables) && holds p.tables s k)
  pub read_sets : (t k : ℕ) → t < p.tables.txns → member (get_or p.read_sets t 0) k ≡ in_row (read_row p.tables t) (read_count p.tables t) k
  pub write_sets : (t k : ℕ) → t < p.tables.txns → member (get_or p.write_sets t 0) k ≡ in_row (write_row p.tables t) (write_count p.tables t) k
