-- Sites are numbered from 0 in group order, and all sites of a group hold the group's keys.
use Rattle.std.specs.Prelude.{ℕ, zero, suc, ◌+◌, ◌-◌, Bool, cond, List, ltb, get_or}
use Rattle.bounded.specs.Bounded.{sum_below}
use Rattle.keys.specs.Keys.{member}
use Rattle.tables.specs.declared.Group.{Group}
use Rattle.tables.specs.declared.Tables.{Tables}

-- a group without sites
abbrev pub no_group : Group
no_group = record { sites = 0; keys = 0 }

-- of group g: how many sites, and which keys all of them hold
abbrev pub size_in : List Group → ℕ → ℕ
size_in group g = (get_or group g no_group).sites

abbrev pub mask_in : List Group → ℕ → ℕ
mask_in group g = (get_or group g no_group).keys

-- the sites of the first n groups
abbrev pub sites_in : List Group → ℕ → ℕ
sites_in group n = sum_below n (size_in group)

abbrev pub site_count : Tables → ℕ
site_count T = sites_in T.group T.groups

-- the keys of the s-th site from the start of group g on, of n groups; none past the last site
unfoldable pub keys_from : ℕ → ℕ → List Group → ℕ → ℕ
keys_from zero g group s = 0
keys_from (suc n) g group s = cond (ltb s (size_in group g)) (mask_in group g) (keys_from n (g + 1) group (s - size_in group g))

-- the keys that the group of site s holds
abbrev pub site_keys : Tables → ℕ → ℕ
site_keys T s = keys_from T.groups 0 T.group s

-- a site holds a key if its group does
abbrev pub holds : Tables → ℕ → ℕ → Bool
holds T s k = member (site_keys T s) k
