-- The number that the reader would give for tables, 0 where it would take them: record by record, as they would stand in a file.
use Rattle.std.specs.Prelude.{ℕ, suc, Bool, ◌&&◌, ◌||◌, not, cond, List, leb, ltb, eqb}
use Rattle.bounded.specs.Bounded.{any_below, all_below, first_of, or_else}
use Rattle.keys.specs.Keys.{member, within}
use Rattle.tables.specs.Lists.{present, twice, read_row, read_count, write_row, write_count}
use Rattle.tables.specs.Sites.{size_in, mask_in, sites_in}
use Rattle.tables.specs.declared.Group.{Group}
use Rattle.tables.specs.declared.Tables.{Tables}

-- KEYS: 1 to 64
unfoldable pub keys_refusal : ℕ → ℕ
keys_refusal keys = cond (eqb keys 0 || ltb 64 keys) 4 0

-- GROUP g, with n sites in all up to it: a ninth group, no site, a seventeenth site, no key, an absent key
unfoldable pub size_refusal : ℕ → ℕ → ℕ → ℕ → ℕ → ℕ
size_refusal keys g size n mask =
    cond (leb 8 g || (eqb size 0 || (ltb 16 n || (eqb mask 0 || not (within mask keys))))) 5 0

abbrev pub group_refusal : Tables → ℕ → ℕ
group_refusal T g = size_refusal T.keys g (size_in T.group g) (sites_in T.group (suc g)) (mask_in T.group g)

-- TXN t of r reads and w writes: a 129th, more than eight of either, none of both
unfoldable pub count_refusal : ℕ → ℕ → ℕ → ℕ
count_refusal t r w = cond (leb 128 t || (ltb 8 r || (ltb 8 w || (eqb r 0 && eqb w 0)))) 5 0

-- an absent key; then a key twice among the reads, or twice among the writes
unfoldable pub key_refusal : Tables → ℕ → ℕ
key_refusal T t =
    cond (present (read_row T t) (read_count T t) T.keys && present (write_row T t) (write_count T t) T.keys)
    (cond (twice (read_row T t) (read_count T t) || twice (write_row T t) (write_count T t)) 6 0)
    5

unfoldable pub txn_refusal : Tables → ℕ → ℕ
txn_refusal T t = or_else (count_refusal t (read_count T t) (write_count T t)) (key_refusal T t)

-- END: a key that no group holds
unfoldable pub some_group : List Group → ℕ → ℕ → Bool
some_group group n k = any_below n (λ g. member (mask_in group g) k)

unfoldable pub end_refusal : Tables → ℕ
end_refusal T = cond (all_below T.keys (some_group T.group T.groups)) 0 7

-- END before any GROUP is 3
unfoldable pub judge : Tables → ℕ
judge T =
    or_else (keys_refusal T.keys)
    (or_else (cond (eqb T.groups 0) 3 0)
    (or_else (first_of T.groups (group_refusal T))
    (or_else (first_of T.txns (txn_refusal T))
    (end_refusal T))))
