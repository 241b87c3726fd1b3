-- The first store: of each site and key the first value of the key, where the site holds it.
use Rattle.std.specs.Prelude.{ℕ, ◌/◌, ◌%◌, cond, get_or}
use Rattle.tables.specs.Sites.{holds}
use Rattle.tables.specs.declared.Tables.{Tables}

-- at place j
abbrev pub first_at : Tables → ℕ → ℕ
first_at T j = cond (holds T (j / 64) (j % 64)) (get_or T.first (j % 64) 0) 0
