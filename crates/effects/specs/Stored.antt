-- What a READ finds, and what a commit stores.
use Rattle.std.specs.Prelude.{ℕ, zero, suc, ◌+◌, ◌-◌, ◌*◌, ◌<◌, true, cond, List, ◌≡◌, ltb, get_or, set}
use Rattle.tables.specs.Lists.{write_count, write_key, write_value}
use Rattle.tables.specs.Sites.{holds}
use Rattle.tables.specs.declared.Tables.{Tables}
use Rattle.parts.specs.Changed.{with_stores}
use Rattle.parts.specs.declared.Parts.{Parts}
use Rattle.steps.specs.Kinds.{version}
use Rattle.steps.specs.declared.Version.{Version}

-- at place j of the stores, the version and the value; past the last version stand the values, and past the last value the versions recorded
abbrev pub version_found : Parts → ℕ → ℕ
version_found w j = cond (ltb j 1024) (get_or w.versions j (version 0)).0 (get_or w.values (j - 1024) 0)

abbrev pub value_found : Parts → ℕ → ℕ
value_found w j = cond (ltb j 1024) (get_or w.values j 0) (get_or w.readversions (j - 1024) (version 0)).0

-- l, a store of rows of 64, with f of the i-th write and what was there, for each of t's first n written keys that s holds
unfoldable pub stored : {A : Type 0} → Tables → ℕ → ℕ → A → (ℕ → A → A) → List A → ℕ → List A
stored T t s d f l zero = l
stored T t s d f l (suc i) =
    let k = write_key T t i in
    let before = stored T t s d f l i in
    cond (holds T s k) (set before (s * 64 + k) (f i (get_or l (s * 64 + k) d))) before

-- a commit adds 1 to the version, and stores the value
abbrev pub versions_in : Tables → Parts → ℕ → ℕ → ℕ → List Version
versions_in T w t s n = stored T t s (version 0) (λ i v. version (v.0 + 1)) w.versions n

abbrev pub values_in : Tables → Parts → ℕ → ℕ → ℕ → List ℕ
values_in T w t s n = stored T t s 0 (λ i x. write_value T t i) w.values n

abbrev pub committed_in : Tables → Parts → ℕ → ℕ → Parts
committed_in T w t s = with_stores w (versions_in T w t s (write_count T t)) (values_in T w t s (write_count T t))

-- the versions l after t's first n writes at s, each of which adds 1 to what it finds: as stored where no key is written twice
unfoldable pub raised : Tables → ℕ → ℕ → List Version → ℕ → List Version
raised T t s l zero = l
raised T t s l (suc i) =
    let j = s * 64 + write_key T t i in
    let before = raised T t s l i in
    cond (holds T s (write_key T t i)) (set before j (version ((get_or before j (version 0)).0 + 1))) before

-- the parts after t's first n writes at s, and after all of them
abbrev pub partly_in : Tables → Parts → ℕ → ℕ → ℕ → Parts
partly_in T w t s n = with_stores w (raised T t s w.versions n) (values_in T w t s n)

abbrev pub written_in : Tables → Parts → ℕ → ℕ → Parts
written_in T w t s = partly_in T w t s (write_count T t)

-- each version that is raised has a next one
abbrev pub Room : Tables → Parts → ℕ → ℕ → Type 0
Room T w t s = (i : ℕ) → i < write_count T t → holds T s (write_key T t i) ≡ true → (get_or (raised T t s w.versions i) (s * 64 + write_key T t i) (version 0)).0 < 4294967295
