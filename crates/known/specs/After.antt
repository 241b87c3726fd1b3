-- What is known after a step of SETTLE.
use Rattle.std.specs.Prelude.{ℕ, zero, suc, ◌+◌, ◌*◌, ◌<◌, Bool, true, ◌||◌, cond, List, ◌≡◌, eqb, set}
use Rattle.bounded.specs.Bounded.{any_below}
use Rattle.keys.specs.Keys.{member, adding}
use Rattle.tables.specs.Lists.{write_count, write_key}
use Rattle.tables.specs.Fits.{Fits}
use Rattle.tables.specs.declared.Tables.{Tables}
use Rattle.parts.specs.Cells.{cell, version_in, nobody}
use Rattle.steps.specs.declared.Version.{Version}
use Rattle.search.specs.Search.{Seen, parts, todo_in, Close, Carry}
use Rattle.search.specs.Known.{any, Knows}
use Rattle.search.specs.declared.Known.{Known}

-- the vote of s on t was carried to one of n sites
unfoldable pub shared : List ℕ → ℕ → ℕ → ℕ → Bool
shared carried n t s = any_below n (λ a. member (cell 0 carried t a) s)

-- beside those of code c, t may be closed now
unfoldable pub joined : ℕ → ℕ → ℕ
joined c t = cond (eqb c nobody || eqb c t) t any

abbrev pub closed_parts : Seen → List Version → ℕ → ℕ → ℕ → Seen
closed_parts w versions t s c = parts versions w.places w.delivered (set w.closed (t * 16 + s) c) w.cast w.carried

-- CLOSE at s, which leaves these delivered and closed, and elsewhere the versions: what is known turns from l to l'
abbrev pub Closed : List ℕ → Known → Known → ℕ → List Bool → List ℕ → Type 0
Closed order l l' s delivered closed =
    (T : Tables) (w : Seen) (versions : List Version) (t c : ℕ) → Fits T → ((u i : ℕ) → u < T.txns → i < write_count T u → write_key T u i < 64) → todo_in T w ≡ Close t s → 0 < c
    → w.delivered ≡ delivered → set w.closed (t * 16 + s) c ≡ closed
    → ((r x : ℕ) → (r ≡ s → ⊥) → x < 64 → version_in versions r x ≡ version_in w.versions r x)
    → Knows T w order l → Knows T (closed_parts w versions t s c) order l'

abbrev pub delivered_parts : Seen → ℕ → ℕ → ℕ → Seen
delivered_parts w t s v = parts w.versions w.places (set w.delivered (t * 16 + s) true) w.closed (set w.cast (t * 16 + s) v) w.carried

abbrev pub carried_parts : Seen → List ℕ → Seen
carried_parts w carried = parts w.versions w.places w.delivered w.closed w.cast carried

-- a CARRY that comes next takes the votes carried from c to c'
pub record CarriesNext (T : Tables) (w : Seen) (c c' : List ℕ) : Type 0 where
  pub t : ℕ
  pub from : ℕ
  pub to : ℕ
  pub next : todo_in T (carried_parts w c) ≡ Carry t from to
  pub leaves : c' ≡ set c (t * 16 + to) (adding (cell 0 c t to) from)

-- k times
unfoldable pub Carried : Tables → Seen → ℕ → List ℕ → Type 0
Carried T w zero c = c ≡ w.carried
Carried T w (suc k) c = (before : List ℕ) × Carried T w k before × CarriesNext T w before c
