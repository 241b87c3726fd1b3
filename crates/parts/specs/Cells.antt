-- The cells of a state's tables.
use Rattle.std.specs.Prelude.{ℕ, ◌+◌, ◌*◌, Bool, false, List, get_or}
use Rattle.steps.specs.Kinds.{version, place}
use Rattle.steps.specs.declared.Version.{Version}
use Rattle.steps.specs.declared.Place.{Place}

-- of transaction t, its place, 0 if it has none
abbrev pub place_in : List Place → ℕ → ℕ
place_in places t = (get_or places t (place 0)).0

-- of transaction t and site s
abbrev pub cell : {A : Type 0} → A → List A → ℕ → ℕ → A
cell d l t s = get_or l (t * 16 + s) d

-- of site s and key k, its version there
abbrev pub version_in : List Version → ℕ → ℕ → ℕ
version_in versions s k = (get_or versions (s * 64 + k) (version 0)).0

-- t's i-th read was recorded
abbrev pub recorded_in : List Bool → ℕ → ℕ → Bool
recorded_in recorded t i = get_or recorded (t * 8 + i) false

-- no transaction: what a search answers where there is none
abbrev pub nobody : ℕ
nobody = 128
