-- The parts of a state with some of them changed.
use Rattle.std.specs.Prelude.{ℕ, ◌+◌, ◌*◌, Bool, true, List, set}
use Rattle.keys.specs.Keys.{adding}
use Rattle.parts.specs.Cells.{cell}
use Rattle.steps.specs.Kinds.{version, place}
use Rattle.steps.specs.declared.Version.{Version}
use Rattle.parts.specs.declared.Parts.{Parts}

-- with version v and value x recorded for t's i-th read
abbrev pub with_read : Parts → ℕ → ℕ → ℕ → ℕ → Parts
with_read w t i v x = record w {
  recorded = set w.recorded (t * 8 + i) true;
  readversions = set w.readversions (t * 8 + i) (version v);
  readvalues = set w.readvalues (t * 8 + i) x;
}

-- with t at place p
abbrev pub with_place : Parts → ℕ → ℕ → Parts
with_place w t p = record w { places = set w.places t (place p) }

-- with t in the queue of s, and the vote v of s
abbrev pub with_delivery : Parts → ℕ → ℕ → ℕ → Parts
with_delivery w t s v = record w { delivered = set w.delivered (t * 16 + s) true; cast = set w.cast (t * 16 + s) v }

-- with these votes carried
abbrev pub with_votes : Parts → List ℕ → Parts
with_votes w carried = record w { carried = carried }

-- with the vote of f on t carried to s, which did not hold it
abbrev pub with_carried : Parts → ℕ → ℕ → ℕ → Parts
with_carried w t f s = with_votes w (set w.carried (t * 16 + s) (adding (cell 0 w.carried t s) f))

-- with t closed at s by the verdict c
abbrev pub with_closed : Parts → ℕ → ℕ → ℕ → Parts
with_closed w t s c = record w { closed = set w.closed (t * 16 + s) c }

-- with these stores
abbrev pub with_stores : Parts → List Version → List ℕ → Parts
with_stores w versions values = record w { versions = versions; values = values }
