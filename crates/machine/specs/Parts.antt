-- The parts of a state by name, and the state with one of them changed.
use Rattle.std.specs.Prelude.{ℕ, ◌+◌, ◌*◌, Bool, false, List, get_or}
use Rattle.parts.specs.Cells.{place_in, cell, version_in, recorded_in}
use Rattle.parts.specs.Changed as changed
use Rattle.parts.specs.declared.Parts.{Parts}
use Rattle.steps.specs.declared.Version.{Version}
use Rattle.machine.specs.declared.State.{State}

-- the place of t, 0 if it has none
abbrev pub place_of : State → ℕ → ℕ
place_of st t = place_in st.parts.places t

-- version and value of k at s
abbrev pub version_at : State → ℕ → ℕ → ℕ
version_at st s k = version_in st.parts.versions s k

abbrev pub value_at : State → ℕ → ℕ → ℕ
value_at st s k = get_or st.parts.values (s * 64 + k) 0

-- t's i-th read was recorded
abbrev pub recorded_of : State → ℕ → ℕ → Bool
recorded_of st t i = recorded_in st.parts.recorded t i

abbrev pub delivered_at : State → ℕ → ℕ → Bool
delivered_at st t s = cell false st.parts.delivered t s

-- 0 open, 1 committed, 2 aborted
abbrev pub closed_at : State → ℕ → ℕ → ℕ
closed_at st t s = cell 0 st.parts.closed t s

-- 0 none, 1 yes, 2 or more no
abbrev pub cast_by : State → ℕ → ℕ → ℕ
cast_by st t s = cell 0 st.parts.cast t s

-- the sites whose votes on t were carried to s
abbrev pub carried_to : State → ℕ → ℕ → ℕ
carried_to st t s = cell 0 st.parts.carried t s

-- the state with other parts
abbrev pub with_parts : State → Parts → State
with_parts st w = record { tables = st.tables; parts = w }

-- with version v and value x recorded for t's i-th read
abbrev pub with_read : State → ℕ → ℕ → ℕ → ℕ → State
with_read st t i v x = with_parts st (changed.with_read st.parts t i v x)

-- with t at place p
abbrev pub with_place : State → ℕ → ℕ → State
with_place st t p = with_parts st (changed.with_place st.parts t p)

-- with t in the queue of s, and the vote v of s
abbrev pub with_delivery : State → ℕ → ℕ → ℕ → State
with_delivery st t s v = with_parts st (changed.with_delivery st.parts t s v)

-- with the vote of f on t carried to s
abbrev pub with_carried : State → ℕ → ℕ → ℕ → State
with_carried st t f s = with_parts st (changed.with_carried st.parts t f s)

-- with t closed at s by the verdict c
abbrev pub with_closed : State → ℕ → ℕ → ℕ → State
with_closed st t s c = with_parts st (changed.with_closed st.parts t s c)

-- with these stores
abbrev pub with_stores : State → List Version → List ℕ → State
with_stores st versions values = with_parts st (changed.with_stores st.parts versions values)
