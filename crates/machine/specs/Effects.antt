-- What an accepted step answers and leaves.
use Rattle.std.specs.Prelude.{ℕ, ◌+◌, cond, List, eqb, Ok}
use Rattle.tables.specs.Lists.{read_key, write_count}
use Rattle.effects.specs.Stored.{versions_in, values_in}
use Rattle.steps.specs.Answers.{Answered}
use Rattle.steps.specs.Kinds.{version, place}
use Rattle.machine.specs.Parts.{version_at, value_at, cast_by, with_read, with_place, with_delivery, with_carried, with_closed, with_stores}
use Rattle.machine.specs.Rules.{next_at, submitted, vote_of, verdict}
use Rattle.machine.specs.declared.State.{State}
use Rattle.steps.specs.declared.Version.{Version}
use Rattle.machine.specs.declared.Stepped.{Stepped}
use Rattle.steps.specs.declared.Answer.{Answer}
use Rattle.steps.specs.declared.Answer.TheVariants as answer

abbrev pub answering : Answered → State → Stepped
answering a st = record { answer = a; next = st }

-- an accepted step
abbrev pub giving : Answer → State → Stepped
giving a st = answering (Ok a) st

-- records the version and value of t's i-th read key at s
unfoldable pub read_done : State → ℕ → ℕ → ℕ → Stepped
read_done st t i s =
    let k = read_key st.tables t i in
    giving (answer.Read (version (version_at st s k)) (value_at st s k)) (with_read st t i (version_at st s k) (value_at st s k))

-- one more than the number submitted so far
abbrev pub next_place : State → ℕ
next_place st = submitted st + 1

unfoldable pub submit_done : State → ℕ → Stepped
submit_done st t = giving (answer.Submitted (place (next_place st))) (with_place st t (next_place st))

-- the next enters the queue of s, and s votes if it is in V
unfoldable pub deliver_done : State → ℕ → Stepped
deliver_done st s =
    let t = next_at st s in
    giving (answer.Delivered t (vote_of st t s)) (with_delivery st t s (vote_of st t s))

unfoldable pub carry_done : State → ℕ → ℕ → ℕ → Stepped
carry_done st t from to = giving (answer.Carried (cast_by st t from)) (with_carried st t from to)

-- a commit adds 1 to the version, and stores the value
abbrev pub versions_after : State → ℕ → ℕ → ℕ → List Version
versions_after st t s n = versions_in st.tables st.parts t s n

abbrev pub values_after : State → ℕ → ℕ → ℕ → List ℕ
values_after st t s n = values_in st.tables st.parts t s n

unfoldable pub committed : State → ℕ → ℕ → State
committed st t s = with_stores st (versions_after st t s (write_count st.tables t)) (values_after st t s (write_count st.tables t))

unfoldable pub close_done : State → ℕ → ℕ → Stepped
close_done st t s =
    let commit = committed st t s in
    giving (answer.Closed (verdict st t s)) (with_closed (cond (eqb (verdict st t s) 1) commit st) t s (verdict st t s))
