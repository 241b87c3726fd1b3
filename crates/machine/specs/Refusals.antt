-- The number that refuses a step, 0 where it is accepted, asked of a state.
use Rattle.std.specs.Prelude.{ℕ}
use Rattle.refusals.specs.Refusals.{read_refusal_in, submit_refusal_in, deliver_refusal_in, vote_refusal_in, carry_refusal_in, verdict_refusal_in, close_refusal_in, refusal_in}
use Rattle.machine.specs.declared.State.{State}
use Rattle.steps.specs.declared.Step.{Step}

abbrev pub read_refusal : State → ℕ → ℕ → ℕ → ℕ
read_refusal st t i s = read_refusal_in st.tables st.parts.recorded t i s

abbrev pub submit_refusal : State → ℕ → ℕ
submit_refusal st t = submit_refusal_in st.tables st.parts.places st.parts.recorded t

abbrev pub deliver_refusal : State → ℕ → ℕ
deliver_refusal st s = deliver_refusal_in st.tables st.parts.places st.parts.delivered st.parts.closed s

-- of a vote between two sites, the second of them of R(t)
abbrev pub vote_refusal : State → ℕ → ℕ → ℕ → ℕ
vote_refusal st t from to = vote_refusal_in st.tables st.parts.cast st.parts.carried t from to

abbrev pub carry_refusal : State → ℕ → ℕ → ℕ → ℕ
carry_refusal st t from to = carry_refusal_in st.tables st.parts.cast st.parts.carried t from to

-- of one in the queue of s
abbrev pub verdict_refusal : State → ℕ → ℕ → ℕ
verdict_refusal st t s = verdict_refusal_in st.tables st.parts.versions st.parts.places st.parts.delivered st.parts.closed st.parts.cast st.parts.carried t s

abbrev pub close_refusal : State → ℕ → ℕ → ℕ
close_refusal st t s = close_refusal_in st.tables st.parts.versions st.parts.places st.parts.delivered st.parts.closed st.parts.cast st.parts.carried t s

-- of any step
abbrev pub refusal : State → Step → ℕ
refusal st x = refusal_in st.tables st.parts.versions st.parts.places st.parts.recorded st.parts.delivered st.parts.closed st.parts.cast st.parts.carried x
