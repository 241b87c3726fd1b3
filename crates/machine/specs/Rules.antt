-- The protocol's questions, asked of a state.
use Rattle.std.specs.Prelude.{ℕ, Bool}
use Rattle.queues.specs.Queue.{queued_in, head_in, submitted_in, next_of, blocked_of}
use Rattle.rules.specs.Votes.{holds_vote}
use Rattle.rules.specs.Asked.{vote_in, verdict_at, room_of}
use Rattle.machine.specs.Parts.{cast_by, carried_to}
use Rattle.machine.specs.declared.State.{State}

-- the queue of s, and whether t is at its head
abbrev pub queued : State → ℕ → ℕ → Bool
queued st s t = queued_in st.parts.delivered st.parts.closed s t

abbrev pub at_head : State → ℕ → ℕ → Bool
at_head st t s = head_in st.parts.places st.parts.delivered st.parts.closed st.tables.txns t s

-- the next to deliver at s, and whether it conflicts with one in the queue
abbrev pub next_at : State → ℕ → ℕ
next_at st s = next_of st.tables st.parts.places st.parts.delivered s

abbrev pub blocked : State → ℕ → ℕ → Bool
blocked st t s = blocked_of st.tables st.parts.delivered st.parts.closed t s

-- how many were submitted
abbrev pub submitted : State → ℕ
submitted st = submitted_in st.parts.places st.tables.txns

-- what s casts on t: 1 yes, 2 no, if it is in V(t); else 0, none
abbrev pub vote_of : State → ℕ → ℕ → ℕ
vote_of st t s = vote_in st.tables st.parts.versions st.parts.readversions st.parts.recorded t s

-- s holds the vote of f on t
abbrev pub holds_vote_of : State → ℕ → ℕ → ℕ → Bool
holds_vote_of st t s f = holds_vote (cast_by st t s) (carried_to st t s) s f

-- the verdict on t at s: 0 not known, 1 commit, 2 abort
abbrev pub verdict : State → ℕ → ℕ → ℕ
verdict st t s = verdict_at st.tables st.parts.cast st.parts.carried t s

-- a commit of t at s has a version left for each key that it writes there
abbrev pub room_at : State → ℕ → ℕ → Bool
room_at st t s = room_of st.tables st.parts.versions t s
