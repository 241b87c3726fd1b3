-- SETTLE: the first step accepted among CLOSE, DELIVER and CARRY, again and again until none is.
use Rattle.std.specs.Prelude.{ℕ, zero, suc, ◌+◌}
use Rattle.machine.specs.Effects.{giving, deliver_done, carry_done, close_done}
use Rattle.machine.specs.declared.State.{State}
use Rattle.machine.specs.declared.Stepped.{Stepped}
use Rattle.steps.specs.declared.Answer.TheVariants as answer
use Rattle.search.specs.Search.{Seen, seen, Todo, Close, Deliver, Carry, Nothing, closes_first_in, first_closing_in, first_delivering_in, first_to_in, first_from_in, first_carried_in, todo_in}

-- what SETTLE's steps look at
abbrev pub parts_of : State → Seen
parts_of st = seen st.parts

-- the searches for it: CLOSE, DELIVER, CARRY
abbrev pub closes_first : State → ℕ → ℕ
closes_first st s = closes_first_in st.tables (parts_of st) s

abbrev pub first_closing : State → ℕ
first_closing st = first_closing_in st.tables (parts_of st)

abbrev pub first_delivering : State → ℕ
first_delivering st = first_delivering_in st.tables st.parts.places st.parts.delivered st.parts.closed

abbrev pub first_to : State → ℕ → ℕ → ℕ
first_to st t from = first_to_in st.tables st.parts.cast st.parts.carried t from

abbrev pub first_from : State → ℕ → ℕ
first_from st t = first_from_in st.tables st.parts.cast st.parts.carried t

abbrev pub first_carried : State → ℕ
first_carried st = first_carried_in st.tables st.parts.places st.parts.cast st.parts.carried

-- the first step accepted
abbrev pub todo : State → Todo
todo st = todo_in st.tables (parts_of st)

-- and what it leaves
abbrev pub after : State → Todo → State
after st (Close t s) = (close_done st t s).next
after st (Deliver s) = (deliver_done st s).next
after st (Carry t from to) = (carry_done st t from to).next
after st Nothing = st

-- at most f steps more, n having been taken
unfoldable pub settle_for : ℕ → ℕ → State → Stepped
settle_for zero n st = giving (answer.Settled n) st
settle_for (suc f) n st = elim (todo st) [
  | Close t s ↦ settle_for f (n + 1) (after st (Close t s))
  | Deliver s ↦ settle_for f (n + 1) (after st (Deliver s))
  | Carry t from to ↦ settle_for f (n + 1) (after st (Carry t from to))
  | Nothing ↦ giving (answer.Settled n) st
]

-- 2,048 deliveries, 2,048 closings and 2,048 times 15 votes carried: no state has more to do
abbrev pub most : ℕ
most = 34816

unfoldable pub settle_done : State → Stepped
settle_done st = settle_for most 0 st
