-- What SETTLE takes next is accepted, and one turn of it.
-- Assumes nothing.
use Rattle.std.proofs.Common.{ℕ, zero, suc, ◌+◌, ◌-◌, ◌<◌, ◌≡◌, refl, Bool, true, false, cond, sub-one, not-suc-le-zero, eqb}
use Rattle.machine.specs.Parts.{with_closed}
use Rattle.machine.specs.Rules.{verdict}
use Rattle.machine.specs.Usable.{usable}
use Rattle.machine.specs.Refusals.{deliver_refusal, carry_refusal, close_refusal, refusal}
use Rattle.machine.specs.Effects.{giving, deliver_done, carry_done, committed, close_done}
use Rattle.machine.specs.Settle.{parts_of, todo, after, settle_for}
use Rattle.machine.specs.Steps.{done, decided}
use Rattle.machine.specs.declared.State.{State}
use Rattle.search.proofs.Accepted.{Says, next_says}
use Rattle.search.specs.Search.{Todo}
use Rattle.search.specs.Search.{Close, Deliver, Carry, Nothing}
use Rattle.steps.specs.declared.Step.{Step}
use Rattle.steps.specs.declared.Answer.TheVariants as answer
use Rattle.machine.proofs.Laws.{usable_fits}

-- what SETTLE takes next is accepted
abbrev pub Accepted : State → Todo → Type 0
Accepted st (Close t s) = close_refusal st t s ≡ 0
Accepted st (Deliver s) = deliver_refusal st s ≡ 0
Accepted st (Carry t from to) = carry_refusal st t from to ≡ 0
Accepted st Nothing = Unit {0}

pub todo_accepted : (st : State) → usable st ≡ true → Accepted st (todo st)
todo_accepted st h = by (todo st) (next_says st.tables (parts_of st) (usable_fits st h) (todo st) refl)
  where
    by : (x : Todo) → Says st.tables (parts_of st) x → Accepted st x
    by (Close t s) z = z.1
    by (Deliver s) z = z.1
    by (Carry t from to) z = z.accepted
    by Nothing z = tt

-- a step of SETTLE leaves a usable state usable
pub after_usable : (st : State) (x : Todo) → usable st ≡ true → usable (after st x) ≡ true
unfolding usable deliver_done carry_done close_done committed
after_usable st (Close t s) h = stored (eqb (verdict st t s) 1)
  where
    stored : (b : Bool) → usable (with_closed (cond b (committed st t s) st) t s (verdict st t s)) ≡ true
    stored true = h
    stored false = h
after_usable st (Deliver s) h = h
after_usable st (Carry t from to) h = h
after_usable st Nothing h = h

-- one turn: it stops where nothing is left, else goes on; and it ends with its fuel
pub settle_stops : (f n : ℕ) (st : State) → 0 < f → todo st ≡ Nothing → settle_for f n st ≡ giving (answer.Settled n) st
unfolding settle_for
settle_stops zero n st l e = absurd (not-suc-le-zero l)
settle_stops (suc f) n st l e = rw (e, settle_for)

pub settle_goes : (f n : ℕ) (st : State) (x : Todo) → 0 < f → todo st ≡ x → (x ≡ Nothing → ⊥) → settle_for f n st ≡ settle_for (f - 1) (n + 1) (after st x)
unfolding settle_for
settle_goes zero n st x l e d = absurd (not-suc-le-zero l)
settle_goes (suc f) n st (Close t s) l e d = rw (e, settle_for, sub-one)
settle_goes (suc f) n st (Deliver s) l e d = rw (e, settle_for, sub-one)
settle_goes (suc f) n st (Carry t from to) l e d = rw (e, settle_for, sub-one)
settle_goes (suc f) n st Nothing l e d = absurd (d refl)

pub settle_ends : (f n : ℕ) (st : State) → f ≡ 0 → settle_for f n st ≡ giving (answer.Settled n) st
unfolding settle_for
settle_ends f n st e = rw e

-- an accepted step does what it does
pub taken : (st : State) (x : Step) → refusal st x ≡ 0 → decided st x ≡ done st x
unfolding decided
taken st x e = rw e
