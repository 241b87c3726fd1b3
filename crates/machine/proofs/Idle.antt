-- Where SETTLE is known to have nothing to do, it has nothing to do.
-- Assumes nothing.
use Rattle.std.proofs.Common.{ℕ, zero, suc, ◌+◌, ◌<◌, ◌≡◌, refl, Bool, true, false, cond, ◌⊎◌, inl, inr, arith, sub-one, eqb, ltb-true, Ok}
use Rattle.bounded.proofs.Truth.{clash}
use Rattle.search.specs.Search.{Nothing}
use Rattle.steps.specs.declared.Answer.TheVariants as answer
use Rattle.steps.specs.declared.Step.{Step}
use Rattle.steps.specs.declared.Step.TheVariants.{Read, Submit, Deliver, Carry, Close, Settle}
use Rattle.machine.specs.Refusals.{refusal}
use Rattle.machine.specs.Effects.{read_done, submit_done, deliver_done, carry_done, close_done}
use Rattle.machine.specs.Settle.{todo, after, settle_for, most, settle_done}
use Rattle.machine.specs.Steps.{refused, done, decided}
use Rattle.machine.specs.Lent.{idle_after}
use Rattle.machine.specs.declared.State.{State}
use Rattle.machine.specs.declared.Stepped.{Stepped}
use Rattle.machine.proofs.Settle.{settle_stops, settle_goes, settle_ends}
use Rattle.machine.proofs.Ends.{is_nothing}

-- SETTLE answers with a count; where that is less than it may take, nothing is left
pub record Settles (f n : ℕ) (r : Stepped) : Type 0 where
  pub count : ℕ
  pub says : r.answer ≡ Ok (answer.Settled count)
  pub ends : count < n + f → todo r.next ≡ Nothing

settles : (f n : ℕ) (st : State) → Settles f n (settle_for f n st)
settles zero n st = rw (settle_ends 0 n st refl) (record { count = n; says = refl; ends = λ l. absurd (omega arith) })
settles (suc f) n st = turn (is_nothing (todo st)) (settles f (n + 1) (after st (todo st)))
  where
    turn : (todo st ≡ Nothing) ⊎ (todo st ≡ Nothing → ⊥) → Settles f (n + 1) (settle_for f (n + 1) (after st (todo st))) → Settles (suc f) n (settle_for (suc f) n st)
    turn (inl e) more = rw (settle_stops (suc f) n st (omega arith) e) (record { count = n; says = refl; ends = λ l. e })
    turn (inr d) more = rw (settle_goes (suc f) n st (todo st) (omega arith) refl d, sub-one) (record { count = more.count; says = more.says; ends = λ l. more.ends (omega arith) })

-- after a step that is accepted
done_keeps : (b : Bool) (st : State) (x : Step) → (b ≡ true → todo st ≡ Nothing) → idle_after b (done st x).answer ≡ true → todo (done st x).next ≡ Nothing
unfolding done idle_after read_done submit_done deliver_done carry_done close_done settle_done
done_keeps b st (Read t i s) k h = k h
done_keeps b st (Submit t) k h = clash h refl
done_keeps b st (Deliver s) k h = clash h refl
done_keeps b st (Carry t from to) k h = clash h refl
done_keeps b st (Close t s) k h = clash h refl
done_keeps b st Settle k h = let e = settles most 0 st in e.ends (ltb-true e.count most (rw e.says at h))

-- so what is remembered after a step is so, if it was before
pub idle-keeps : (b : Bool) (st : State) (x : Step) → (b ≡ true → todo st ≡ Nothing) → idle_after b (decided st x).answer ≡ true → todo (decided st x).next ≡ Nothing
unfolding decided idle_after
idle-keeps b st x k = by (eqb (refusal st x) 0)
  where
    by : (c : Bool) → idle_after b (cond c (done st x) (refused st (refusal st x))).answer ≡ true → todo (cond c (done st x) (refused st (refusal st x))).next ≡ Nothing
    by true h = done_keeps b st x k h
    by false h = k h
