-- A step refused or accepted is the machine's, and so is what is done on lent parts.
-- Assumes nothing.
use Rattle.std.proofs.Common.{ℕ, ◌+◌, ◌*◌, ◌≡◌, false, cond, eqb, get_or, set, refl, ne_eqb, Ok, Err}
use Rattle.numbers.specs.Numbers.{step_number}
use Rattle.numbers.specs.declared.StepRefusal.{StepRefusal}
use Rattle.numbers.proofs.Laws.{step_named, step_refuses}
use Rattle.keys.specs.Keys.{member, adding}
use Rattle.tables.specs.Lists.{read_key}
use Rattle.plan.specs.declared.Plan.{Plan}
use Rattle.parts.specs.Cells.{cell, version_in}
use Rattle.parts.specs.Changed.{with_read, with_place, with_votes}
use Rattle.parts.specs.declared.Parts.{Parts}
use Rattle.queues.specs.Queue.{submitted_in}
use Rattle.refusals.specs.Refusals.{refusal_in}
use Rattle.refusals.proofs.Passed.{carry_has}
use Rattle.steps.specs.Answers.{Answered}
use Rattle.steps.specs.Kinds.{version, place}
use Rattle.steps.specs.declared.Answer.{Answer}
use Rattle.steps.specs.declared.Answer.TheVariants as answer
use Rattle.steps.specs.declared.Step.{Step}
use Rattle.steps.specs.declared.Step.TheVariants.{Read, Submit, Deliver, Carry, Settle}
use Rattle.machine.specs.Parts.{with_delivery}
use Rattle.machine.specs.Rules.{next_at, vote_of}
use Rattle.machine.specs.Refusals.{read_refusal, submit_refusal, deliver_refusal, carry_refusal, refusal}
use Rattle.machine.specs.Effects.{read_done, submit_done, deliver_done, carry_done}
use Rattle.machine.specs.Settle.{settle_done}
use Rattle.machine.specs.Steps.{done, decided}
use Rattle.machine.specs.Lent.{state_of, Takes}
use Rattle.machine.specs.declared.State.{State}
use Rattle.machine.specs.declared.Stepped.{Stepped}
use Rattle.machine.proofs.Settle.{taken}

pub refuses : (st : State) (x : Step) (r : StepRefusal) → step_number r ≡ refusal st x → Takes st x (Err r) st
unfolding decided
refuses st x r e =
    let h : eqb (refusal st x) 0 ≡ false = rw (← e) (ne_eqb (step_number r) 0 (step_refuses r)) in
    (rw (h, ← e, step_named r), rw h)

pub accepts : (st : State) (x : Step) → refusal st x ≡ 0 → (a : Answer) (next : State) → Ok a ≡ (done st x).answer → next ≡ (done st x).next → Takes st x (Ok a) next
accepts st x z a next p q = rw (taken st x z) (p, q)

-- SETTLE is accepted always
pub settles : (st : State) (a : Answer) (next : State) → Ok a ≡ (settle_done st).answer → next ≡ (settle_done st).next → Takes st Settle (Ok a) next
unfolding refusal_in done
settles st a next p q = accepts st Settle refl a next p q

-- DELIVER, where t is the next at s and v the vote on it
pub delivers : (st : State) (s t v : ℕ) (next : State) → deliver_refusal st s ≡ 0 → t ≡ next_at st s → v ≡ vote_of st t s → next ≡ with_delivery st t s v
    → Takes st (Deliver s) (Ok (answer.Delivered t v)) next
unfolding refusal_in done deliver_done
delivers st s t v next z e q h = accepts st (Deliver s) z (answer.Delivered t v) next (rw (← e, ← q)) (rw (← e, ← q) h)

-- an answer and the state after it, as one
pub stepped : (st : State) (x : Step) (a : Answered) (next : State) → Takes st x a next → ◌≡◌ {A = Stepped} (record { answer = a; next = next }) (decided st x)
stepped st x a next h = rw (h.0, h.1)

-- ---- a step taken in lent parts

module _ (p : Plan) (w : Parts) where
  -- READ: what stands at the key is recorded
  pub read_taken : (t i s : ℕ) → read_refusal (state_of p w) t i s ≡ 0 → let k = read_key p.tables t i in
      Takes (state_of p w) (Read t i s) (Ok (answer.Read (version (version_in w.versions s k)) (get_or w.values (s * 64 + k) 0))) (state_of p (with_read w t i (version_in w.versions s k) (get_or w.values (s * 64 + k) 0)))
  unfolding refusal_in done read_done
  read_taken t i s z = accepts (state_of p w) (Read t i s) z _ _ refl refl

  -- SUBMIT: t has the next place
  pub submit_taken : (t : ℕ) → submit_refusal (state_of p w) t ≡ 0 → let next = submitted_in w.places p.tables.txns + 1 in
      Takes (state_of p w) (Submit t) (Ok (answer.Submitted (place next))) (state_of p (with_place w t next))
  unfolding refusal_in done submit_done
  submit_taken t z = accepts (state_of p w) (Submit t) z _ _ refl refl

  -- CARRY: the vote of f, which s did not have
  pub carry_taken : (t f s : ℕ) → carry_refusal (state_of p w) t f s ≡ 0 → let held = cell 0 w.carried t s in
      Takes (state_of p w) (Carry t f s) (Ok (answer.Carried (cell 0 w.cast t f))) (state_of p (with_votes w (set w.carried (t * 16 + s) (cond (member held f) held (adding held f)))))
  unfolding refusal_in done carry_done
  carry_taken t f s z = accepts (state_of p w) (Carry t f s) z _ _ refl (rw (carry_has p.tables w.cast w.carried t f s z).lacks)
