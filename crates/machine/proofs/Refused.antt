-- A refusal answers its number and two zeros, and hands the state back equal in every part: said once, for every state and step.
-- Assumes nothing.
use Rattle.std.proofs.Common.{ℕ, zero, suc, ◌+◌, ◌≡◌, refl, Bool, true, false, cond, eqb, arith, Ok, Err}
use Rattle.numbers.specs.Numbers.{step_number, step_refusal}
use Rattle.numbers.specs.declared.StepRefusal.{StepRefusal}
use Rattle.steps.specs.Answers.{Answered, numbers, numbers_of}
use Rattle.steps.specs.declared.Step.{Step}
use Rattle.steps.specs.declared.Step.TheVariants as step
use Rattle.steps.specs.declared.Answer.{Answer}
use Rattle.machine.specs.Usable.{usable}
use Rattle.machine.specs.Refusals.{refusal}
use Rattle.machine.specs.Effects.{read_done, submit_done, deliver_done, carry_done, close_done}
use Rattle.machine.specs.Settle.{most, todo, after, settle_for, settle_done}
use Rattle.machine.specs.Steps.{refused, done, decided, step_of}
use Rattle.machine.specs.declared.State.{State}
use Rattle.machine.specs.declared.Stepped.{Stepped}
use Rattle.search.specs.Search.{Todo, Close, Deliver, Carry, Nothing}

-- an answer that is no refusal
abbrev Took : Answered → Type 0
Took a = (r : StepRefusal) → a ≡ Err r → ⊥

given : (a : Answer) → Took (Ok a)
given a r e = absurd (let q : ◌≡◌ {A = ℕ} 0 1 = cc in omega arith)

-- SETTLE answers a count, whatever it does
settle_took : (f n : ℕ) (st : State) → Took (settle_for f n st).answer
unfolding settle_for
settle_took zero n st = given _
settle_took (suc f) n st = by (λ next. settle_took f (n + 1) next) (todo st) refl
  where
    by : ((next : State) → Took (settle_for f (n + 1) next).answer) → (x : Todo) → todo st ≡ x → Took (settle_for (suc f) n st).answer
    by more (Close t s) e = rw (e, settle_for) (more (after st (Close t s)))
    by more (Deliver s) e = rw (e, settle_for) (more (after st (Deliver s)))
    by more (Carry t from to) e = rw (e, settle_for) (more (after st (Carry t from to)))
    by more Nothing e = rw (e, settle_for) (given _)

-- what an accepted step answers is no refusal
pub done_took : (st : State) (x : Step) → Took (done st x).answer
unfolding done read_done submit_done deliver_done carry_done close_done settle_done
done_took st (step.Read t i s) = given _
done_took st (step.Submit t) = given _
done_took st (step.Deliver s) = given _
done_took st (step.Carry t from to) = given _
done_took st (step.Close t s) = given _
done_took st step.Settle = settle_took most 0 st

-- what a refusal leaves
pub record Kept (st : State) (r : StepRefusal) (z : Stepped) : Type 0 where
  pub state : z.next ≡ st
  pub answers : numbers_of z.answer ≡ numbers (step_number r) 0 0

pub refused_keeps : (st : State) (x : Step) (r : StepRefusal) → (step_of st x).answer ≡ Err r → Kept st r (step_of st x)
unfolding step_of decided
refused_keeps st x r = judge (usable st)
  where
    kept : (m : ℕ) → (refused st m).answer ≡ Err r → Kept st r (refused st m)
    kept m e = let d : step_refusal m ≡ r = cc in record { state = refl; answers = rw d }

    taken : (b : Bool) → (cond b (done st x) (refused st (refusal st x))).answer ≡ Err r → Kept st r (cond b (done st x) (refused st (refusal st x)))
    taken true e = absurd (done_took st x r e)
    taken false e = kept (refusal st x) e

    judge : (b : Bool) → (cond b (cond (eqb (refusal st x) 0) (done st x) (refused st (refusal st x))) (refused st 10)).answer ≡ Err r
        → Kept st r (cond b (cond (eqb (refusal st x) 0) (done st x) (refused st (refusal st x))) (refused st 10))
    judge true e = taken (eqb (refusal st x) 0) e
    judge false e = kept 10 e
