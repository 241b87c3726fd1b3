-- Demand 1 for steps: refused by one of the step's own numbers with the state as it was, or accepted with 0.
use Rattle.std.specs.Prelude.{ℕ, ◌≡◌, true, false, List, [], ◌∷◌, Err}
use types.Run.{OneOf}
use Rattle.steps.specs.Answers.{numbers, numbers_of}
use Rattle.steps.specs.declared.Step.{Step}
use Rattle.steps.specs.declared.Step.TheVariants.{Read, Submit, Deliver, Carry, Close, Settle}
use Rattle.numbers.specs.Numbers.{step_number}
use Rattle.numbers.specs.declared.StepRefusal.{StepRefusal}
use Rattle.numbers.specs.declared.StepRefusal.TheVariants.{Unusable}
use Rattle.machine.specs.Usable.{usable}
use Rattle.machine.specs.Steps.{step_of}
use Rattle.machine.specs.declared.State.{State}

-- the numbers listed for a step, in their order; for SETTLE there is none
abbrev pub listed_for : Step → List ℕ
listed_for (Read t i s) = 20 ∷ 22 ∷ 21 ∷ 23 ∷ 24 ∷ []
listed_for (Submit t) = 20 ∷ 24 ∷ 25 ∷ []
listed_for (Deliver s) = 21 ∷ 26 ∷ 27 ∷ []
listed_for (Carry t from to) = 20 ∷ 21 ∷ 23 ∷ 28 ∷ 24 ∷ []
listed_for (Close t s) = 20 ∷ 21 ∷ 23 ∷ 24 ∷ 29 ∷ 30 ∷ 31 ∷ 32 ∷ []
listed_for Settle = []

pub record Demand1Step (st : State) (x : Step) : Type 0 where
  -- an unusable state answers 10 before all else; on any other a refusal is one of those listed
  pub unusable : usable st ≡ false → (step_of st x).answer ≡ Err Unusable
  pub listed : usable st ≡ true → (r : StepRefusal) → (step_of st x).answer ≡ Err r → OneOf (listed_for x) (step_number r)
  -- a refusal answers its number and two zeros; the state stays equal in every part
  pub zeros : (r : StepRefusal) → (step_of st x).answer ≡ Err r → numbers_of (step_of st x).answer ≡ numbers (step_number r) 0 0
  pub kept : (r : StepRefusal) → (step_of st x).answer ≡ Err r → (step_of st x).next ≡ st
  -- what is not refused is accepted, and answers 0
  pub accepted : ((r : StepRefusal) → (step_of st x).answer ≡ Err r → ⊥) → (numbers_of (step_of st x).answer).code ≡ 0
