-- A run of steps, refused ones included: the answers in order, and the state at the end.
use Rattle.std.specs.Prelude.{List, [], ◌∷◌, Result}
use Rattle.machine.specs.Steps.{step_of}
use Rattle.machine.specs.declared.State.{State}
use Rattle.steps.specs.declared.Step.{Step}
use Rattle.numbers.specs.declared.StepRefusal.{StepRefusal}
use Rattle.steps.specs.declared.Answer.{Answer}

unfoldable pub end_of : State → List Step → State
end_of st [] = st
end_of st (x ∷ l) = end_of (step_of st x).next l

unfoldable pub answers_of : State → List Step → List (Result Answer StepRefusal)
answers_of st [] = []
answers_of st (x ∷ l) = let r = step_of st x in r.answer ∷ answers_of r.next l
