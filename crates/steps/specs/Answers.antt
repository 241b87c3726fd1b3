-- An answer's number and its two values: 0 and what the step gives, or the refusal and two zeros.
use Rattle.std.specs.Prelude.{ℕ, Result, Ok, Err}
use Rattle.steps.specs.declared.Numbers.{Numbers}
use Rattle.numbers.specs.Numbers.{step_number}
use Rattle.numbers.specs.declared.StepRefusal.{StepRefusal}
use Rattle.steps.specs.declared.Answer.{Answer}
use Rattle.steps.specs.declared.Answer.TheVariants.{Read, Submitted, Delivered, Carried, Closed, Settled}

-- accepted with an answer, or refused
abbrev pub Answered : Type 0
Answered = Result Answer StepRefusal

abbrev pub numbers : ℕ → ℕ → ℕ → Numbers
numbers n a b = record { code = n; first = a; second = b }

-- where f gives the number of a refusal
abbrev pub numbers_by : {R : Type 0} → (R → ℕ) → Result Answer R → Numbers
numbers_by f (Ok (Read version value)) = numbers 0 version.0 value
numbers_by f (Ok (Submitted place)) = numbers 0 place.0 0
numbers_by f (Ok (Delivered t vote)) = numbers 0 t vote
numbers_by f (Ok (Carried vote)) = numbers 0 vote 0
numbers_by f (Ok (Closed verdict)) = numbers 0 verdict 0
numbers_by f (Ok (Settled count)) = numbers 0 count 0
numbers_by f (Err r) = numbers (f r) 0 0

abbrev pub numbers_of : Answered → Numbers
numbers_of = numbers_by step_number
