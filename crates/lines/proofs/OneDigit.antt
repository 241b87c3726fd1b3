-- The digits of an answer's numbers.
-- Assumes nothing.
use Rattle.std.proofs.Common.{ℕ, ◌≤◌, ◌⊎◌, inl, inr, arith, length, Result, Ok, Err}
use Rattle.text.specs.Text.{digits_of}
use Rattle.text.proofs.Laws.{digits_length}
use Rattle.steps.specs.Answers.{numbers_by}
use Rattle.steps.specs.declared.Answer.{Answer}
use Rattle.steps.specs.declared.Answer.TheVariants.{Read, Submitted, Delivered, Carried, Closed, Settled}

-- an answer has the number 0 or two zeros, one digit each
pub one_digit : {R : Type 0} (f : R → ℕ) (a : Result Answer R) → let n = numbers_by f a in (length (digits_of n.code) ≤ 1) ⊎ ((length (digits_of n.first) ≤ 1) × (length (digits_of n.second) ≤ 1))
one_digit f (Ok (Read version value)) = inl (digits_length 0 0 (omega arith))
one_digit f (Ok (Submitted place)) = inl (digits_length 0 0 (omega arith))
one_digit f (Ok (Delivered t vote)) = inl (digits_length 0 0 (omega arith))
one_digit f (Ok (Carried vote)) = inl (digits_length 0 0 (omega arith))
one_digit f (Ok (Closed verdict)) = inl (digits_length 0 0 (omega arith))
one_digit f (Ok (Settled count)) = inl (digits_length 0 0 (omega arith))
one_digit f (Err r) = inr (digits_length 0 0 (omega arith), digits_length 0 0 (omega arith))
