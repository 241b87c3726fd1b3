-- A number names one refusal, of a step and of a file.
use Rattle.std.proofs.Common.{◌≡◌, refl, sym, ap, ◌∙◌, arith, Result, Ok, Err, false, eqb}
use borrow.Author.Tests.{eqb-false}
use Rattle.numbers.specs.declared.StepRefusal.{StepRefusal}
use Rattle.numbers.specs.declared.StepRefusal.TheVariants.{Unusable, NoTransaction, NoSite, NoRead, NotThere, Done, Missing, NothingToDeliver, Conflict, NoVote, NotDelivered, NoVerdict, NotHead, LastVersion}
use Rattle.numbers.specs.declared.FileRefusal.{FileRefusal}
use Rattle.numbers.specs.declared.FileRefusal.TheVariants.{TooLong, Cut, Misplaced, Length, Range, Twice, Unheld, NoRoom}
use Rattle.numbers.specs.Numbers.{file_number, file_answer, file_refusal, file_outcome, step_number, step_answer, step_refusal}

-- where a number names its result, no two results have the same
pub only : {A B : Type 0} (f : A → B) (back : B → A) → ((x : A) → back (f x) ≡ x) → (a b : A) → f a ≡ f b → a ≡ b
only f back named a b e = sym (named a) ∙ ap back e ∙ named b

pub step_named : (r : StepRefusal) → step_refusal (step_number r) ≡ r
unfolding step_refusal
step_named Unusable = refl
step_named NoTransaction = refl
step_named NoSite = refl
step_named NoRead = refl
step_named NotThere = refl
step_named Done = refl
step_named Missing = refl
step_named NothingToDeliver = refl
step_named Conflict = refl
step_named NoVote = refl
step_named NotDelivered = refl
step_named NoVerdict = refl
step_named NotHead = refl
step_named LastVersion = refl

-- 0 refuses nothing
pub step_refuses : (r : StepRefusal) → step_number r ≡ 0 → ⊥
step_refuses Unusable e = absurd (omega arith)
step_refuses NoTransaction e = absurd (omega arith)
step_refuses NoSite e = absurd (omega arith)
step_refuses NoRead e = absurd (omega arith)
step_refuses NotThere e = absurd (omega arith)
step_refuses Done e = absurd (omega arith)
step_refuses Missing e = absurd (omega arith)
step_refuses NothingToDeliver e = absurd (omega arith)
step_refuses Conflict e = absurd (omega arith)
step_refuses NoVote e = absurd (omega arith)
step_refuses NotDelivered e = absurd (omega arith)
step_refuses NoVerdict e = absurd (omega arith)
step_refuses NotHead e = absurd (omega arith)
step_refuses LastVersion e = absurd (omega arith)

pub same_step : (a b : Result (Unit {0}) StepRefusal) → step_answer a ≡ step_answer b → a ≡ b
same_step (Ok _) (Ok _) e = refl
same_step (Ok _) (Err r) e = absurd (step_refuses r (sym e))
same_step (Err r) (Ok _) e = absurd (step_refuses r e)
same_step (Err r) (Err q) e = ap Err (only step_number step_refusal step_named r q e)

-- the same of a file
pub file_called : (r : FileRefusal) → file_refusal (file_number r) ≡ r
unfolding file_refusal
file_called TooLong = refl
file_called Cut = refl
file_called Misplaced = refl
file_called Length = refl
file_called Range = refl
file_called Twice = refl
file_called Unheld = refl
file_called NoRoom = refl

pub file_refuses : (r : FileRefusal) → eqb (file_number r) 0 ≡ false
file_refuses TooLong = refl
file_refuses Cut = refl
file_refuses Misplaced = refl
file_refuses Length = refl
file_refuses Range = refl
file_refuses Twice = refl
file_refuses Unheld = refl
file_refuses NoRoom = refl

pub file_above : (r : FileRefusal) → file_number r ≡ 0 → ⊥
file_above r = eqb-false (file_number r) 0 (file_refuses r)

pub file_named : (r : Result (Unit {0}) FileRefusal) → file_outcome (file_answer r) ≡ r
file_named (Ok _) = refl
file_named (Err r) = rw (file_refuses r, file_called r)

pub same_file : (a b : Result (Unit {0}) FileRefusal) → file_answer a ≡ file_answer b → a ≡ b
same_file = only file_answer file_outcome file_named
