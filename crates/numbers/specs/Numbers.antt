-- The listed number of each refusal; 0 where nothing is refused.
use Rattle.std.specs.Prelude.{ℕ, cond, eqb, Result, Ok, Err}
use Rattle.numbers.specs.declared.FileRefusal.{FileRefusal}
use Rattle.numbers.specs.declared.FileRefusal.TheVariants.{TooLong, Cut, Misplaced, Length, Range, Twice, Unheld, NoRoom}
use Rattle.numbers.specs.declared.StepRefusal.{StepRefusal}
use Rattle.numbers.specs.declared.StepRefusal.TheVariants.{Unusable, NoTransaction, NoSite, NoRead, NotThere, Done, Missing, NothingToDeliver, Conflict, NoVote, NotDelivered, NoVerdict, NotHead, LastVersion}

abbrev pub file_number : FileRefusal → ℕ
file_number TooLong = 1
file_number Cut = 2
file_number Misplaced = 3
file_number Length = 4
file_number Range = 5
file_number Twice = 6
file_number Unheld = 7
file_number NoRoom = 9

abbrev pub step_number : StepRefusal → ℕ
step_number Unusable = 10
step_number NoTransaction = 20
step_number NoSite = 21
step_number NoRead = 22
step_number NotThere = 23
step_number Done = 24
step_number Missing = 25
step_number NothingToDeliver = 26
step_number Conflict = 27
step_number NoVote = 28
step_number NotDelivered = 29
step_number NoVerdict = 30
step_number NotHead = 31
step_number LastVersion = 32

-- what a test answers: 0 where it passes
abbrev pub file_answer : Result (Unit {0}) FileRefusal → ℕ
file_answer (Ok _) = 0
file_answer (Err r) = file_number r

abbrev pub step_answer : Result (Unit {0}) StepRefusal → ℕ
step_answer (Ok _) = 0
step_answer (Err r) = step_number r

-- the refusal of a step by its number
unfoldable pub step_refusal : ℕ → StepRefusal
step_refusal n =
    cond (eqb n 20) NoTransaction
    (cond (eqb n 21) NoSite
    (cond (eqb n 22) NoRead
    (cond (eqb n 23) NotThere
    (cond (eqb n 24) Done
    (cond (eqb n 25) Missing
    (cond (eqb n 26) NothingToDeliver
    (cond (eqb n 27) Conflict
    (cond (eqb n 28) NoVote
    (cond (eqb n 29) NotDelivered
    (cond (eqb n 30) NoVerdict
    (cond (eqb n 31) NotHead
    (cond (eqb n 32) LastVersion
    Unusable))))))))))))

-- the refusal of a file by its number
unfoldable pub file_refusal : ℕ → FileRefusal
file_refusal n =
    cond (eqb n 1) TooLong
    (cond (eqb n 2) Cut
    (cond (eqb n 3) Misplaced
    (cond (eqb n 4) Length
    (cond (eqb n 5) Range
    (cond (eqb n 6) Twice
    (cond (eqb n 7) Unheld
    NoRoom))))))

-- what a number says of a file
abbrev pub file_outcome : ℕ → Result (Unit {0}) FileRefusal
file_outcome n = cond (eqb n 0) (Ok tt) (Err (file_refusal n))
