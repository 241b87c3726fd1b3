-- A number names one answer of `listing::list`: a length, or a refusal by its number below 0.
use Rattle.std.proofs.Common.{ℕ, suc, ◌≡◌, refl, ℤ, pos, negsuc, Result, Ok, Err}
use Rattle.numbers.specs.declared.FileRefusal.{FileRefusal}
use Rattle.numbers.specs.declared.FileRefusal.TheVariants.{TooLong, Cut, Misplaced, Length, Range, Twice, Unheld, NoRoom}
use Rattle.numbers.specs.Numbers.{file_refusal}
use Rattle.numbers.proofs.Laws.{only}
use Rattle.listing.specs.Listing.{answer_by}

abbrev back : ℤ → Result ℕ FileRefusal
back (pos n) = Ok n
back (negsuc n) = Err (file_refusal (suc n))

named : (r : Result ℕ FileRefusal) → back (answer_by r) ≡ r
unfolding file_refusal
named (Ok n) = refl
named (Err TooLong) = refl
named (Err Cut) = refl
named (Err Misplaced) = refl
named (Err Length) = refl
named (Err Range) = refl
named (Err Twice) = refl
named (Err Unheld) = refl
named (Err NoRoom) = refl

pub same_answer : (a b : Result ℕ FileRefusal) → answer_by a ≡ answer_by b → a ≡ b
same_answer = only answer_by back named
