-- A number names one vote and one verdict, or none.
use Rattle.std.proofs.Common.{ℕ, ◌≡◌, refl, cond, eqb, Option, Some, None}
use Rattle.numbers.proofs.Laws.{only}
use Rattle.steps.specs.declared.Vote.{Vote}
use Rattle.steps.specs.declared.Vote.TheVariants.{Yes, No}
use Rattle.steps.specs.declared.Verdict.{Verdict}
use Rattle.steps.specs.declared.Verdict.TheVariants.{Commit, Abort}
use Rattle.steps.specs.Codes.{vote_number, verdict_number}

pub same_vote : (a b : Option Vote) → vote_number a ≡ vote_number b → a ≡ b
same_vote = only vote_number back named
  where
    back : ℕ → Option Vote
    back n = cond (eqb n 0) None (cond (eqb n 1) (Some Yes) (Some No))

    named : (v : Option Vote) → back (vote_number v) ≡ v
    named None = refl
    named (Some Yes) = refl
    named (Some No) = refl

pub same_verdict : (a b : Option Verdict) → verdict_number a ≡ verdict_number b → a ≡ b
same_verdict = only verdict_number back named
  where
    back : ℕ → Option Verdict
    back n = cond (eqb n 0) None (cond (eqb n 1) (Some Commit) (Some Abort))

    named : (v : Option Verdict) → back (verdict_number v) ≡ v
    named None = refl
    named (Some Commit) = refl
    named (Some Abort) = refl
