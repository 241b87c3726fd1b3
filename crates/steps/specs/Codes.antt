-- The numbers by which votes and verdicts are kept: 0 for none.
use Rattle.std.specs.Prelude.{ℕ, Option, Some, None}
use Rattle.steps.specs.declared.Vote.{Vote}
use Rattle.steps.specs.declared.Vote.TheVariants.{Yes, No}
use Rattle.steps.specs.declared.Verdict.{Verdict}
use Rattle.steps.specs.declared.Verdict.TheVariants.{Commit, Abort}

abbrev pub vote_number : Option Vote → ℕ
vote_number None = 0
vote_number (Some Yes) = 1
vote_number (Some No) = 2

abbrev pub verdict_number : Option Verdict → ℕ
verdict_number None = 0
verdict_number (Some Commit) = 1
verdict_number (Some Abort) = 2
