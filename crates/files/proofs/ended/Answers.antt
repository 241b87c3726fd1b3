-- Each `return` by the refusal and what is left of the setup.
use Rattle.std.proofs.Common.{le-leb}
use Rattle.std.proofs.lemmas.Bool.{lt-leb}
use Rattle.files.specs.Setup.{ended}
use Rattle.files.proofs.Refusals.{handed, placed_ok, ended_err}
use Rattle.files.proofs.ended.Goals as goal

pub returns-in_err-placed : goal.returns-in_err-placed
returns-in_err-placed c = rw (handed _ _ c.from_residual.ensures.1) (ended_err _ _ _ _ _ _ c.end_refusal.ensures c.in_err-placed.ensures)

pub returns-then-next-s : goal.returns-then-next-s
unfolding ended
returns-then-next-s c = rw (← c.end_refusal.ensures, placed_ok _ _ _ c.in_ok-placed.ensures, lt-leb _ _ c.if-next-s.true)

pub returns : goal.returns
unfolding ended
returns c = rw (← c.end_refusal.ensures, placed_ok _ _ _ c.in_ok-placed.ensures, le-leb _ _ c.if-next-s.false)
