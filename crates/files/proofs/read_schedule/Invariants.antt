-- The loop's invariant: the walk from where the loop is reads as the whole does.
use Rattle.std.proofs.Common.{suc, ◌-◌, ◌≡◌, length, Ok}
use Rattle.files.specs.Schedule.{schedule_turn, read_schedule}
use Rattle.files.specs.Walk.{walk}
use Rattle.files.proofs.read_schedule.Given as goal

abbrev pub invariant-loop-at : goal.invariant-loop-at
invariant-loop-at l = walk (schedule_turn l.s) (Ok tt) (suc (length l.s - l.at)) l.at ≡ read_schedule l.s

abbrev pub decreases-loop-at : goal.decreases-loop-at
decreases-loop-at l = length l.s - l.at
