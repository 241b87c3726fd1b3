-- `listing::run` meets its contract. The invariant: the plan is of the state's tables, and where the run stands (`Running`); the measure is what is left of the schedule.
use Rattle.std.proofs.Common.{◌-◌, length, ◌≡◌}
use Rattle.listing.proofs.Laws.{Running}
use Rattle.listing.proofs.run.Given as goal

abbrev pub invariant-loop-record : goal.invariant-loop-record
invariant-loop-record l = (l.plan.tables ≡ l.st.tables) × Running l.schedule l.fn.st l.fn.w l.st l.idle l.w l.i l.at

abbrev pub decreases-loop-record : goal.decreases-loop-record
decreases-loop-record l = length l.schedule - l.at
