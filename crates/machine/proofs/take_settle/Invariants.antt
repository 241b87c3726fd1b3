-- `machine::take_settle` meets its contract. The steps left from here are the steps left from the start, and what is known stays true.
use Rattle.std.proofs.Common.{◌-◌, ◌≤◌}
use Rattle.order.specs.Order.{codes}
use Rattle.machine.specs.Settle.{most}
use Rattle.machine.specs.Lent.{state_of}
use Rattle.machine.proofs.Loop.{Going}
use Rattle.machine.proofs.take_settle.Given as goal

abbrev pub invariant-loop-n : goal.invariant-loop-n
invariant-loop-n l = (l.n ≤ most) × Going (state_of l.plan l.initial.w) (state_of l.plan l.w) l.n (codes l.order) l.known

abbrev pub decreases-loop-n : goal.decreases-loop-n
decreases-loop-n l = most - l.n
