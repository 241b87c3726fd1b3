-- `State::step` meets its contract. Its one test is that of `step_of`, and a usable state's tables have a plan.
use Rattle.std.proofs.Common.{◌≡◌, true, sym, ◌∙◌, arith}
use Rattle.machine.specs.Usable.{usable}
use Rattle.machine.proofs.Laws.{usable_has, usable_fits}
use Rattle.machine.proofs.State.step.Goals as goal
use Rattle.machine.proofs.State.step.Goals.{Else-not-is_usable}

ok : (c : Else-not-is_usable) → usable c.args.self ≡ true
ok c = sym c.is_usable.ensures ∙ c.if-not-is_usable.false

pub of-requires-clause-fits : goal.of-requires-clause-fits
of-requires-clause-fits c = usable_fits _ (ok (goal.at.of-requires-clause-fits c).Else-not-is_usable)

pub of-requires-clause-by_index : goal.of-requires-clause-by_index
of-requires-clause-by_index c = let u = usable_has _ (ok (goal.at.of-requires-clause-by_index c).Else-not-is_usable) in λ t i l m. omega (arith, (u.reads t l).low i m, u.keys)

pub of-requires-clause-by_index_2 : goal.of-requires-clause-by_index_2
of-requires-clause-by_index_2 c = let u = usable_has _ (ok (goal.at.of-requires-clause-by_index_2 c).Else-not-is_usable) in λ t i l m. omega (arith, (u.writes t l).low i m, u.keys)
