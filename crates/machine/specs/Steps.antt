-- A step: 10 on an unusable state; else its refusal, with the state as it was; else what it does.
use Rattle.std.specs.Prelude.{ℕ, cond, eqb, Err}
use Rattle.numbers.specs.Numbers.{step_refusal}
use Rattle.machine.specs.Usable.{usable}
use Rattle.machine.specs.Refusals.{refusal}
use Rattle.machine.specs.Effects.{answering, read_done, submit_done, deliver_done, carry_done, close_done}
use Rattle.machine.specs.Settle.{settle_done}
use Rattle.machine.specs.declared.State.{State}
use Rattle.machine.specs.declared.Stepped.{Stepped}
use Rattle.steps.specs.declared.Step.{Step}
use Rattle.steps.specs.declared.Step.TheVariants.{Read, Submit, Deliver, Carry, Close, Settle}

abbrev pub refused : State → ℕ → Stepped
refused st n = answering (Err (step_refusal n)) st

-- what an accepted step does
unfoldable pub done : State → Step → Stepped
done st (Read t i s) = read_done st t i s
done st (Submit t) = submit_done st t
done st (Deliver s) = deliver_done st s
done st (Carry t from to) = carry_done st t from to
done st (Close t s) = close_done st t s
done st Settle = settle_done st

-- refused, or done
unfoldable pub decided : State → Step → Stepped
decided st x =
    let takes = done st x in
    cond (eqb (refusal st x) 0) takes (refused st (refusal st x))

unfoldable pub step_of : State → Step → Stepped
step_of st x = let runs = decided st x in cond (usable st) runs (refused st 10)
