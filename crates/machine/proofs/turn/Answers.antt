-- `machine::turn` meets its contract. What comes next is one CLOSE, one DELIVER, or CARRY after CARRY.
use Rattle.std.proofs.Common.{◌≡◌, sym}
use Rattle.search.specs.Search.{Carry}
use Rattle.machine.specs.Settle.{todo}
use Rattle.machine.specs.Lent.{state_of}
use Rattle.machine.proofs.Loop.{carries, turn_carries}
use Rattle.machine.proofs.turn.Goals as goal
use Rattle.machine.proofs.turn.Goals.{In-Some-Carry}

pub deliver_next-requires-clause-p_bound : goal.deliver_next-requires-clause-p_bound
deliver_next-requires-clause-p_bound c = let a = c.in-Some-Deliver in
    (c.next_step.ensures.by_index _ _ (rw a.field-0-is at a.is)).0

-- what comes next
next : (c : In-Some-Carry) → todo (state_of c.args.plan.now c.args.w.now) ≡ Carry c.in-Some-Carry.t c.in-Some-Carry.field-0-1 c.in-Some-Carry.field-0-2
next c = let a = c.in-Some-Carry in let (r, k) = c.requires.ready in sym (rw (a.is, a.field-0-is) at (c.next_step.ensures.value r.0 k).0)

pub carry_on-requires-clause-t_bound : goal.carry_on-requires-clause-t_bound
carry_on-requires-clause-t_bound c = rw c.from.ensures (carries _ c.requires.ready.0.1 (next (goal.at.carry_on-requires-clause-t_bound c).In-Some-Carry)).txn

pub returns-in-Some-Carry-clause-turns : goal.returns-in-Some-Carry-clause-turns
returns-in-Some-Carry-clause-turns c = λ k.
    let r = c.requires.ready.0 in
    let knows = (c.next_step.ensures.value r.0 k).1 in
    let g = rw c.from.ensures at c.carry_on.ensures.carried in
    let h = g _ _ r.0 knows (next (goal.at.returns-in-Some-Carry-clause-turns c).In-Some-Carry) in
    rw c.carry_on.ensures.kept (turn_carries _ r.1 _ _ _ _ (h.1.1 c.requires.n_bound) h.0 h.1.0)
