-- Each arm by its tag.
use Rattle.std.proofs.Common.{arith, ne_eqb}
use Rattle.files.specs.Schedule.{step_by}
use Rattle.files.proofs.step_by.Goals as goal

pub returns-in-16 : goal.returns-in-16
unfolding step_by
returns-in-16 c = rw (c.in-16.is, c.byte_at-a.ensures, c.byte_at-b.ensures, c.byte_at-c.ensures)

pub returns-in-17 : goal.returns-in-17
unfolding step_by
returns-in-17 c = rw (c.in-17.is, c.byte_at-a.ensures)

pub returns-in-18 : goal.returns-in-18
unfolding step_by
returns-in-18 c = rw (c.in-18.is, c.byte_at-a.ensures)

pub returns-in-19 : goal.returns-in-19
unfolding step_by
returns-in-19 c = rw (c.in-19.is, c.byte_at-a.ensures, c.byte_at-b.ensures, c.byte_at-c.ensures)

pub returns-in-20 : goal.returns-in-20
unfolding step_by
returns-in-20 c = rw (c.in-20.is, c.byte_at-a.ensures, c.byte_at-b.ensures)

pub returns-in_default : goal.returns-in_default
unfolding step_by
returns-in_default c =
    rw (ne_eqb c.args.tag 16 (omega arith), ne_eqb c.args.tag 17 (omega arith), ne_eqb c.args.tag 18 (omega arith), ne_eqb c.args.tag 19 (omega arith), ne_eqb c.args.tag 20 (omega arith))
