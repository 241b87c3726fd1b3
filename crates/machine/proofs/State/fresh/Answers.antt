-- `State::fresh` meets its contract. Tables that are judged good have eight groups at most, and `no_tables` has none.
use Rattle.std.proofs.Common.{◌≡◌, cond, eqb}
use Rattle.numbers.proofs.Laws.{file_named}
use Rattle.tables.specs.Empty.{no_tables}
use Rattle.tables.specs.Judge.{judge}
use Rattle.machine.specs.Fresh.{fresh_of}
use Rattle.machine.proofs.Start.{judged_good, start_low}
use Rattle.machine.proofs.State.fresh.Goals as goal
use Rattle.machine.proofs.State.fresh.Goals.{Joined-is_ok, then-is_ok, else-is_ok}

-- the tables that it is made of
chosen : (c : Joined-is_ok) → c.if-is_ok.start ≡ cond (eqb (judge c.args.tables) 0) c.args.tables no_tables
chosen c = rw (← c.judged-outcome.ensures, judged_good c.judged-outcome.result, ← c.is_ok.ensures.value)
    (elim c.if-is_ok.branch [
      | then-is_ok w ↦ rw (w.start-is, w.if-is_ok.true)
      | else-is_ok w ↦ rw (w.start-is, w.if-is_ok.false) w.no_tables.ensures
    ])

pub start-requires : goal.start-requires
start-requires c = rw (chosen (goal.at.start-requires c).Joined-is_ok) (start_low c.args.tables)

pub returns : goal.returns
unfolding fresh_of
returns c = rw (c.start.ensures, chosen (goal.at.returns c).Joined-is_ok, ← c.judged-outcome.ensures, file_named c.judged-outcome.result)
