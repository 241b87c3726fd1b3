-- The loop's invariant: the walk from where the loop is reads as the whole does, and the groups are at most eight.
use Rattle.std.proofs.Common.{suc, ◌-◌, ◌≤◌, ◌≡◌, length, Ok}
use Rattle.tables.specs.Empty.{no_tables}
use Rattle.files.specs.Setup.{setup_read, setup_turn, read_from}
use Rattle.files.specs.Walk.{walk}
use Rattle.files.proofs.read_tables.Given as goal

abbrev pub invariant-loop-next : goal.invariant-loop-next
invariant-loop-next l = (l.t.groups ≤ 8) × (walk (setup_turn l.s) (setup_read (Ok tt) no_tables) (suc (length l.s - l.at)) (record { at = l.at; tables = l.t }) ≡ read_from l.initial.t l.s)

abbrev pub decreases-loop-next : goal.decreases-loop-next
decreases-loop-next l = length l.s - l.at
