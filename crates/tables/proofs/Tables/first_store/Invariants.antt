-- `Tables::first_store` meets its contract. The invariant: the first j values are the first values of the tables (`Filled`).
use Rattle.tables.proofs.Filled.{Filled}
use Rattle.tables.proofs.Tables.first_store.Given as goal

abbrev pub invariant-loop-j : goal.invariant-loop-j
invariant-loop-j l = Filled l.self l.values l.j
