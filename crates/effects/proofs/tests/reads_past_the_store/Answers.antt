-- The tables of the test have no groups and no transactions, so they fit.
use Rattle.std.proofs.Common.{arith}
use Rattle.bounded.specs.Bounded.{sum_below}
use Rattle.tables.specs.Empty.{no_tables}
use Rattle.effects.proofs.tests.reads_past_the_store.Goals as goal

pub of-plan-requires-clause-fits : goal.of-plan-requires-clause-fits
unfolding no_tables sum_below
of-plan-requires-clause-fits g c = rw c.no_tables-tables.ensures (record { groups = omega arith; sites = omega arith; txns = omega arith; short = λ t l. absurd (omega (arith, l)) })

pub of-plan-requires-clause-by_index : goal.of-plan-requires-clause-by_index
unfolding no_tables
of-plan-requires-clause-by_index g c = rw c.no_tables-tables.ensures (λ t i l k. absurd (omega (arith, l)))

pub of-plan-requires-clause-by_index_2 : goal.of-plan-requires-clause-by_index_2
unfolding no_tables
of-plan-requires-clause-by_index_2 g c = rw c.no_tables-tables.ensures (λ t i l k. absurd (omega (arith, l)))
