-- `listing::put_listing` meets its contract. The fresh state is usable, and so is the state at the run's end; its lines stand after those of the run.
use Rattle.std.proofs.Common.{arith, rules}
use Rattle.text.specs.Wrote.{Writes}
use Rattle.text.proofs.Laws.{writes_then}
use Rattle.machine.proofs.Kept.{fresh_runs, fresh_places}
use Rattle.listing.specs.Listing.{lines_of}
use Rattle.listing.proofs.Laws.{end_usable}
use Rattle.listing.proofs.put_listing.Goals as goal

pub run-requires-clause-usable : goal.run-requires-clause-usable
run-requires-clause-usable c = rw c.fresh-fresh.ensures (fresh_runs c.args.tables, fresh_places c.args.tables)

pub put_state-requires : goal.put_state-requires
put_state-requires c = (
  rw (c.run.ensures.state, c.fresh-fresh.ensures) (end_usable _ _ (fresh_places c.args.tables) (fresh_runs c.args.tables)),
  omega (arith, c.requires, c.run.ensures.bound, c.new-w.ensures),
)

pub returns-clause-wrote : goal.returns-clause-wrote
unfolding lines_of
returns-clause-wrote c =
    let all : Writes c.new-w.result c.put_state.new.w (lines_of c.args.tables c.args.schedule.now) =
    rw c.fresh-fresh.ensures at (writes_then c.run.ensures.wrote (rw c.run.ensures.state at c.put_state.ensures.wrote)) in
    search rules
