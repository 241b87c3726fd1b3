-- `lines::put_state` meets its contract. The lines of the transactions, then those of the sites.
use Rattle.std.proofs.Common.{arith}
use Rattle.machine.proofs.Laws.{usable_has}
use Rattle.text.proofs.Laws.{writes_then}
use Rattle.lines.specs.Lines.{state_lines}
use Rattle.lines.proofs.put_state.Goals as goal

pub put_txns-requires-clause-sites : goal.put_txns-requires-clause-sites
put_txns-requires-clause-sites c = let u = usable_has _ c.requires.0 in (u.groups, (u.sites, u.txns))

pub put_txns-requires-clause-at_bound : goal.put_txns-requires-clause-at_bound
put_txns-requires-clause-at_bound c = omega (arith, c.requires.1, (usable_has _ c.requires.0).txns)

pub put_sites-requires-clause-groups_bound : goal.put_sites-requires-clause-groups_bound
put_sites-requires-clause-groups_bound c = let u = usable_has _ c.requires.0 in (u.groups, (u.sites, u.keys))

pub put_sites-requires-clause-at_bound : goal.put_sites-requires-clause-at_bound
put_sites-requires-clause-at_bound c = omega (arith, c.requires.1, c.put_txns.ensures.upper_bound, (usable_has _ c.requires.0).txns)

pub returns-clause-wrote : goal.returns-clause-wrote
unfolding state_lines
returns-clause-wrote c = writes_then c.put_txns.ensures.wrote c.put_sites.ensures.wrote

pub returns-clause-upper_bound : goal.returns-clause-upper_bound
returns-clause-upper_bound c = omega (arith, c.put_txns.ensures.upper_bound, c.put_sites.ensures.upper_bound, (usable_has _ c.requires.0).txns)
