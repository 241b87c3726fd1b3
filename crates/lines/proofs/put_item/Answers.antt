-- `lines::put_item` meets its contract. A line, or nothing where the key is not in the set.
use Rattle.text.proofs.Laws.{writes_nothing}
use Rattle.lines.proofs.put_item.Goals as goal

pub returns-else-has-clause-wrote : goal.returns-else-has-clause-wrote
returns-else-has-clause-wrote c = rw (← c.from-key.ensures, ← c.has.ensures, c.if-has.false) writes_nothing
