use Rattle.std.proofs.Common.{◌≡◌, arith, rules}
use Rattle.text.proofs.Laws.{writes_none, writes_more}
use Rattle.lines.specs.Lines.{item_lines}
use Rattle.lines.proofs.put_items.Goals as goal

pub loop-k-init : goal.loop-k-init
loop-k-init c = (search rules, writes_none _)

pub loop-k-preserved : goal.loop-k-preserved
loop-k-preserved c = (search rules, writes_more _ _ c.loop-k.invariant.1 c.put_item.ensures.wrote)

pub returns-clause-wrote : goal.returns-clause-wrote
unfolding item_lines
returns-clause-wrote c = let z : c.loop-k.k ≡ c.args.st.now.tables.keys = omega arith in rw z at c.loop-k.invariant.1
