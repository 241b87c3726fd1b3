use Rattle.std.proofs.Common.{rules}
use Rattle.text.proofs.Laws.{writes_none, writes_more}
use Rattle.lines.proofs.put_sites.Goals as goal

pub loop-s-init : goal.loop-s-init
loop-s-init c = (search rules, writes_none _)

pub loop-s-preserved : goal.loop-s-preserved
loop-s-preserved c = (search rules, writes_more _ _ c.loop-s.invariant.1 (rw c.site_keys.ensures at c.put_items.ensures.wrote))
