use Rattle.std.proofs.Common.{rules}
use Rattle.text.proofs.Laws.{writes_none, writes_more}
use Rattle.lines.proofs.put_txns.Goals as goal

pub loop-t-init : goal.loop-t-init
loop-t-init c = (search rules, writes_none _)

pub loop-t-preserved : goal.loop-t-preserved
loop-t-preserved c = (search rules, writes_more _ _ c.loop-t.invariant.1 (rw (c.from-in-loop-t.ensures, c.verdict_of-verdict.ensures, c.from-at.ensures, c.from.ensures, c.sites-sites.ensures.0) at c.line.ensures.wrote))
