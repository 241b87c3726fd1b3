use Rattle.std.proofs.Common.{rules}
use Rattle.std.proofs.lemmas.List.{take_more}
use Rattle.text.proofs.Laws.{nothing, then}
use Rattle.text.proofs.put_text.Goals as goal

pub loop-b-init : goal.loop-b-init
loop-b-init c = (search rules, nothing)

pub loop-b-preserved : goal.loop-b-preserved
loop-b-preserved c = (search rules, rw (take_more c.args.s.now c.loop-b.b-index 0 c.loop-b-test.true) (then c.loop-b.invariant.1 c.put_byte-next.ensures))
