use Rattle.std.proofs.Common.{arith, rules, ◌≡◌, length}
use Rattle.text.proofs.Laws.{none, more, then, fields_each}
use Rattle.text.specs.Text.{line_of}
use Rattle.text.proofs.put_line.Goals as goal

pub loop-n-init : goal.loop-n-init
loop-n-init c = (search rules, none _)

pub loop-n-preserved : goal.loop-n-preserved
loop-n-preserved c = (search rules, more _ _ c.loop-n.invariant.1 c.put_field-next.ensures.wrote)

pub returns-clause-wrote : goal.returns-clause-wrote
unfolding line_of
returns-clause-wrote c =
    let all : c.loop-n.n-index ≡ length c.args.ns.now = omega arith in
    then c.put_text-next.ensures (rw (fields_each c.args.ns.now, ← all) (then c.loop-n.invariant.1 c.put_byte.ensures))
