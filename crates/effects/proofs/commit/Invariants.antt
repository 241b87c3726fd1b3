-- `effects::commit` meets its contract. After i turns the parts are those after i writes.
use Rattle.std.proofs.Common.{◌≡◌}
use Rattle.effects.specs.Stored.{partly_in}
use Rattle.effects.proofs.commit.Given as goal

abbrev pub invariant-loop-i : goal.invariant-loop-i
invariant-loop-i l = l.w ≡ partly_in l.plan.tables l.initial.w l.t l.s l.i
