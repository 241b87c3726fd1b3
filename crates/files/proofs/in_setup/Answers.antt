-- Each case by the tests that led there.
use Rattle.std.proofs.Common.{arith, eq-eqb, ne_eqb}
use Rattle.std.proofs.lemmas.Grind.{common_steps}
use Rattle.files.specs.Setup.{allowed}
use Rattle.files.proofs.in_setup.Goals as goal

pub returns-then-t-eq0 : goal.returns-then-t-eq0
unfolding allowed
returns-then-t-eq0 c = simp (eq-eqb _ _ c.if-t-eq0.true)

pub returns-then-t-eq0-2 : goal.returns-then-t-eq0-2
unfolding allowed
returns-then-t-eq0-2 c = simp (ne_eqb _ _ c.if-t-eq0.false, eq-eqb _ _ c.if-t-eq0-2.true)

pub returns-in-2 : goal.returns-in-2
unfolding allowed
returns-in-2 c = rw c.in-2.is (simp (ne_eqb _ _ c.if-t-eq0.false, ne_eqb _ _ c.if-t-eq0-2.false))

pub returns-in-3 : goal.returns-in-3
unfolding allowed
returns-in-3 c = grind (arith, common_steps)

pub returns-in_default : goal.returns-in_default
unfolding allowed
returns-in_default c = grind (arith, common_steps)
