-- `idle_after` meets its contract: one answer after the other.
use Rattle.std.proofs.Common.{ℕ, ◌≡◌, refl, Bool, false, Ok}
use Rattle.steps.specs.declared.Version.{Version}
use Rattle.steps.specs.declared.Answer.{Answer}
use Rattle.steps.specs.declared.Answer.TheVariants as answer
use Rattle.machine.specs.Lent.{idle_after}
use Rattle.machine.proofs.idle_after.Goals as goal

-- after any other answer it is not known
other : (R : Type 0) (b : Bool) (a : Answer) → ((v : Version) (x : ℕ) → a ≡ answer.Read v x → ⊥) → ((n : ℕ) → a ≡ answer.Settled n → ⊥) → false ≡ idle_after {R = R} b (Ok a)
unfolding idle_after
other R b (answer.Read v x) r s = absurd (r v x refl)
other R b (answer.Submitted p) r s = refl
other R b (answer.Delivered t v) r s = refl
other R b (answer.Carried v) r s = refl
other R b (answer.Closed v) r s = refl
other R b (answer.Settled n) r s = absurd (s n refl)

pub returns-in_default-answer : goal.returns-in_default-answer
returns-in_default-answer g c = rw c.in-Ok.is (other _ _ _ c.in_default-answer.not-Read c.in_default-answer.not-Settled)
