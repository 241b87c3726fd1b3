-- Demand 2: a step does what the protocol says exactly if the protocol permits it, and else is refused with the state as it was.
-- Assumes nothing.
use Prim.Native.Nat.{ℕ, ◌<◌}
use mathlib.Core.Path.{◌≡◌, sym, subst}
use mathlib.Core.Bool.{true, false}
use native.Mathlib.Omega.{arith}
use borrow.Author.Tests.{ne_eqb}
use Rattle.steps.specs.declared.Step.{Step}
use Rattle.steps.specs.declared.Step.TheVariants.{Read, Submit, Deliver, Carry, Close, Settle}
use Rattle.std.specs.Prelude.{Err}
use Rattle.numbers.specs.Numbers.{step_number, step_refusal}
use Rattle.numbers.specs.declared.StepRefusal.{StepRefusal}
use Rattle.numbers.specs.declared.StepRefusal.TheVariants.{Unusable}
use Rattle.numbers.proofs.Laws.{step_refuses}
use Rattle.machine.specs.Usable.{usable}
use Rattle.machine.specs.Refusals.{refusal}
use Rattle.machine.specs.Effects.{answering}
use Rattle.machine.specs.Steps.{done, decided, step_of}
use Rattle.machine.specs.declared.State.{State}
use Rattle.machine.specs.declared.Stepped.{Stepped}
use Rattle.machine.proofs.Settle.{taken}
use Rattle.demands.specs.Protocol.{Protocol, Demand2}
use Rattle.demands.proofs.Sized.{Arrays}
use Rattle.demands.proofs.Permits.{permitted}
use Rattle.demands.proofs.Does.{differ, does}
use Rattle.demands.proofs.Settling.{settles}

-- no refusal has the number 0
above : (r : StepRefusal) → 0 < step_number r
above r = let h = step_refuses r in omega arith

module _ (st : State) where
  unusable : usable st ≡ false → (x : Step) → step_of st x ≡ answering (Err Unusable) st
  unfolding step_of
  unusable h x = unfold step_refusal in rw h

  accepted : usable st ≡ true → (x : Step) → refusal st x ≡ 0 → step_of st x ≡ done st x
  unfolding step_of
  accepted h x e = rw h (taken st x e)

  refused : usable st ≡ true → (x : Step) → (refusal st x ≡ 0 → ⊥) → (r : StepRefusal) × (0 < step_number r) × (step_of st x ≡ answering (Err r) st)
  unfolding step_of decided
  refused h x d = (step_refusal (refusal st x), above (step_refusal (refusal st x)), rw (h, ne_eqb (refusal st x) 0 d))

module _ (st : State) (z : Arrays st) (h : usable st ≡ true) where
  -- what a permitted step does
  follows : (x : Step) → refusal st x ≡ 0 → Protocol st x (done st x).answer (done st x).next
  follows (Read t i s) e = does st z h (Read t i s) e (λ e. differ (cc))
  follows (Submit t) e = does st z h (Submit t) e (λ e. differ (cc))
  follows (Deliver s) e = does st z h (Deliver s) e (λ e. differ (cc))
  follows (Carry t from to) e = does st z h (Carry t from to) e (λ e. differ (cc))
  follows (Close t s) e = does st z h (Close t s) e (λ e. differ (cc))
  follows Settle e = unfold done in settles st z h

-- demand 2
pub demand2 : (st : State) → Arrays st → Demand2 st
demand2 st z = record {
  unusable = unusable st;
  taken = λ h x p.
      let e = (permitted st h x).1 p in
      subst (λ (r : Stepped). Protocol st x r.answer r.next) (sym (accepted st h x e)) (follows st z h x e);
  refused = λ h x d. refused st h x (λ e. d ((permitted st h x).0 e));
}
