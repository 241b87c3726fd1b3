-- SETTLE takes the first permitted step, again and again until none is.
-- Assumes nothing.
use Prim.Native.Nat.{ℕ, zero, suc, ◌+◌, ◌<◌}
use mathlib.Core.Path.{◌≡◌, refl, ap, subst, ◌∙◌}
use mathlib.Core.Bool.{Bool, true, false, cond}
use mathlib.Core.Logic.Iff
use mathlib.Core.Logic.{◌⊎◌, inl, inr}
use native.Mathlib.Omega.{arith}
use native.Mathlib.Numerals.{sub-one}
use lib.Dec.{eqb, ltb}
use borrow.Author.Tests.{ltb-true}
use Rattle.std.specs.Prelude.{Ok}
use Rattle.parts.specs.Cells.{place_in, nobody}
use Rattle.tables.specs.Sites.{site_count}
use Rattle.steps.specs.declared.Step.{Step}
use Rattle.steps.specs.declared.Step.TheVariants as step
use Rattle.steps.specs.declared.Answer.TheVariants as answer
use Rattle.search.specs.Search.{closes_first_in, first_carried_in, first_closing_in, first_delivering_in, first_from_in, first_to_in, todo_in}
use Rattle.search.specs.Search.{nowhere}
use Rattle.machine.specs.Usable.{usable}
use Rattle.refusals.specs.Refusals.{refusal_in}
use Rattle.machine.specs.Refusals.{close_refusal, deliver_refusal, carry_refusal}
use Rattle.machine.specs.Settle.{closes_first, first_closing, first_delivering, first_to, first_from, first_carried, todo, after, most, settle_for, settle_done}
use Rattle.machine.specs.Steps.{done}
use Rattle.machine.specs.declared.State.{State}
use Rattle.machine.specs.declared.Stepped.{Stepped}
use Rattle.search.specs.Search.{Todo}
use Rattle.search.specs.Search.{Close, Deliver, Carry, Nothing}
use Rattle.machine.proofs.Laws.{Usable, usable_has}
use Rattle.machine.proofs.Settle.{Accepted, todo_accepted, after_usable, settle_stops, settle_goes, settle_ends}
use Rattle.machine.proofs.Ends.{Finished, settle_finishes}
use Rattle.demands.specs.Protocol.{Permits, NoClose, NoDeliver, NoCarry, First, Does, Settling, over, go}
use Rattle.demands.specs.Protocol as Protocol
use Rattle.demands.proofs.Says.{Says, eq_says, fails, Foremost, finds, found_says}
use Rattle.demands.proofs.Permits.{close_permits, deliver_permits, carry_permits}
use Rattle.demands.proofs.Sized.{Arrays, after_arrays}
use Rattle.demands.proofs.Settle.{Some, is_nothing}
use Rattle.demands.proofs.Does.{differ, does}

-- ---- the first permitted

-- what a search has found is below what it answers where there is none
hit : (n d : ℕ) → ltb n d ≡ true → n ≡ d → ⊥
hit n d e q = omega (arith, ltb-true n d e)

-- the step that is to do
abbrev step_for : Todo → Step
step_for (Close t s) = step.Close t s
step_for (Deliver s) = step.Deliver s
step_for (Carry t from to) = step.Carry t from to
step_for Nothing = step.Settle

abbrev Foretold : State → Todo → Type 0
Foretold st (Close t s) = First st (step.Close t s)
Foretold st (Deliver s) = First st (step.Deliver s)
Foretold st (Carry t from to) = First st (step.Carry t from to)
Foretold st Nothing = NoClose st × NoDeliver st × NoCarry st

module _ (st : State) (u : Usable st) where
  abbrev n : ℕ
  n = site_count st.tables

  abbrev m : ℕ
  m = st.tables.txns

  -- a CLOSE at s, and somewhere
  close_says : (s t : ℕ) → Says (eqb (close_refusal st t s) 0) (Permits st (step.Close t s))
  close_says s t = Iff.trans (eq_says (close_refusal st t s) 0) (close_permits st t s)

  abbrev ClosesAt : ℕ → Type 0
  ClosesAt s = (t : ℕ) × (t < m) × Permits st (step.Close t s)

  closes_says : (s : ℕ) → Says (ltb (closes_first st s) nobody) (ClosesAt s)
  unfolding closes_first_in
  closes_says s = found_says m (place_in st.parts.places) (λ t. eqb (close_refusal st t s) 0) nobody (λ t l. close_says s t) u.txns

  closing_says : Says (ltb (first_closing st) nowhere) ((s : ℕ) × (s < n) × ClosesAt s)
  unfolding first_closing_in
  closing_says = found_says n (λ i. 0) (λ s. ltb (closes_first st s) nobody) nowhere (λ s l. closes_says s) u.sites

  first_close : ltb (first_closing st) nowhere ≡ true → First st (step.Close (closes_first st (first_closing st)) (first_closing st))
  first_close e =
      let f = site in
      let g = txn (first_closing st) ((closes_says (first_closing st)).1 f.has) in
      Protocol.close (closes_first st (first_closing st)) (first_closing st) g.has
      (λ u r l p. f.none r p.0 (u, p.2.0, p) (inr (refl, l)))
      (λ u b p. g.none u p.2.0 p b)
    where
      site : Foremost n (λ i. 0) ClosesAt (first_closing st)
      site = unfold first_closing_in in finds n (λ i. 0) (λ s. ltb (closes_first st s) nobody) nowhere (λ s l. closes_says s) u.sites (hit (first_closing st) nowhere e)

      txn : (s : ℕ) → ltb (closes_first st s) nobody ≡ true → Foremost m (place_in st.parts.places) (λ t. Permits st (step.Close t s)) (closes_first st s)
      txn s e = unfold closes_first_in in finds m (place_in st.parts.places) (λ t. eqb (close_refusal st t s) 0) nobody (λ t l. close_says s t) u.txns (hit (closes_first st s) nobody e)

  no_close : ltb (first_closing st) nowhere ≡ false → NoClose st
  no_close e t s p = (fails closing_says).0 e (s, p.0, (t, p.2.0, p))

  -- a DELIVER
  deliver_says : (s : ℕ) → Says (eqb (deliver_refusal st s) 0) (Permits st (step.Deliver s))
  deliver_says s = Iff.trans (eq_says (deliver_refusal st s) 0) (deliver_permits st u.txns s)

  first_deliver : NoClose st → ltb (first_delivering st) nowhere ≡ true → First st (step.Deliver (first_delivering st))
  first_deliver c e = Protocol.deliver (first_delivering st) c site.has (λ r l p. site.none r p.0 p (inr (refl, l)))
    where
      site : Foremost n (λ i. 0) (λ s. Permits st (step.Deliver s)) (first_delivering st)
      site = unfold first_delivering_in in finds n (λ i. 0) (λ s. eqb (deliver_refusal st s) 0) nowhere (λ s l. deliver_says s) u.sites (hit (first_delivering st) nowhere e)

  no_deliver : ltb (first_delivering st) nowhere ≡ false → NoDeliver st
  unfolding first_delivering_in
  no_deliver e s p = (fails (found_says n (λ i. 0) (λ s. eqb (deliver_refusal st s) 0) nowhere (λ s l. deliver_says s) u.sites)).0 e (s, p.0, p)

  -- a CARRY of t's vote from a site, of t's votes, and of any
  carry_says : (t from to : ℕ) → Says (eqb (carry_refusal st t from to) 0) (Permits st (step.Carry t from to))
  carry_says t from to = Iff.trans (eq_says (carry_refusal st t from to) 0) (carry_permits st t from to)

  abbrev CarriesFrom : ℕ → ℕ → Type 0
  CarriesFrom t from = (to : ℕ) × (to < n) × Permits st (step.Carry t from to)

  abbrev Carries : ℕ → Type 0
  Carries t = (from : ℕ) × (from < n) × CarriesFrom t from

  from_says : (t from : ℕ) → Says (ltb (first_to st t from) nowhere) (CarriesFrom t from)
  unfolding first_to_in
  from_says t from = found_says n (λ i. 0) (λ to. eqb (carry_refusal st t from to) 0) nowhere (λ to l. carry_says t from to) u.sites

  carries_says : (t : ℕ) → Says (ltb (first_from st t) nowhere) (Carries t)
  unfolding first_from_in
  carries_says t = found_says n (λ i. 0) (λ from. ltb (first_to st t from) nowhere) nowhere (λ from l. from_says t from) u.sites

  first_carry : NoClose st → NoDeliver st → ltb (first_carried st) nobody ≡ true
      → First st (step.Carry (first_carried st) (first_from st (first_carried st)) (first_to st (first_carried st) (first_from st (first_carried st))))
  first_carry c d e =
      let t = first_carried st in
      let f = txn in
      let g = giver t ((carries_says t).1 f.has) in
      let h = taker t (first_from st t) ((from_says t (first_from st t)).1 g.has) in
      Protocol.carry t (first_from st t) (first_to st t (first_from st t)) c d h.has (λ v a r b p. elim b [
        | inl x ↦ f.none v p.0 (a, p.1, (r, p.2, p)) x
        | inr x ↦
            let q = subst (λ v. Permits st (step.Carry v a r)) x.0 p in
            elim x.1 [
              | inl l ↦ g.none a p.1 (r, p.2, q) (inr (refl, l))
              | inr l ↦ h.none r p.2 (subst (λ a. Permits st (step.Carry t a r)) l.0 q) (inr (refl, l.1))
            ]
      ])
    where
      txn : Foremost m (place_in st.parts.places) Carries (first_carried st)
      txn = unfold first_carried_in in finds m (place_in st.parts.places) (λ t. ltb (first_from st t) nowhere) nobody (λ t l. carries_says t) u.txns (hit (first_carried st) nobody e)

      giver : (t : ℕ) → ltb (first_from st t) nowhere ≡ true → Foremost n (λ i. 0) (CarriesFrom t) (first_from st t)
      giver t e = unfold first_from_in in finds n (λ i. 0) (λ from. ltb (first_to st t from) nowhere) nowhere (λ from l. from_says t from) u.sites (hit (first_from st t) nowhere e)

      taker : (t from : ℕ) → ltb (first_to st t from) nowhere ≡ true → Foremost n (λ i. 0) (λ to. Permits st (step.Carry t from to)) (first_to st t from)
      taker t from e = unfold first_to_in in finds n (λ i. 0) (λ to. eqb (carry_refusal st t from to) 0) nowhere (λ to l. carry_says t from to) u.sites (hit (first_to st t from) nowhere e)

  no_carry : ltb (first_carried st) nobody ≡ false → NoCarry st
  unfolding first_carried_in
  no_carry e t from to p = (fails (found_says m (place_in st.parts.places) (λ t. ltb (first_from st t) nowhere) nobody (λ t l. carries_says t) u.txns)).0 e
      (t, p.0, (from, p.1, (to, p.2, p)))

  -- what SETTLE does next is the first permitted; it stops where none is
  todo_first : Foretold st (todo st)
  unfolding todo_in
  todo_first = closing (ltb (first_closing st) nowhere) refl
    where
      carry : Todo
      carry = Carry (first_carried st) (first_from st (first_carried st)) (first_to st (first_carried st) (first_from st (first_carried st)))

      carrying : NoClose st → NoDeliver st → (b : Bool) → ltb (first_carried st) nobody ≡ b → Foretold st (cond b carry Nothing)
      carrying c d true e = first_carry c d e
      carrying c d false e = (c, d, no_carry e)

      delivering : NoClose st → (b : Bool) → ltb (first_delivering st) nowhere ≡ b → Foretold st (cond b (Deliver (first_delivering st)) (cond (ltb (first_carried st) nobody) carry Nothing))
      delivering c true e = first_deliver c e
      delivering c false e = carrying c (no_deliver e) (ltb (first_carried st) nobody) refl

      closing : (b : Bool) → ltb (first_closing st) nowhere ≡ b
          → Foretold st (cond b (Close (closes_first st (first_closing st)) (first_closing st)) (cond (ltb (first_delivering st) nowhere) (Deliver (first_delivering st)) (cond (ltb (first_carried st) nobody) carry Nothing)))
      closing true e = first_close e
      closing false e = delivering (no_close e) (ltb (first_delivering st) nowhere) refl

-- ---- again and again

takes : (st : State) (x : Todo) → Arrays st → usable st ≡ true → Accepted st x → Some x → Does st (step_for x) (done st (step_for x)).answer (after st x)
takes st (Close t s) z h a d = unfold done refusal_in in does st z h (step.Close t s) a (λ e. differ (cc))
takes st (Deliver s) z h a d = unfold done refusal_in in does st z h (step.Deliver s) a (λ e. differ (cc))
takes st (Carry t from to) z h a d = unfold done refusal_in in does st z h (step.Carry t from to) a (λ e. differ (cc))
takes st Nothing z h a d = absurd d

-- to do means that a step is first
foretold : (st : State) (x : Todo) → Foretold st x → Some x → First st (step_for x)
foretold st (Close t s) f d = f
foretold st (Deliver s) f d = f
foretold st (Carry t from to) f d = f
foretold st Nothing f d = absurd d

-- SETTLE, n steps having been taken
record Ran (st : State) (n : ℕ) (r : Stepped) : Type 0 where
  steps : ℕ
  answers : r.answer ≡ Ok (answer.Settled (n + steps))
  settles : Settling st steps r.next

ended : (st : State) → Usable st → Finished st → Settling st 0 st
ended st u f = over
    (λ t s p. f.closes t s ((close_permits st t s).1 p))
    (λ s p. f.delivers s ((deliver_permits st u.txns s).1 p))
    (λ t from to p. f.carries t from to ((carry_permits st t from to).1 p))

along : (f n : ℕ) (st : State) → Arrays st → usable st ≡ true → Finished (settle_for f n st).next → Ran st n (settle_for f n st)
along zero n st z h e =
    rw (settle_ends 0 n st refl) (record { steps = 0; answers = ap (λ c. Ok (answer.Settled c)) (omega arith); settles = ended st (usable_has st h) (rw (settle_ends 0 n st refl) at e) })
along (suc f) n st z h e = by (is_nothing (todo st)) (along f (n + 1) (after st (todo st)))
  where
    by : (todo st ≡ Nothing) ⊎ Some (todo st)
        → (Arrays (after st (todo st)) → usable (after st (todo st)) ≡ true → Finished (settle_for f (n + 1) (after st (todo st))).next → Ran (after st (todo st)) (n + 1) (settle_for f (n + 1) (after st (todo st))))
        → Ran st n (settle_for (suc f) n st)
    by (inl q) more =
        let i = settle_stops (suc f) n st (omega arith) q in
        rw i (record { steps = 0; answers = ap (λ c. Ok (answer.Settled c)) (omega arith); settles = ended st (usable_has st h) (rw i at e) })
    by (inr d) more =
        let i = rw sub-one at (settle_goes (suc f) n st (todo st) (omega arith) refl (λ q. subst Some q d)) in
        let r = more (after_arrays st (todo st) z) (after_usable st (todo st) h) (rw i at e) in
        rw i (record {
          steps = suc r.steps;
          answers = r.answers ∙ ap (λ c. Ok (answer.Settled c)) (omega arith);
          settles = go (done st (step_for (todo st))).answer (foretold st (todo st) (todo_first st (usable_has st h)) d) (takes st (todo st) z h (todo_accepted st h) d) r.settles;
        })

-- SETTLE answers how many steps it took, each the first permitted, until none was
pub settles : (st : State) → Arrays st → usable st ≡ true → (n : ℕ) × ((settle_done st).answer ≡ Ok (answer.Settled n)) × Settling st n (settle_done st).next
unfolding settle_done
settles st z h =
    let r = along most 0 st z h (settle_finishes st (record { delivered = z.delivered; closed = z.closed; carried = z.carried }) h) in
    (r.steps, r.answers ∙ ap (λ c. Ok (answer.Settled c)) (omega arith), r.settles)
