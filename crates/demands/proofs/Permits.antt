-- A step is accepted exactly if the protocol permits it.
-- Assumes nothing.
use Prim.Native.Nat.{ℕ, ◌≤◌, ◌<◌}
use mathlib.Core.Path.{◌≡◌, refl, subst}
use mathlib.Core.Bool.{Bool, true, false, ◌&&◌, ◌||◌, not, cond}
use mathlib.Core.Logic.Iff
use mathlib.Core.Logic.{◌⊎◌, inl, inr, ◌↔◌}
use native.Mathlib.Omega.{arith}
use lib.Dec.{eqb, ltb, leb}
use borrow.Author.Tests.{eqb-false, ne_eqb, ltb-false, leb-false, lt-leb, not-false}
use Rattle.parts.specs.Cells.{nobody}
use Rattle.bounded.proofs.Truth.{or-false, passed}
use Rattle.tables.specs.Lists.{read_count}
use Rattle.tables.specs.Sites.{site_count}
use Rattle.tables.specs.declared.Tables.{Tables}
use Rattle.steps.specs.declared.Step.{Step}
use Rattle.steps.specs.declared.Step.TheVariants.{Read, Submit, Deliver, Carry, Close, Settle}
use Rattle.refusals.specs.Refusals.{carry_refusal_in, close_refusal_in, deliver_refusal_in, read_refusal_in, submit_refusal_in, verdict_refusal_in, vote_refusal_in, refusal_in}
use Rattle.machine.specs.Parts.{place_of, recorded_of, closed_at, cast_by}
use Rattle.machine.specs.Rules.{at_head, next_at, verdict, room_at}
use Rattle.machine.specs.Usable.{usable}
use Rattle.machine.specs.Refusals.{read_refusal, submit_refusal, deliver_refusal, vote_refusal, carry_refusal, verdict_refusal, close_refusal, refusal}
use Rattle.machine.specs.declared.State.{State}
use Rattle.machine.proofs.Laws.{usable_has}
use Rattle.demands.specs.Protocol.{Local, HasVote, MayCommit, Aborts, Permits}
use Rattle.demands.proofs.Says.{Says, fails, all_says}
use Rattle.demands.proofs.Notions.{concerns_says, local_says, head_says, blocked_says, next_says, holds_says, commits_says, aborts_says, verdict_some, room_says}

-- ---- a refusal's tests

-- a test that refuses with n does not, nor do those after it
unless : (n : ℕ) → 0 < n → {b : Bool} {k : ℕ} {P Q : Type 0} → (b ≡ false) ↔ P → (k ≡ 0) ↔ Q → (cond b n k ≡ 0) ↔ (P × Q)
unless n l {b} {k} p q = (λ h. let (x, y) = passed n l b k h in (p.0 x, q.0 y), λ h. rw (p.1 h.0) (q.1 h.1))

-- the last test
last : (n : ℕ) → 0 < n → {b : Bool} {P : Type 0} → (b ≡ false) ↔ P → (cond b n 0 ≡ 0) ↔ P
last n l {b} p = (λ h. p.0 (passed n l b 0 h).0, λ x. rw (p.1 x))

-- neither of two tests passes
neither : {a b : Bool} {P Q : Type 0} → (a ≡ false) ↔ P → (b ≡ false) ↔ Q → ((a || b) ≡ false) ↔ (P × Q)
neither {a} {b} p q = (λ h. let (x, y) = or-false a b h in (p.0 x, q.0 y), λ h. rw (p.1 h.0) (q.1 h.1))

-- the test for the lack of P
lacking : {b : Bool} {P : Type 0} → Says b P → (not b ≡ false) ↔ P
lacking {b} p = (λ h. p.0 (not-false b h), λ x. rw (p.1 x))

-- no such transaction, site or read
among : (a n : ℕ) → (leb n a ≡ false) ↔ (a < n)
among a n = (leb-false n a, lt-leb n a)

-- 0, or not
is_zero : (n : ℕ) → (ltb 0 n ≡ false) ↔ (n ≡ 0)
is_zero n = (λ h. omega (arith, ltb-false 0 n h), λ e. rw e)

is_some : (n : ℕ) → (eqb n 0 ≡ false) ↔ (0 < n)
is_some n = (λ h. let d = eqb-false n 0 h in omega arith, λ l. ne_eqb n 0 (λ e. omega arith))

module _ (st : State) where
  abbrev T : Tables
  T = st.tables

  -- ---- step by step

  read_permits : (t i s : ℕ) → (read_refusal st t i s ≡ 0) ↔ Permits st (Read t i s)
  unfolding read_refusal_in
  read_permits t i s = Iff.trans
      (unless 20 (omega arith) (among t T.txns)
      (unless 22 (omega arith) (among i (read_count T t))
      (unless 21 (omega arith) (among s (site_count T))
      (unless 23 (omega arith) (lacking Iff.rfl)
      (last 24 (omega arith) {b = recorded_of st t i} Iff.rfl)))))
      (λ x. (x.0, x.1.0, x.1.1.0, x.1.1.1.0, x.1.1.1.1), λ x. (x.0, (x.1, (x.2, (x.3, x.4)))))

  submit_permits : (t : ℕ) → (submit_refusal st t ≡ 0) ↔ Permits st (Submit t)
  unfolding submit_refusal_in
  submit_permits t = Iff.trans
      (unless 20 (omega arith) (among t T.txns)
      (unless 24 (omega arith) (is_zero (place_of st t))
      (last 25 (omega arith) (lacking (all_says (read_count T t) (recorded_of st t) (λ i l. Iff.rfl))))))
      (λ x. (x.0, x.1.0, x.1.1), λ x. (x.0, (x.1, x.2)))

  pub deliver_permits : T.txns ≤ 128 → (s : ℕ) → (deliver_refusal st s ≡ 0) ↔ Permits st (Deliver s)
  unfolding deliver_refusal_in
  deliver_permits b s = Iff.trans
      (unless 21 (omega arith) (among s (site_count T))
      (unless 26 (omega arith) (eqb-false (next_at st s) nobody, ne_eqb (next_at st s) nobody)
      (last 27 (omega arith) (fails (blocked_says st s (next_at st s)))))) (
        λ x. (x.0, (next_at st s, ((next_says st b s (next_at st s)).0 (refl, x.1.0), λ u q c. x.1.1 (u, q, c)))),
        λ x. let (e, d) = (next_says st b s x.1.0).1 x.1.1.0 in (x.0, (rw e d, rw e (λ y. x.1.1.1 y.0 y.1 y.2))),
      )

  vote_permits : (t from to : ℕ) → (vote_refusal st t from to ≡ 0) ↔ ((Local T t → ⊥) × (from ≡ to → ⊥) × (0 < cast_by st t from) × (HasVote st to t from → ⊥))
  unfolding vote_refusal_in
  vote_permits t from to = Iff.trans
      (unless 28 (omega arith) (neither (fails (local_says T t)) (neither (eqb-false from to, ne_eqb from to) (is_some (cast_by st t from))))
      (last 24 (omega arith) (fails (holds_says st to t from))))
      (λ x. (x.0.0, x.0.1.0, x.0.1.1, x.1), λ x. ((x.0, (x.1, x.2)), x.3))

  pub carry_permits : (t from to : ℕ) → (carry_refusal st t from to ≡ 0) ↔ Permits st (Carry t from to)
  unfolding carry_refusal_in
  carry_permits t from to = Iff.trans
      (unless 20 (omega arith) (among t T.txns)
      (unless 21 (omega arith) (neither (among from (site_count T)) (among to (site_count T)))
      (unless 23 (omega arith) (lacking (concerns_says T t to)) (vote_permits t from to)))) (
        λ x. let v = x.1.1.1 in (x.0, x.1.0.0, x.1.0.1, x.1.1.0, v.0, v.1, v.2, v.3),
        λ x. (x.0, ((x.1, x.2), (x.3, (x.4, x.5, x.6, x.7)))),
      )

  verdict_permits : (t s : ℕ) → (verdict_refusal st t s ≡ 0) ↔ (MayCommit st s t ⊎ Aborts st s t)
  unfolding verdict_refusal_in
  verdict_permits t s = (λ h. to (verdict_some st s t) h, from)
    where
      open_verdict : ℕ → Bool → Bool → ℕ
      open_verdict v head room = cond (eqb v 0) 30 (cond (eqb v 1 && not head) 31 (cond (eqb v 1 && not room) 32 0))

      commit : (head room : Bool) → open_verdict 1 head room ≡ 0 → (head ≡ true) × (room ≡ true)
      commit true true h = (refl, refl)
      commit true false h = absurd (omega arith)
      commit false room h = absurd (omega arith)

      to : (verdict st t s ≡ 0) ⊎ ((verdict st t s ≡ 1) ⊎ (verdict st t s ≡ 2)) → open_verdict (verdict st t s) (at_head st t s) (room_at st t s) ≡ 0 → MayCommit st s t ⊎ Aborts st s t
      to (inl e) h = absurd (let z : ◌≡◌ {A = ℕ} 30 0 = rw e at h in omega arith)
      to (inr (inl e)) h =
          let (a, b) = commit (at_head st t s) (room_at st t s) (subst (λ v. open_verdict v (at_head st t s) (room_at st t s) ≡ 0) e h) in
          inl ((commits_says st s t).0 e, (head_says st s t).0 a, (room_says st s t).0 b)
      to (inr (inr e)) h = inr ((aborts_says st s t).0 e)

      from : MayCommit st s t ⊎ Aborts st s t → open_verdict (verdict st t s) (at_head st t s) (room_at st t s) ≡ 0
      from (inl x) = rw ((commits_says st s t).1 x.0, (head_says st s t).1 x.1, (room_says st s t).1 x.2)
      from (inr x) = rw ((aborts_says st s t).1 x)

  pub close_permits : (t s : ℕ) → (close_refusal st t s ≡ 0) ↔ Permits st (Close t s)
  unfolding close_refusal_in
  close_permits t s = Iff.trans
      (unless 20 (omega arith) (among t T.txns)
      (unless 21 (omega arith) (among s (site_count T))
      (unless 23 (omega arith) (lacking (concerns_says T t s))
      (unless 24 (omega arith) (is_zero (closed_at st t s))
      (unless 29 (omega arith) (lacking Iff.rfl) (verdict_permits t s)))))) (
        λ x. (x.1.0, x.1.1.0, (x.0, x.1.1.1.1.0, x.1.1.1.0), x.1.1.1.1.1),
        λ x. let (a, d, c) = x.2 in (a, (x.0, (x.1, (c, (d, x.3))))),
      )

-- a step is accepted exactly if the protocol permits it
pub permitted : (st : State) → usable st ≡ true → (x : Step) → (refusal st x ≡ 0) ↔ Permits st x
unfolding refusal_in
permitted st h (Read t i s) = read_permits st t i s
permitted st h (Submit t) = submit_permits st t
permitted st h (Deliver s) = deliver_permits st (usable_has st h).txns s
permitted st h (Carry t from to) = carry_permits st t from to
permitted st h (Close t s) = close_permits st t s
permitted st h Settle = (λ e. tt, λ x. refl)
