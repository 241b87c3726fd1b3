-- An accepted step does what the protocol says: its answer, and the next state part by part.
-- Assumes nothing.
use Prim.Native.Nat.{ℕ, zero, suc, ◌+◌, ◌*◌, ◌<◌}
use mathlib.Core.Path.{◌≡◌, refl, sym, ap, subst, ◌∙◌}
use mathlib.Core.Bool.{Bool, true, false, cond}
use mathlib.Core.Logic.{◌⊎◌, inl, inr}
use mathlib.Core.List.{List}
use native.Mathlib.Omega.{arith}
use native.Mathlib.Numerals.{add-one}
use native.Mathlib.Nat.{add-zero}
use lib.Dec.{eqb, ltb}
use lib.ListN.{length, set, length-set}
use lib.Seq.{get_or-set_same, get_or-set_other}
use borrow.Author.Tests.{eqb-true, eqb-false, ltb-true, ltb-false}
use Rattle.std.specs.Prelude.{Ok}
use Rattle.queues.specs.Queue.{submitted_in}
use Rattle.bounded.specs.Bounded.{sum_below}
use Rattle.bounded.proofs.Truth.{bool}
use Rattle.keys.specs.Keys.{member, adding}
use Rattle.keys.proofs.Laws.{adding_same, adding_other}
use Rattle.tables.specs.Lists.{read_key, write_count, write_key, write_value, write_row}
use Rattle.tables.specs.Sites.{holds}
use Rattle.tables.specs.declared.Tables.{Tables}
use Rattle.steps.specs.Kinds.{version, place}
use Rattle.steps.specs.declared.Version.{Version}
use Rattle.steps.specs.declared.Step.{Step}
use Rattle.steps.specs.declared.Step.TheVariants.{Read, Submit, Deliver, Carry, Close, Settle}
use Rattle.steps.specs.declared.Answer.TheVariants as answer
use Rattle.machine.specs.Parts.{place_of, version_at, value_at, carried_to, with_closed}
use Rattle.machine.specs.Rules.{next_at, vote_of, verdict, submitted}
use Rattle.machine.specs.Usable.{usable}
use Rattle.machine.specs.Refusals.{refusal}
use Rattle.machine.specs.Effects.{read_done, submit_done, deliver_done, carry_done, committed, close_done}
use Rattle.machine.specs.Steps.{done}
use Rattle.machine.specs.declared.State.{State}
use Rattle.search.specs.Search as todo
use Rattle.machine.proofs.Laws.{Usable, usable_has, row_apart}
use Rattle.demands.specs.Protocol.{Holds, Writes, Only, MayDeliver, MayCommit, Aborts, Permits, Stores, DoesRead, Submitted, none, placed, other, DoesSubmit, DoesDeliver, DoesCarry, DoesClose, Does}
use Rattle.demands.proofs.Cells as Cells
use Rattle.demands.proofs.Sized.{Arrays, after_tables}
use Rattle.effects.proofs.Stores.{stored_other, stored_length, stored_at}
use Rattle.demands.proofs.Notions.{next_says, votes_is, commits_says, aborts_says}
use Rattle.demands.proofs.Permits.{permitted}

-- SETTLE is no other step
pub differ : {A : Type 0} → ◌≡◌ {A = ℕ} 0 1 → A
differ e = absurd (omega arith)

only_set : {A : Type 0} (d : A) (l : List A) (i : ℕ) (x : A) → i < length l → Only d l (set l i x) i x
only_set d l i x h = record { there = get_or-set_same l i x d h; others = λ j n. get_or-set_other l i j x d n; long = length-set l i x }

-- how many were submitted
counts : (st : State) (n : ℕ) → Submitted st n (submitted_in st.parts.places n)
unfolding submitted_in sum_below
counts st zero = none
counts st (suc n) = by (ltb 0 (place_of st n)) refl (counts st n)
  where
    by : (b : Bool) → ltb 0 (place_of st n) ≡ b → Submitted st n (submitted_in st.parts.places n) → Submitted st (suc n) (submitted_in st.parts.places n + cond b 1 0)
    by true e r = rw add-one (placed r (ltb-true 0 (place_of st n) e))
    by false e r = rw add-zero (other r (omega (arith, ltb-false 0 (place_of st n) e)))

module _ (st : State) (z : Arrays st) (u : Usable st) where
  abbrev T : Tables
  T = st.tables

  does_read : (t i s : ℕ) → Permits st (Read t i s) → DoesRead st t i s (read_done st t i s).answer (read_done st t i s).next
  unfolding read_done
  does_read t i s p =
      let b : t * 8 + i < 1024 = omega (arith, p.0, p.1, u.txns, (u.reads t p.0).few) in
      record {
        answered = refl;
        recorded = only_set false st.parts.recorded (t * 8 + i) true (omega (arith, z.recorded));
        readversions = only_set (version 0) st.parts.readversions (t * 8 + i) (version (version_at st s (read_key T t i))) (omega (arith, z.readversions));
        readvalues = only_set 0 st.parts.readvalues (t * 8 + i) (value_at st s (read_key T t i)) (omega (arith, z.readvalues));
        stores = record { versions = refl; values = refl };
        queues = record { places = refl; delivered = refl; closed = refl };
        votes = record { cast = refl; carried = refl };
      }

  does_submit : (t : ℕ) → Permits st (Submit t) → DoesSubmit st t (submit_done st t).answer (submit_done st t).next
  unfolding submit_done
  does_submit t p = record {
    count = submitted st;
    counted = counts st T.txns;
    answered = rw add-one;
    places = subst (λ n. Only (place 0) st.parts.places (set st.parts.places t (place n)) t (place (suc (submitted st)))) (sym (add-one (submitted st)))
        (only_set (place 0) st.parts.places t (place (suc (submitted st))) (omega (arith, z.places, u.txns, p.0)));
    delivered = refl;
    closed = refl;
    stores = record { versions = refl; values = refl };
    reads = record { recorded = refl; readversions = refl; readvalues = refl };
    votes = record { cast = refl; carried = refl };
  }

  does_deliver : (s : ℕ) → Permits st (Deliver s) → DoesDeliver st s (deliver_done st s).answer (deliver_done st s).next
  unfolding deliver_done
  does_deliver s p =
      let t = next_at st s in
      let may : MayDeliver st s t = subst (λ t. MayDeliver st s t) (sym ((next_says st u.txns s p.1.0).1 p.1.1.0).0) p.1.1 in
      let b : t * 16 + s < 2048 = omega (arith, may.0.0.0, p.0, u.txns, u.sites) in
      record {
        txn = t;
        vote = vote_of st t s;
        may = may;
        votes = votes_is st s t;
        answered = refl;
        delivered = only_set false st.parts.delivered (t * 16 + s) true (omega (arith, z.delivered));
        cast = only_set 0 st.parts.cast (t * 16 + s) (vote_of st t s) (omega (arith, z.cast));
        places = refl;
        closed = refl;
        carried = refl;
        stores = record { versions = refl; values = refl };
        reads = record { recorded = refl; readversions = refl; readvalues = refl };
      }

  does_carry : (t from to : ℕ) → Permits st (Carry t from to) → DoesCarry st t from to (carry_done st t from to).answer (carry_done st t from to).next
  unfolding carry_done
  does_carry t from to p =
      let m = carried_to st t to in
      let lacks : member m from ≡ false = elim (bool (member m from)) [ inl e ↦ absurd (p.7 (inr (p.5, e))) | inr e ↦ e ] in
      record {
        answered = refl;
        held = adding m from;
        carried = only_set 0 st.parts.carried (t * 16 + to) (adding m from) (omega (arith, z.carried, p.0, p.2, u.txns, u.sites));
        given = adding_same m from lacks;
        others = λ f d. adding_other m from f d lacks;
        cast = refl;
        stores = record { versions = refl; values = refl };
        reads = record { recorded = refl; readversions = refl; readvalues = refl };
        queues = record { places = refl; delivered = refl; closed = refl };
      }

  -- each written key that s holds has one version more and its new value, and no other cell has changed
  stores_do : (t s c : ℕ) → t < T.txns → s < 16 → Stores st (with_closed (committed st t s) t s c) s t
  unfolding committed
  stores_do t s c txn near = record {
    raised = λ i l h.
        let once : (j : ℕ) → j < n → write_key T t i ≡ write_key T t j → i ≡ j = λ j m q. row_apart (write_row T t) n i j (u.writes t txn).once l m q in
        let b : s * 64 + write_key T t i < 1024 = omega (arith, (u.writes t txn).low i l, u.keys) in (
          ap (λ (v : Version). v.0) (stored_at T t s (version 0) (λ i v. version (v.0 + 1)) st.parts.versions n i l once h (omega (arith, z.versions))) ∙ add-one (version_at st s (write_key T t i)),
          stored_at T t s 0 (λ i x. write_value T t i) st.parts.values n i l once h (omega (arith, z.values)),
        );
    others = λ r k b d. let away = outside r k b d in (
      ap (λ (v : Version). v.0) (stored_other T t s (version 0) (λ i v. version (v.0 + 1)) st.parts.versions n (r * 64 + k) away),
      stored_other T t s 0 (λ i x. write_value T t i) st.parts.values n (r * 64 + k) away,
    );
    long = (stored_length T t s (version 0) (λ i v. version (v.0 + 1)) st.parts.versions n, stored_length T t s 0 (λ i x. write_value T t i) st.parts.values n);
  }
    where
      n : ℕ
      n = write_count T t

      outside : (r k : ℕ) → k < 64 → ((r ≡ s) × Writes T t k × Holds T s k → ⊥) → (i : ℕ) → i < n → holds T s (write_key T t i) ≡ true → r * 64 + k ≡ s * 64 + write_key T t i → ⊥
      outside r k b d i l h e =
          let (p, q) = Cells.apart 64 r k s (write_key T t i) b (omega (arith, (u.writes t txn).low i l, u.keys)) e in
          d (p, (i, l, sym q), subst (λ k. holds T s k ≡ true) (sym q) h)

  does_close : (t s : ℕ) → Permits st (Close t s) → DoesClose st t s (close_done st t s).answer (close_done st t s).next
  unfolding close_done
  does_close t s p = by (eqb v 1) refl p.3
    where
      v : ℕ
      v = verdict st t s

      b : t * 16 + s < length st.parts.closed
      b = omega (arith, z.closed, p.0, p.2.0, u.txns, u.sites)

      by : (c : Bool) → eqb v 1 ≡ c → MayCommit st s t ⊎ Aborts st s t → DoesClose st t s (Ok (answer.Closed v)) (with_closed (cond c (committed st t s) st) t s v)
      by true e m = unfold committed in record {
        verdict = v;
        answered = refl;
        does = elim m [
          | inl x ↦ inl (eqb-true v 1 e, x, stores_do t s v p.2.0 (omega (arith, u.sites, p.0)))
          | inr x ↦ absurd (omega (arith, eqb-true v 1 e, (aborts_says st s t).1 x))
        ];
        closed = only_set 0 st.parts.closed (t * 16 + s) v b;
        places = refl;
        delivered = refl;
        reads = record { recorded = refl; readversions = refl; readvalues = refl };
        votes = record { cast = refl; carried = refl };
      }
      by false e m = record {
        verdict = v;
        answered = refl;
        does = elim m [
          | inl x ↦ absurd (eqb-false v 1 e ((commits_says st s t).1 x.0))
          | inr x ↦ inr ((aborts_says st s t).1 x, x, record { versions = refl; values = refl })
        ];
        closed = only_set 0 st.parts.closed (t * 16 + s) v b;
        places = refl;
        delivered = refl;
        reads = record { recorded = refl; readversions = refl; readvalues = refl };
        votes = record { cast = refl; carried = refl };
      }

-- an accepted step does what the protocol says
pub does : (st : State) → Arrays st → usable st ≡ true → (x : Step) → refusal st x ≡ 0 → (x ≡ Settle → ⊥) → Does st x (done st x).answer (done st x).next
does st z h x e d = by x ((permitted st h x).0 e) d
  where
    u : Usable st
    u = usable_has st h

    by : (x : Step) → Permits st x → (x ≡ Settle → ⊥) → Does st x (done st x).answer (done st x).next
    by (Read t i s) p d = unfold done in (unfold read_done in refl, does_read st z u t i s p)
    by (Submit t) p d = unfold done in (unfold submit_done in refl, does_submit st z u t p)
    by (Deliver s) p d = unfold done in (after_tables st (todo.Deliver s), does_deliver st z u s p)
    by (Carry t from to) p d = unfold done in (after_tables st (todo.Carry t from to), does_carry st z u t from to p)
    by (Close t s) p d = unfold done in (after_tables st (todo.Close t s), does_close st z u t s p)
    by Settle p d = absurd (d refl)
