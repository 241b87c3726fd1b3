-- Votes are carried on global transactions only, to another site that is concerned: every reached state has no other.
-- Assumes nothing.
use Prim.Native.Nat.{ℕ, ◌+◌, ◌*◌, ◌<◌}
use mathlib.Core.Path.{◌≡◌, refl, sym, subst, ◌∙◌}
use mathlib.Core.Bool.{Bool, true, false, cond}
use mathlib.Core.Logic.{◌⊎◌, inl, inr}
use native.Mathlib.Omega.{arith}
use lib.Dec.{eqb}
use lib.ListN.{set}
use Rattle.bounded.proofs.Truth.{clash, same}
use Rattle.keys.specs.Keys.{member, adding}
use Rattle.keys.proofs.Laws.{high, adding_other}
use Rattle.tables.specs.Concern.{concerns, local}
use Rattle.tables.specs.declared.Tables.{Tables}
use Rattle.machine.specs.Parts.{carried_to, with_closed}
use Rattle.machine.specs.Rules.{verdict}
use Rattle.machine.specs.Effects.{read_done, submit_done, deliver_done, carry_done, committed, close_done}
use Rattle.machine.specs.Settle.{after}
use Rattle.machine.specs.Fresh.{start_of}
use Rattle.machine.specs.declared.State.{State}
use Rattle.search.specs.Search.{Todo}
use Rattle.search.specs.Search.{Close, Deliver, Carry, Nothing}
use Rattle.machine.proofs.Settle.{Accepted}
use Rattle.onecopy.proofs.Base.{at2, look2}
use Rattle.demands.proofs.Tables.{Taken}
use Rattle.demands.proofs.Cells.{cell, cell_in, cell_put, cell_same}
use Rattle.demands.proofs.Sized.{Arrays}
use Rattle.refusals.proofs.Passed.{Carries, carry_has}
use Rattle.demands.proofs.Carry.{near}

-- the vote of f on t was carried to a
abbrev pub carried : State → ℕ → ℕ → ℕ → Bool
carried st t f a = member (cell 16 0 st.parts.carried t a) f

pub record Handed (T : Tables) (st : State) : Type 0 where
  pub concerned : (t f a : ℕ) → carried st t f a ≡ true → concerns T t a ≡ true
  pub global : (t f a : ℕ) → carried st t f a ≡ true → local T t ≡ false
  pub differ : (t f a : ℕ) → carried st t f a ≡ true → f ≡ a → ⊥

-- a state in which nothing more was carried
same_handed : (T : Tables) (st next : State) → next.parts.carried ≡ st.parts.carried → Handed T st → Handed T next
same_handed T st next e h = record {
  concerned = λ t f a c. h.concerned t f a (rw e at c);
  global = λ t f a c. h.global t f a (rw e at c);
  differ = λ t f a c. h.differ t f a (rw e at c);
}

pub read_handed : (T : Tables) (st : State) (t i s : ℕ) → Handed T st → Handed T (read_done st t i s).next
unfolding read_done
read_handed T st t i s h = record { concerned = h.concerned; global = h.global; differ = h.differ }

pub submit_handed : (T : Tables) (st : State) (t : ℕ) → Handed T st → Handed T (submit_done st t).next
unfolding submit_done
submit_handed T st t h = record { concerned = h.concerned; global = h.global; differ = h.differ }

pub fresh_handed : (T : Tables) → Handed T (start_of T)
fresh_handed T = record { concerned = λ t f a c. clash c (none t f a); global = λ t f a c. clash c (none t f a); differ = λ t f a c. clash c (none t f a) }
  where
    none : (t f a : ℕ) → carried (start_of T) t f a ≡ false
    none t f a = unfold start_of in rw (cell_same {A = ℕ} 16 2048 0 t a) (high 0 0 f (omega arith) (omega arith))

pub after_handed : (st : State) (x : Todo) → Arrays st → Taken st.tables → Accepted st x → Handed st.tables st → Handed st.tables (after st x)
unfolding deliver_done carry_done close_done
after_handed st (Close t s) z g q h = same_handed st.tables st (close_done st t s).next (by (eqb (verdict st t s) 1)) h
  where
    by : (b : Bool) → (with_closed (cond b (committed st t s) st) t s (verdict st t s)).parts.carried ≡ st.parts.carried
    by true = unfold committed in refl
    by false = refl
after_handed st (Deliver s) z g q h = record { concerned = h.concerned; global = h.global; differ = h.differ }
after_handed st Nothing z g q h = h
after_handed st (Carry t from to) z g q h = record {
  concerned = λ b f a c. elim (new b f a c) [ inl e ↦ rw (e.0, e.2) k.concerned | inr e ↦ h.concerned b f a e ];
  global = λ b f a c. elim (new b f a c) [ inl e ↦ rw e.0 k.global | inr e ↦ h.global b f a e ];
  differ = λ b f a c. elim (new b f a c) [ inl e ↦ λ d. k.differ (sym e.1 ∙ d ∙ e.2) | inr e ↦ h.differ b f a e ];
}
  where
    k : Carries st.tables st.parts.cast st.parts.carried t from to
    k = carry_has st.tables st.parts.cast st.parts.carried t from to q

    m : ℕ
    m = adding (carried_to st t to) from

    -- what was carried before, or this one
    new : (b f a : ℕ) → carried (after st (Carry t from to)) b f a ≡ true → ((b ≡ t) × (f ≡ from) × (a ≡ to)) ⊎ (carried st b f a ≡ true)
    new b f a c = elim (look2 (λ a b. cell 16 0 st.parts.carried b a) to t m a b) [
      | inl e ↦ elim (same f from) [
        | inl d ↦ inl (e.1, d, e.0)
        | inr d ↦ inr (rw (e.0, e.1, cell_in 16 0 st.parts.carried t to there) (sym (adding_other (carried_to st t to) from f d k.lacks) ∙ subst (λ x. member x f ≡ true) (put a b ∙ e.2) c))
      ]
      | inr e ↦ inr (subst (λ x. member x f ≡ true) (put a b ∙ e.1) c)
    ]
      where
        there : to < 16
        there = near st g z t from to k

        put : (a b : ℕ) → cell 16 0 (set st.parts.carried (t * 16 + to) m) b a ≡ at2 (λ a b. cell 16 0 st.parts.carried b a) to t m a b
        put a b = cell_put 16 0 st.parts.carried t to m there (omega (arith, z.carried, g.txns, k.txn, there)) a b
