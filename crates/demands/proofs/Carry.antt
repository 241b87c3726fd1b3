-- CARRY: an accepted one is a step of the theory, and the theory's is accepted.
-- Assumes nothing.
use Prim.Native.Nat.{ℕ, ◌<◌}
use mathlib.Core.Path.{◌≡◌, refl, sym, subst, fun_ext}
use mathlib.Core.Bool.{true, false}
use mathlib.Core.Logic.{inl, inr}
use native.Mathlib.Omega.{arith}
use borrow.Author.Tests.{ne_eqb, lt-leb}
use Rattle.queues.specs.Queue.{submitted_in}
use Rattle.bounded.proofs.Truth.{same}
use Rattle.keys.specs.Keys.{member, adding}
use Rattle.keys.proofs.Laws.{adding_same, adding_other}
use Rattle.tables.specs.Sites.{site_count}
use Rattle.tables.specs.Concern.{concerns, local}
use Rattle.tables.specs.declared.Tables.{Tables}
use Rattle.refusals.specs.Refusals.{carry_refusal_in, vote_refusal_in}
use Rattle.machine.specs.Parts.{cast_by, carried_to, with_carried}
use Rattle.machine.specs.Refusals.{carry_refusal}
use Rattle.machine.specs.Effects.{carry_done}
use Rattle.machine.specs.declared.State.{State}
use Rattle.onecopy.specs.View.{View}
use Rattle.onecopy.proofs.Base.{at2, look2, at3, at3_same, at3_other}
use Rattle.refusals.proofs.Passed.{Carries, carry_has}
use Rattle.onecopy.proofs.Deliver.{carry_v}
use Rattle.onecopy.proofs.Rules as Rules
use Rattle.onecopy.proofs.Counter.{counter}
use Rattle.onecopy.proofs.World.{Ends, move}
use Rattle.demands.proofs.Tables.{Taken}
use Rattle.demands.proofs.Cells.{cell, cell_in, cell_put}
use Rattle.demands.proofs.View.{known, inv_of, placed_of, view_of, plan_of, world_of, Sound}
use Rattle.demands.proofs.Sized.{Arrays}

module _ (st : State) (g : Taken st.tables) (z : Arrays st) (t from to : ℕ) (h : Carries st.tables st.parts.cast st.parts.carried t from to) where
  abbrev T : Tables
  T = st.tables

  abbrev v : View
  v = view_of T st

  pub near : to < 16
  near = omega (arith, g.sites, h.taker)

  pub view_carry : view_of T (with_carried st t from to) ≡ carry_v v t from to
  unfolding carry_v
  view_carry = λ j. record {
    order = v.order;
    seen = v.seen;
    recorded = v.recorded;
    delivered = v.delivered;
    closed = v.closed;
    cast = v.cast;
    held = fun_ext (λ b. fun_ext (λ f. fun_ext (λ a. held b f a))) j;
    store = v.store;
  }
    where
      m : ℕ
      m = adding (carried_to st t to) from

      carried : (a b : ℕ) → cell 16 0 (with_carried st t from to).parts.carried b a ≡ at2 (λ a b. cell 16 0 st.parts.carried b a) to t m a b
      carried a b = cell_put 16 0 st.parts.carried t to m near (omega (arith, z.carried, g.txns, h.txn, near)) a b

      held : (b f a : ℕ) → (view_of T (with_carried st t from to)).held b f a ≡ at3 v.held t from to true b f a
      held b f a = elim (look2 (λ a b. cell 16 0 st.parts.carried b a) to t m a b) [
        | inl q ↦ rw (carried a b, q.2, q.0, q.1) (elim (same f from) [
          | inl e ↦ rw (e, at3_same v.held t from to true, ne_eqb from to h.differ) (adding_same (carried_to st t to) from h.lacks)
          | inr e ↦ rw (at3_other v.held t from to true t f to (λ x. e x.1), adding_other (carried_to st t to) from f e h.lacks, cell_in 16 0 st.parts.carried t to near)
        ])
        | inr q ↦ rw (at3_other v.held t from to true b f a (λ x. q.0 (x.2, x.0)), carried a b, q.1)
      ]

pub carry_step : (st : State) (t from to : ℕ) → Taken st.tables → Arrays st → carry_refusal st t from to ≡ 0
    → Ends (plan_of st.tables) (world_of st.tables st) (world_of st.tables (carry_done st t from to).next)
unfolding world_of carry_done counter
carry_step st t from to g z e =
    let T = st.tables in
    let v = view_of T st in
    let h = carry_has st.tables st.parts.cast st.parts.carried t from to e in
    subst (λ (x : View). Ends (plan_of T) (world_of T st) (record { view = x; ord = submitted_in st.parts.places T.txns })) (sym (view_carry st g z t from to h))
    (move (carry_v (view_of T st) t from to) (Rules.carry t from to refl h.global h.differ
    (rw (cell_in 16 0 st.parts.cast t from (omega (arith, g.sites, h.giver))) (let v = h.voted in omega arith)) h.concerned
    (rw (cell_in 16 0 st.parts.cast t to (near st g z t from to h), cell_in 16 0 st.parts.carried t to (near st g z t from to h), ne_eqb from to h.differ) h.lacks)))

-- and the other way round
pub carry_back : (st : State) (t from to : ℕ) → Taken st.tables → Sound st
    → local st.tables t ≡ false → (from ≡ to → ⊥) → 0 < (view_of st.tables st).cast from t → concerns st.tables t to ≡ true → (view_of st.tables st).held t from to ≡ false
    → carry_refusal st t from to ≡ 0
unfolding carry_refusal_in vote_refusal_in
carry_back st t from to g w lo d c co h =
    let T = st.tables in
    let i = inv_of T st w in
    let dl = i.cast_delivered from t c in
    let f = known T from t (i.delivered_concerns from t dl) in
    let b = known T to t co in
    let x : cast_by st t from ≡ (view_of T st).cast from t = sym (cell_in 16 0 st.parts.cast t from (omega (arith, g.sites))) in
    let y : member (carried_to st t to) from ≡ false = rw (ne_eqb from to d, cell_in 16 0 st.parts.carried t to (omega (arith, g.sites))) at h in
    rw (lt-leb T.txns t (placed_of T st w t (i.delivered_placed from t dl)), lt-leb (site_count T) from f, lt-leb (site_count T) to b, co, lo, ne_eqb from to d, ne_eqb (cast_by st t from) 0 (λ e. omega arith), y)
