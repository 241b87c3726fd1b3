-- SUBMIT: an accepted one is a step of the theory.
-- Assumes nothing.
use Prim.Native.Nat.{ℕ, suc, ◌≤◌, ◌<◌}
use mathlib.Core.Path.{◌≡◌, refl, sym, ap, subst, fun_ext, ◌∙◌}
use mathlib.Core.Bool.{Bool, true, false, ◌&&◌, not, cond}
use mathlib.Core.Logic.{inl, inr}
use mathlib.Core.List.{List}
use native.Mathlib.Omega.{arith}
use native.Mathlib.Numerals.{add-one}
use lib.Dec.{eqb, ltb, leb}
use lib.ListN.{length, set}
use lib.Seq.{get_or-set_same, get_or-set_other}
use borrow.Author.Tests.{eqb-true, eq-eqb, ne_eqb, ltb-false, lt-ltb, leb-false, not-false}
use Rattle.queues.specs.Queue.{submitted_in}
use Rattle.parts.specs.Cells.{place_in, nobody}
use Rattle.bounded.specs.Bounded.{all_below, least_below}
use Rattle.bounded.proofs.Truth.{and-true, clash, passed, and-false}
use Rattle.bounded.proofs.Laws.{all_get, first-is, sum_less}
use Rattle.tables.specs.Lists.{read_count, read_row}
use Rattle.tables.specs.declared.Tables.{Tables}
use Rattle.steps.specs.Kinds.{place}
use Rattle.steps.specs.declared.Place.{Place}
use Rattle.refusals.specs.Refusals.{submit_refusal_in}
use Rattle.machine.specs.Parts.{place_of, recorded_of}
use Rattle.machine.specs.Rules.{submitted}
use Rattle.machine.specs.Refusals.{submit_refusal}
use Rattle.machine.specs.Effects.{next_place, submit_done}
use Rattle.machine.specs.declared.State.{State}
use Rattle.onecopy.proofs.Base.{at1, look1}
use Rattle.onecopy.proofs.Place.{place_v}
use Rattle.onecopy.proofs.Ordering.{submit}
use Rattle.onecopy.proofs.Counter.{counter}
use Rattle.onecopy.proofs.World as World
use Rattle.onecopy.proofs.World.{World, Steps}
use Rattle.demands.specs.View.{slot, table_of, whose_in}
use Rattle.demands.proofs.Tables.{Taken, slot_at}
use Rattle.demands.proofs.Cells.{cell_in}
use Rattle.demands.proofs.View.{listed_get, view_of, plan_of, world_of, Sound}
use Rattle.demands.proofs.Sized.{Arrays}

-- ---- a new place

module _ (places : List Place) (t p : ℕ) (l : t < length places) where
  pub place_set : (u : ℕ) → place_in (set places t (place p)) u ≡ at1 (place_in places) t p u
  place_set u = elim (look1 (place_in places) t p u) [
    | inl q ↦ rw (q.1, q.0) (ap (λ (x : Place). x.0) (get_or-set_same places t (place p) (place 0) l))
    | inr q ↦ rw q.1 (ap (λ (x : Place). x.0) (get_or-set_other places t u (place p) (place 0) q.0))
  ]

  module _ (n : ℕ) (low : t < n) (few : n ≤ 128) (e : place_in places t ≡ 0) (a : 0 < p) where
    -- the transaction at each place is the one that was there, or t at its own
    pub whose_set : ((u : ℕ) → place_in places u ≡ p → ⊥) → (q : ℕ) → whose_in (set places t (place p)) n q ≡ at1 (whose_in places n) p t q
    unfolding whose_in
    whose_set free q = elim (look1 (whose_in places n) p t q) [
      | inl c ↦ rw (c.1, c.0) (elim (first-is n (λ i. 0) (new p) nobody few) [
        | inl f ↦ mine (least_below n (new p) nobody) f.passes
        | inr b ↦ clash (rw (mine_here, lt-ltb 0 p a, eq-eqb p p refl)) (b.1 t low)
      ])
      | inr c ↦ rw c.1 (ap (λ (f : ℕ → Bool). least_below n f nobody) (fun_ext (λ u. others u q c.0)))
    ]
      where
        new : ℕ → ℕ → Bool
        new q u = ltb 0 (place_in (set places t (place p)) u) && eqb (place_in (set places t (place p)) u) q

        old : ℕ → ℕ → Bool
        old q u = ltb 0 (place_in places u) && eqb (place_in places u) q

        mine_here : place_in (set places t (place p)) t ≡ p
        mine_here = ap (λ (x : Place). x.0) (get_or-set_same places t (place p) (place 0) l)

        mine : (u : ℕ) → new p u ≡ true → u ≡ t
        mine u h =
            let y = eqb-true (place_in (set places t (place p)) u) p (and-true (ltb 0 (place_in (set places t (place p)) u)) _ h).1 in
            elim (look1 (place_in places) t p u) [
              | inl c ↦ c.0
              | inr c ↦ absurd (free u (sym c.1 ∙ sym (place_set u) ∙ y))
            ]

        others : (u q : ℕ) → (q ≡ p → ⊥) → new q u ≡ old q u
        others u q d = elim (look1 (place_in places) t p u) [
          | inl c ↦ rw (place_set u, c.1, c.0, e, ne_eqb p q (λ x. d (sym x))) (and-false (ltb 0 p))
          | inr c ↦ rw (place_set u, c.1)
        ]

    -- one more is submitted
    pub one_more : submitted_in (set places t (place p)) n ≡ suc (submitted_in places n)
    unfolding submitted_in
    one_more = sym (sum_less n t (λ u. cond (ltb 0 (place_in places u)) 1 0) (λ u. cond (ltb 0 (place_in (set places t (place p)) u)) 1 0) low
        (λ u k d. rw (ap (λ (x : Place). x.0) (get_or-set_other places t u (place p) (place 0) d)))
        (rw (e, ap (λ (x : Place). x.0) (get_or-set_same places t (place p) (place 0) l), lt-ltb 0 p a)))

-- ---- SUBMIT accepted

pub record Ready (st : State) (t : ℕ) : Type 0 where
  pub txn : t < st.tables.txns
  pub fresh : place_of st t ≡ 0
  pub reads : (i : ℕ) → i < read_count st.tables t → recorded_of st t i ≡ true

ready : (st : State) (t : ℕ) → submit_refusal st t ≡ 0 → Ready st t
unfolding submit_refusal_in
ready st t h =
    let T = st.tables in
    let (a, h1) = passed 20 (omega arith) (leb T.txns t) _ h in
    let (b, h2) = passed 24 (omega arith) (ltb 0 (place_of st t)) _ h1 in
    let c = (passed 25 (omega arith) (not (all_below (read_count T t) (recorded_of st t))) 0 h2).0 in
    record {
      txn = leb-false _ _ a;
      fresh = omega (arith, ltb-false 0 (place_of st t) b);
      reads = all_get (read_count T t) (recorded_of st t) (not-false _ c);
    }

module _ (st : State) (t : ℕ) (g : Taken st.tables) (z : Arrays st) (h : Ready st t) (most : (u : ℕ) → place_of st u ≤ submitted st) where
  abbrev T : Tables
  T = st.tables

  long : t < length st.parts.places
  long = omega (arith, z.places, g.txns, h.txn)

  pub view_submit : view_of T (submit_done st t).next ≡ place_v (view_of T st) t (next_place st)
  unfolding submit_done place_v
  view_submit = λ j. record {
    order = record {
      place = fun_ext (place_set st.parts.places t (next_place st) long) j;
      at = fun_ext (whose_set st.parts.places t (next_place st) long T.txns h.txn g.txns h.fresh (omega arith) (λ u e. omega (arith, most u))) j;
    };
    seen = (view_of T st).seen;
    recorded = (view_of T st).recorded;
    delivered = (view_of T st).delivered;
    closed = (view_of T st).closed;
    cast = (view_of T st).cast;
    held = (view_of T st).held;
    store = (view_of T st).store;
  }

  -- each read of t is recorded
  all_read : (k : ℕ) → (table_of T).reads t k ≡ true → (view_of T st).recorded t k ≡ true
  all_read k r =
      let (i, a, l, e) = listed_get T.txns t (read_count T t) k (read_row T t) r in
      let b : slot (read_row T t) (read_count T t) k ≡ i = subst (λ k. slot (read_row T t) (read_count T t) k ≡ i) e (slot_at (read_row T t) (read_count T t) i (g.reads t a).few (g.reads t a).once l) in
      rw (b, cell_in 8 false st.parts.recorded t i (omega (arith, (g.reads t a).few))) (h.reads i l)

pub submit_step : (st : State) (t : ℕ) → Taken st.tables → Arrays st → Sound st → submit_refusal st t ≡ 0
    → Steps (plan_of st.tables) (world_of st.tables st) (world_of st.tables (submit_done st t).next)
unfolding world_of submit_done counter
submit_step st t g z w e =
    let T = st.tables in
    let n = submitted st in
    let h = ready st t e in
    let c = view_submit st t g z h w.good.most ∙ ap (λ p. place_v (view_of T st) t p) (add-one n) in
    let d = one_more st.parts.places t (next_place st) (long st t g z h w.good.most) T.txns h.txn g.txns h.fresh (omega arith) in
    subst (λ (x : World (plan_of T)). Steps (plan_of T) (world_of T st) x) (sym (λ j. record { view = c j; ord = d j }))
    (World.submit (place_v (view_of T st) t (suc n)) (suc n) (submit t h.txn h.fresh (all_read st t g z h w.good.most)))
