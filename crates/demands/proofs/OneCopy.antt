-- Demand 3: every state reached from fresh is one-copy serializable.
-- Assumes nothing.
use Prim.Native.Nat.{ℕ, ◌<◌}
use mathlib.Core.Path.{◌≡◌, sym, ap, subst, fun_ext, ◌∙◌}
use mathlib.Core.Bool.{Bool, true}
use mathlib.Core.List.{List}
use native.Mathlib.Omega.{arith}
use lib.Dec.{eqb}
use Rattle.bounded.proofs.Laws.{any_same}
use Rattle.tables.specs.Lists.{read_count, read_key, read_row}
use Rattle.tables.specs.Sites.{site_count, holds}
use Rattle.tables.specs.Judge.{judge}
use Rattle.tables.specs.declared.Tables.{Tables}
use Rattle.steps.specs.Kinds.{version}
use Rattle.steps.specs.declared.Step.{Step}
use Rattle.machine.specs.Parts.{place_of, closed_at}
use Rattle.machine.specs.Effects.{next_place}
use Rattle.machine.specs.Fresh.{fresh_of}
use Rattle.machine.specs.declared.State.{State}
use Rattle.listing.specs.Run.{end_of}
use Rattle.onecopy.specs.Copy.{one_copy}
use Rattle.onecopy.specs.View.{View, single}
use Rattle.onecopy.specs.Serial.{Serial}
use Rattle.onecopy.specs.Serial as Theory
use Rattle.onecopy.proofs.World.{Reached, Holds, holds as held, demand3}
use Rattle.demands.specs.View.{table_of, order_of, copy_of}
use Rattle.demands.specs.OneCopy.{returned, replica, Matches, OneCopy}
use Rattle.demands.proofs.Tables.{Taken, taken, slot_at}
use Rattle.demands.proofs.Cells.{cell_in}
use Rattle.demands.proofs.View.{listed_get, listed_put, known, inv_of, placed_of, most_of, view_of, plan_of, world_of}
use Rattle.demands.proofs.Settle.{Stands}
use Rattle.demands.proofs.Reached.{stands}

module _ (st : State) (g : Taken st.tables) (r : Reached (plan_of st.tables) (world_of st.tables st)) where
  abbrev T : Tables
  T = st.tables

  abbrev v : View
  v = view_of T st

  w : Holds (plan_of T) (world_of T st)
  w = held (plan_of T) r

  serial : Serial (table_of T) v
  unfolding world_of
  serial = demand3 (plan_of T) r

  -- the view's parts are the state's
  closed_is : (t s : ℕ) → s < site_count T → v.closed s t ≡ closed_at st t s
  closed_is t s l = cell_in 16 0 st.parts.closed t s (omega (arith, g.sites))

  copy_is : (p k : ℕ) → single (table_of T) v p k ≡ copy_of st p k
  copy_is p k = ap (λ (c : ℕ → Bool). one_copy (table_of T) (order_of st) c p k)
      (fun_ext (λ u. any_same (site_count T) (λ s. eqb (v.closed s u) 1) (λ s. eqb (closed_at st u s) 1) (λ s l. ap (λ x. eqb x 1) (closed_is u s l))))

  seen-is : (t i : ℕ) → t < T.txns → i < read_count T t → v.seen t (read_key T t i) ≡ returned st t i
  seen-is t i a l =
      let b : i < 8 = omega (arith, (g.reads t a).few) in
      rw (slot_at (read_row T t) (read_count T t) i (g.reads t a).few (g.reads t a).once l, cell_in 8 (version 0) st.parts.readversions t i b, cell_in 8 0 st.parts.readvalues t i b)

  -- its reads match exactly if those of its view do
  matches_get : (t : ℕ) → t < T.txns → Theory.Matches (table_of T) v t → Matches st t
  matches_get t a m i l = sym (seen-is t i a l) ∙ m (read_key T t i) (listed_put T.txns t (read_count T t) i (read_row T t) a l) ∙ copy_is (place_of st t) (read_key T t i)

  matches_put : (t : ℕ) → Matches st t → Theory.Matches (table_of T) v t
  matches_put t m k d =
      let (i, a, l, e) = listed_get T.txns t (read_count T t) k (read_row T t) d in
      subst (λ k. v.seen t k ≡ single (table_of T) v (place_of st t) k) e (seen-is t i a l ∙ m i l ∙ sym (copy_is (place_of st t) (read_key T t i)))

  closed_txn : (t s : ℕ) → s < site_count T → 0 < closed_at st t s → t < T.txns
  closed_txn t s l h =
      let i = inv_of T st w in
      placed_of T st w t (i.delivered_placed s t (i.closed_delivered s t (rw (closed_is t s l) h)))

  one_copy_lem : OneCopy st
  one_copy_lem = record {
    agreement = λ t s q a b x y. serial.agreement s q t (closed_is t s a ∙ x) (rw (closed_is t q b) y);
    exactly = λ t s a h.
        let (x, y) = serial.exactly s t (rw (closed_is t s a) h) in
        (λ e. matches_get t (closed_txn t s a h) (x (closed_is t s a ∙ e)), λ m. sym (closed_is t s a) ∙ y (matches_put t m));
    replicas = λ s k h. let (p, e) = serial.replica s k h in (p, sym (stored s k h) ∙ sym e ∙ copy_is p k);
    values = λ s k p h e. rw (← copy_is p k, ← value-is s k h) (serial.one_value s k p h (rw (copy_is p k) (e ∙ sym (version_is s k h))));
    last = λ s all k h. sym (stored s k h) ∙ sym (serial.last s
        (λ u c p. rw (closed_is u s (known T s u c)) (all u p c)) k (next_place st) h (λ u. omega (arith, most_of T st w u))) ∙ copy_is (next_place st) k;
  }
    where
      stored : (s k : ℕ) → holds T s k ≡ true → v.store s k ≡ replica st s k
      stored s k h = rw h

      version_is : (s k : ℕ) → holds T s k ≡ true → (v.store s k).0 ≡ (replica st s k).0
      version_is s k h = ap (λ x. x.0) (stored s k h)

      value-is : (s k : ℕ) → holds T s k ≡ true → (v.store s k).1 ≡ (replica st s k).1
      value-is s k h = ap (λ x. x.1) (stored s k h)

pub stands_one_copy : (T : Tables) → Taken T → (st : State) → Stands T st → OneCopy st
stands_one_copy T g st h = subst (λ (T : Tables). Taken T → Reached (plan_of T) (world_of T st) → OneCopy st) h.whole.tables (one_copy_lem st) g h.reached

-- demand 3
pub every_state_one_copy : (T : Tables) → judge T ≡ 0 → (l : List Step) → OneCopy (end_of (fresh_of T).state l)
every_state_one_copy T e l = stands_one_copy T (taken T e) (end_of (fresh_of T).state l) (stands T e l)
