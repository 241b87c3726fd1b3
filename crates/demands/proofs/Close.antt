-- CLOSE: an accepted one is a step of the theory, and the theory's is accepted.
-- Assumes nothing.
use Prim.Native.Nat.{ℕ, zero, suc, ◌+◌, ◌*◌, ◌<◌}
use mathlib.Core.Path.{◌≡◌, refl, sym, ap, subst, fun_ext, ◌∙◌}
use mathlib.Core.Bool.{Bool, true, false, ◌&&◌, ◌||◌, not, cond}
use mathlib.Core.Logic.{◌⊎◌, inl, inr}
use mathlib.Core.List.{List}
use native.Mathlib.Omega.{arith}
use native.Mathlib.Numerals.{add-one}
use lib.Dec.{eqb, ltb}
use lib.ListN.{length, get_or, set}
use lib.Seq.{get_or-set_same, get_or-set_other}
use borrow.Author.Tests.{eqb-true, eq-eqb, ne_eqb, lt-ltb, lt-leb}
use Rattle.queues.specs.Queue.{submitted_in}
use Rattle.bounded.proofs.Truth.{and-true, bool, clash, same}
use Rattle.bounded.proofs.Laws.{all_put}
use Rattle.tables.specs.Lists.{in_row, write_count, write_key, write_value, write_row}
use Rattle.tables.specs.Sites.{site_count, holds}
use Rattle.tables.specs.Concern.{concerns}
use Rattle.tables.specs.declared.Tables.{Tables}
use Rattle.steps.specs.Kinds.{version}
use Rattle.steps.specs.declared.Version.{Version}
use Rattle.rules.specs.Votes.{room_in}
use Rattle.refusals.specs.Refusals.{close_refusal_in, verdict_refusal_in}
use Rattle.machine.specs.Parts.{version_at, value_at, with_closed}
use Rattle.machine.specs.Rules.{at_head, verdict, room_at}
use Rattle.machine.specs.Usable.{usable}
use Rattle.machine.specs.Refusals.{close_refusal}
use Rattle.effects.specs.Stored.{stored}
use Rattle.machine.specs.Effects.{committed, close_done}
use Rattle.machine.specs.declared.State.{State}
use Rattle.search.proofs.Closes.{close_has}
use Rattle.machine.specs.Settle.{parts_of}
use Rattle.effects.proofs.Stores.{stored_other, stored_length, stored_at}
use Rattle.machine.proofs.Laws.{row_apart}
use Rattle.onecopy.specs.Copy.{bump}
use Rattle.onecopy.specs.View.{View}
use Rattle.onecopy.proofs.Base.{at2}
use Rattle.onecopy.proofs.Close.{close_v}
use Rattle.onecopy.proofs.Rules as Rules
use Rattle.onecopy.proofs.Rules.{Closable}
use Rattle.onecopy.proofs.Counter.{counter}
use Rattle.onecopy.proofs.World.{World, Ends, move}
use Rattle.demands.specs.View.{slot, table_of}
use Rattle.demands.proofs.Tables.{Taken, slot_is}
use Rattle.demands.proofs.Cells as Cells
use Rattle.demands.proofs.Cells.{cell_in, cell_put}
use Rattle.demands.proofs.View.{listed_put, known, inv_of, placed_of, rules_of, view_of, plan_of, world_of, Sound}
use Rattle.demands.proofs.Verdict.{verdict_known, verdict_is, head_get, head_put}
use Rattle.demands.proofs.Bound.{version_most}
use Rattle.demands.proofs.Sized.{Arrays}

-- ---- the stores of a commit

-- ---- the view after a CLOSE

module _ (st : State) (g : Taken st.tables) (z : Arrays st) (t s c : ℕ) (txn : t < st.tables.txns) (site : s < site_count st.tables) where
  abbrev T : Tables
  T = st.tables

  abbrev v : View
  v = view_of T st

  near : s < 16
  near = omega (arith, g.sites)

  abbrev n : ℕ
  n = write_count T t

  -- version and value of a held key after a commit
  kept : (a k : ℕ) → holds T a k ≡ true → ((a ≡ s) × ((table_of T).writes t k ≡ true) → ⊥)
      → ◌≡◌ {A = ℕ × ℕ} (version_at (committed st t s) a k, value_at (committed st t s) a k) (version_at st a k, value_at st a k)
  unfolding committed
  kept a k h ne = λ j. (
    (stored_other T t s (version 0) (λ i v. version (v.0 + 1)) st.parts.versions n (a * 64 + k) apart_from j).0,
    stored_other T t s 0 (λ i x. write_value T t i) st.parts.values n (a * 64 + k) apart_from j,
  )
    where
      apart_from : (i : ℕ) → i < n → holds T s (write_key T t i) ≡ true → a * 64 + k ≡ s * 64 + write_key T t i → ⊥
      apart_from i l _ e =
          let (p, q) = Cells.apart 64 a k s (write_key T t i) (omega (arith, g.low a k h, g.keys)) (omega (arith, (g.writes t txn).low i l, g.keys)) e in
          ne (p, subst (λ k. (table_of T).writes t k ≡ true) (sym q) (listed_put T.txns t n i (write_row T t) txn l))

  raised : (k : ℕ) → holds T s k ≡ true → (table_of T).writes t k ≡ true
      → ◌≡◌ {A = ℕ × ℕ} (version_at (committed st t s) s k, value_at (committed st t s) s k) (suc (version_at st s k), (table_of T).gives t k)
  unfolding committed
  raised k h w =
      let (l, e) = slot_is (write_row T t) n k (g.writes t txn).few (and-true (ltb t T.txns) (in_row (write_row T t) n k) w).1 in
      let i = slot (write_row T t) n k in
      let u : (j : ℕ) → j < n → write_key T t i ≡ write_key T t j → i ≡ j = λ j m q. row_apart (write_row T t) n i j (g.writes t txn).once l m q in
      let b : s * 64 + write_key T t i < 1024 = omega (arith, near, (g.writes t txn).low i l, g.keys) in
      let x = stored_at T t s (version 0) (λ i v. version (v.0 + 1)) st.parts.versions n i l u (rw e h) (omega (arith, z.versions)) in
      let y = stored_at T t s 0 (λ i x. write_value T t i) st.parts.values n i l u (rw e h) (omega (arith, z.values)) in
      let p : version_at (committed st t s) s (write_key T t i) ≡ suc (version_at st s (write_key T t i)) = ap (λ (v : Version). v.0) x ∙ add-one (version_at st s (write_key T t i)) in
      subst (λ k. ◌≡◌ {A = ℕ × ℕ} (version_at (committed st t s) s k, value_at (committed st t s) s k) (suc (version_at st s k), write_value T t i)) e (λ j. (p j, y j))

  -- the stores after a commit are the theory's
  store : c ≡ 1 → (a k : ℕ) → (view_of T (committed st t s)).store a k ≡ (close_v (table_of T) v s t c).store a k
  unfolding close_v
  store e a k = elim (bool (holds T a k)) [
    | inr h ↦ rw (h, none a k h)
    | inl h ↦ rw (h, e) (elim (same a s) [
      | inr d ↦ rw (ne_eqb a s d) (kept a k h (λ q. d q.0))
      | inl d ↦ elim (bool ((table_of T).writes t k)) [
        | inl w ↦ rw (d, eq-eqb s s refl, w, subst (λ a. holds T a k ≡ true) d h) (raised k (subst (λ a. holds T a k ≡ true) d h) w)
        | inr w ↦ rw (eq-eqb a s d, w) (kept a k h (λ q. clash q.1 w))
      ]
    ])
  ]
    where
      off : (x w : Bool) → (x && (w && false)) ≡ false
      off true true = refl
      off true false = refl
      off false w = refl

      none : (a k : ℕ) → holds T a k ≡ false → ((eqb a s && eqb c 1) && ((table_of T).writes t k && holds T s k)) ≡ false
      none a k h = elim (same a s) [
        | inl d ↦ rw (subst (λ a. holds T a k ≡ false) d h) (off (eqb a s && eqb c 1) ((table_of T).writes t k))
        | inr d ↦ rw (ne_eqb a s d)
      ]

  shut : (a b : ℕ) → (view_of T (with_closed st t s c)).closed a b ≡ at2 v.closed s t c a b
  shut a b = cell_put 16 0 st.parts.closed t s c near (omega (arith, z.closed, g.txns, txn, near)) a b

  -- where the stores are f
  stored_view : (f : ℕ → ℕ → ℕ × ℕ) → ((a k : ℕ) → f a k ≡ (close_v (table_of T) v s t c).store a k)
      → record { order = v.order; seen = v.seen; recorded = v.recorded; delivered = v.delivered; closed = (view_of T (with_closed st t s c)).closed; cast = v.cast; held = v.held; store = f } ≡ close_v (table_of T) v s t c
  unfolding close_v
  stored_view f e = λ j. record {
    order = v.order;
    seen = v.seen;
    recorded = v.recorded;
    delivered = v.delivered;
    closed = fun_ext (λ a. fun_ext (λ b. shut a b)) j;
    cast = v.cast;
    held = v.held;
    store = fun_ext (λ a. fun_ext (λ k. e a k)) j;
  }

  -- a state whose stores alone differ
  pub view_close : view_of T (with_closed (cond (eqb c 1) (committed st t s) st) t s c) ≡ close_v (table_of T) v s t c
  unfolding committed close_v
  view_close = by (eqb c 1) refl
    where
      off : (x w : Bool) (y : ℕ × ℕ) (z : ℕ) → y ≡ bump ((x && false) && w) y z
      off true w y z = refl
      off false w y z = refl

      by : (b : Bool) → eqb c 1 ≡ b → view_of T (with_closed (cond b (committed st t s) st) t s c) ≡ close_v (table_of T) v s t c
      by true e = unfold committed in stored_view (view_of T (committed st t s)).store (store (eqb-true c 1 e))
      by false e = stored_view v.store (λ a k. unfold close_v in rw e (off (eqb a s) ((table_of T).writes t k && holds T s k) (v.store a k) ((table_of T).gives t k)))

pub close_step : (st : State) (t s : ℕ) → Taken st.tables → Arrays st → Sound st → close_refusal st t s ≡ 0
    → Ends (plan_of st.tables) (world_of st.tables st) (world_of st.tables (close_done st t s).next)
unfolding world_of close_done counter
close_step st t s g z w e =
    let T = st.tables in
    let c = verdict st t s in
    let h = close_has st.tables (parts_of st) t s e in
    let near : s < 16 = omega (arith, g.sites, h.site) in
    let d = Rules.close s t c refl (record {
      here = cell_in 16 false st.parts.delivered t s near ∙ h.delivered;
      opened = cell_in 16 0 st.parts.closed t s near ∙ h.unclosed;
      known = verdict_known st g w t s h.txn near h.known;
      head = λ q. head_get st g w t s h.txn near (h.head q);
    }) in
    subst (λ (x : World (plan_of T)). Ends (plan_of T) (world_of T st) x) (sym (λ j. record {
      view = view_close st g z t s c h.txn h.site j;
      ord = submitted_in (places (eqb c 1) j) T.txns;
    })) (move (close_v (table_of T) (view_of T st) s t c) d)
  where
    places : (b : Bool) → (with_closed (cond b (committed st t s) st) t s (verdict st t s)).parts.places ≡ st.parts.places
    places true = unfold committed in refl
    places false = refl

-- ---- and the other way round

pub close_back : (st : State) (t s c : ℕ) → usable st ≡ true → Taken st.tables → Sound st
    → Closable (table_of st.tables) (rules_of st.tables) (view_of st.tables st) s t c → close_refusal st t s ≡ 0
unfolding close_refusal_in verdict_refusal_in
close_back st t s c ok g w h = rw (
  lt-leb st.tables.txns t txn,
  lt-leb (site_count st.tables) s site,
  concerned,
  sym (cell_in 16 0 st.parts.closed t s near) ∙ h.opened,
  sym (cell_in 16 false st.parts.delivered t s near) ∙ h.here,
  verdict_is st g w t s txn near c h.known,
) (last (same c 1))
  where
    concerned : concerns st.tables t s ≡ true
    concerned = (inv_of st.tables st w).delivered_concerns s t h.here

    txn : t < st.tables.txns
    txn = placed_of st.tables st w t ((inv_of st.tables st w).delivered_placed s t h.here)

    site : s < site_count st.tables
    site = known st.tables s t concerned

    near : s < 16
    near = omega (arith, g.sites, site)

    room : room_at st t s ≡ true
    room = unfold room_in in all_put (write_count st.tables t) (λ i. not (holds st.tables s (write_key st.tables t i)) || ltb (version_at st s (write_key st.tables t i)) 4294967295) (λ i l. each (write_key st.tables t i))
      where
        each : (k : ℕ) → (not (holds st.tables s k) || ltb (version_at st s k) 4294967295) ≡ true
        each k = elim (bool (holds st.tables s k)) [
          | inl q ↦ rw (q, lt-ltb (version_at st s k) 4294967295 (omega (arith, version_most st s k ok w q)))
          | inr q ↦ rw q
        ]

    last : (c ≡ 1) ⊎ (c ≡ 1 → ⊥) → ◌≡◌ {A = ℕ} (cond (eqb c 0) 30 (cond (eqb c 1 && not (at_head st t s)) 31 (cond (eqb c 1 && not (room_at st t s)) 32 0))) 0
    last (inl e) = rw (e, room, head_put st g w t s txn near h.here (h.head e))
    last (inr e) = rw (ne_eqb c 1 e, ne_eqb c 0 (λ q. elim h.known.1 [ inl a ↦ omega (arith, a.0) | inr a ↦ omega (arith, a.0) ]))
