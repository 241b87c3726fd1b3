-- DELIVER: an accepted one is a step of the theory, and the theory's is accepted.
-- Assumes nothing.
use Prim.Native.Nat.{ℕ, ◌+◌, ◌*◌, ◌≤◌, ◌<◌}
use mathlib.Core.Path.{◌≡◌, refl, sym, ap, subst, fun_ext, ◌∙◌}
use mathlib.Core.Bool.{Bool, true, false, ◌&&◌, ◌||◌, not, cond}
use mathlib.Core.Logic.{inl, inr}
use native.Mathlib.Omega.{arith}
use lib.Dec.{eqb, ltb, leb}
use lib.ListN.{get_or}
use borrow.Author.Tests.{eqb-true, eqb-false, eq-eqb, ne_eqb, ltb-true, lt-ltb, leb-false, lt-leb, not-true}
use Rattle.queues.specs.Queue.{waits, next_in, blocked_in, submitted_in}
use Rattle.parts.specs.Cells.{place_in, nobody}
use Rattle.bounded.proofs.Truth.{and-true, and_put, or-true, or_left, or_right, bool, clash, same, passed}
use Rattle.bounded.proofs.Laws.{any_get, any_put, first-is, any_lack, all_same}
use Rattle.tables.specs.Lists.{in_row, meets, read_count, read_key, write_count, conflict_in, conflict, read_row, write_row}
use Rattle.tables.specs.Sites.{site_count, holds}
use Rattle.tables.specs.Concern.{concerns, votes}
use Rattle.tables.specs.declared.Tables.{Tables}
use Rattle.steps.specs.Kinds.{version}
use Rattle.rules.specs.Votes.{certify_in, current}
use Rattle.refusals.specs.Refusals.{deliver_refusal_in}
use Rattle.machine.specs.Parts.{place_of, delivered_at, closed_at, with_delivery}
use Rattle.machine.specs.Rules.{queued, next_at, blocked, vote_of}
use Rattle.machine.specs.Refusals.{deliver_refusal}
use Rattle.machine.specs.Effects.{deliver_done}
use Rattle.machine.specs.declared.State.{State}
use Rattle.onecopy.specs.View.{View}
use Rattle.onecopy.proofs.Base.{at2, look2, at3, at3_same, at3_other}
use Rattle.onecopy.proofs.Deliver.{deliver_v}
use Rattle.onecopy.proofs.Rules as Rules
use Rattle.onecopy.proofs.Rules.{Conflict, Queued, Offered, vote_r}
use Rattle.onecopy.proofs.Counter.{counter}
use Rattle.onecopy.proofs.World.{Ends, move}
use Rattle.demands.specs.View.{table_of}
use Rattle.demands.proofs.Tables.{Taken, slot_at}
use Rattle.demands.proofs.Cells.{cell_in, cell_put}
use Rattle.demands.proofs.View.{listed_get, listed_put, known, inv_of, placed_of, matching, vote_by, certify_by, rules_of, place, view_of, plan_of, world_of, Sound}
use Rattle.demands.proofs.Sized.{Arrays}

-- ---- conflicts

meets_put : (T : Tables) (t u k : ℕ) → (table_of T).reads t k ≡ true → (table_of T).writes u k ≡ true → meets (read_row T t) (read_count T t) (write_row T u) (write_count T u) ≡ true
unfolding meets
meets_put T t u k r w =
    let (i, a, l, e) = listed_get T.txns t (read_count T t) k (read_row T t) r in
    any_put (read_count T t) (λ i. in_row (write_row T u) (write_count T u) (read_key T t i)) i l
    (subst (λ k. in_row (write_row T u) (write_count T u) k ≡ true) (sym e) (and-true (ltb u T.txns) (in_row (write_row T u) (write_count T u) k) w).1)

meets_get : (T : Tables) (t u : ℕ) → t < T.txns → u < T.txns → meets (read_row T t) (read_count T t) (write_row T u) (write_count T u) ≡ true
    → (k : ℕ) × ((table_of T).reads t k ≡ true) × ((table_of T).writes u k ≡ true)
unfolding meets
meets_get T t u a b h =
    let (i, l, e) = any_get (read_count T t) (λ i. in_row (write_row T u) (write_count T u) (read_key T t i)) h in
    (read_key T t i, listed_put T.txns t (read_count T t) i (read_row T t) a l, and_put (ltb u T.txns) (in_row (write_row T u) (write_count T u) (read_key T t i)) (lt-ltb u T.txns b) e)

conflict_put : (T : Tables) (t u : ℕ) → Conflict (table_of T) t u → conflict T t u ≡ true
unfolding conflict_in
conflict_put T t u (inl q) = or_left (meets (read_row T t) (read_count T t) (write_row T u) (write_count T u)) _ (meets_put T t u q.0 q.1 q.2)
conflict_put T t u (inr q) = or_right (meets (read_row T t) (read_count T t) (write_row T u) (write_count T u)) _ (meets_put T u t q.0 q.1 q.2)

conflict_get : (T : Tables) (t u : ℕ) → t < T.txns → u < T.txns → conflict T t u ≡ true → Conflict (table_of T) t u
unfolding conflict_in
conflict_get T t u a b h = elim (or-true (meets (read_row T t) (read_count T t) (write_row T u) (write_count T u)) (meets (read_row T u) (read_count T u) (write_row T t) (write_count T t)) h) [
  | inl q ↦ inl (meets_get T t u a b q)
  | inr q ↦ inr (meets_get T u t b a q)
]

-- ---- DELIVER accepted

-- t is what waits at s with the lowest place
pub record Next (st : State) (s t : ℕ) : Type 0 where
  pub site : s < site_count st.tables
  pub txn : t < st.tables.txns
  pub placed : 0 < place_of st t
  pub fresh : delivered_at st t s ≡ false
  pub concerned : concerns st.tables t s ≡ true
  pub least : (u : ℕ) → u < st.tables.txns → 0 < place_of st u → delivered_at st u s ≡ false → concerns st.tables u s ≡ true → place_of st t ≤ place_of st u

waiting : (p : ℕ) (d c : Bool) → waits p d c ≡ true → (0 < p) × (d ≡ false) × (c ≡ true)
waiting p d c h =
    let (a, b) = and-true (ltb 0 p) (not d && c) h in
    let (x, y) = and-true (not d) c b in
    (ltb-true 0 p a, not-true d x, y)

waits_put : (p : ℕ) (d c : Bool) → 0 < p → d ≡ false → c ≡ true → waits p d c ≡ true
waits_put p d c a b e = rw (lt-ltb 0 p a, b, e)

abbrev pending : State → ℕ → ℕ → Bool
pending st s t = waits (place_of st t) (delivered_at st t s) (concerns st.tables t s)

next-is : (st : State) (s : ℕ) → Taken st.tables → deliver_refusal st s ≡ 0 → Next st s (next_at st s) × (blocked st (next_at st s) s ≡ false)
unfolding deliver_refusal_in next_in
next-is st s g h =
    let T = st.tables in
    let (a, h1) = passed 21 (omega arith) (leb (site_count T) s) _ h in
    let (b, h2) = passed 26 (omega arith) (eqb (next_at st s) nobody) _ h1 in
    let c = (passed 27 (omega arith) (blocked st (next_at st s) s) 0 h2).0 in
    elim (first-is T.txns (place_in st.parts.places) (pending st s) nobody g.txns) [
      | inr q ↦ absurd (eqb-false (next_at st s) nobody b q.0)
      | inl f ↦
          let t = next_at st s in
          let (x, y, w) = waiting (place_of st t) (delivered_at st t s) (concerns T t s) f.passes in (
            record {
              site = leb-false _ _ a;
              txn = f.low;
              placed = x;
              fresh = y;
              concerned = w;
              least = λ u l p d e. f.least u l (waits_put (place_of st u) (delivered_at st u s) (concerns T u s) p d e);
            },
            c,
          )
    ]

module _ (st : State) (g : Taken st.tables) (w : Sound st) (s t : ℕ) (n : Next st s t) where
  abbrev T : Tables
  T = st.tables

  abbrev v : View
  v = view_of T st

  near : s < 16
  near = omega (arith, g.sites, n.site)

  pub offered : Offered (table_of T) v s t
  offered = record {
    fresh = cell_in 16 false st.parts.delivered t s near ∙ n.fresh;
    placed = n.placed;
    concerned = n.concerned;
    next = λ u c p l. elim (bool (v.delivered s u)) [
      | inl e ↦ e
      | inr e ↦ absurd (omega (arith, n.least u (placed_of T st w u p) p (sym (cell_in 16 false st.parts.delivered u s near) ∙ e) c))
    ];
  }

  pub admitted : blocked st t s ≡ false → (u : ℕ) → Queued v s u → Conflict (table_of T) t u → ⊥
  unfolding blocked_in
  admitted b u q c = clash
      (any_put T.txns (λ u. queued st s u && conflict T t u) u (placed_of T st w u ((inv_of T st w).delivered_placed s u q.0))
      (rw (sym (cell_in 16 false st.parts.delivered u s near) ∙ q.0, sym (cell_in 16 0 st.parts.closed u s near) ∙ q.1, conflict_put T t u c))) b

  -- the vote is the theory's
  pub vote_is : vote_r (rules_of T) v s t ≡ vote_of st t s
  unfolding certify_by vote_by certify_in
  vote_is = rw (lt-ltb t T.txns n.txn) (ap (λ b. cond (votes T t s) (cond b 1 2) 0)
      (all_same (read_count T t) (matching T (v.seen t) (v.store s) s t) (λ i. not (holds T s (read_key T t i)) || current st.parts.versions st.parts.readversions st.parts.recorded (read_row T t) t s i) each))
    where
      each : (i : ℕ) → i < read_count T t → matching T (v.seen t) (v.store s) s t i ≡ (not (holds T s (read_key T t i)) || current st.parts.versions st.parts.readversions st.parts.recorded (read_row T t) t s i)
      each i l =
          let k = read_key T t i in
          let b : i < 8 = omega (arith, (g.reads t n.txn).few) in
          let e : place T t k ≡ i = slot_at (read_row T t) (read_count T t) i (g.reads t n.txn).few (g.reads t n.txn).once l in
          let d : v.recorded t k ≡ true = (inv_of T st w).placed_recorded t k n.placed (listed_put T.txns t (read_count T t) i (read_row T t) n.txn l) in
          let r : get_or st.parts.recorded (t * 8 + i) false ≡ true = rw (e, cell_in 8 false st.parts.recorded t i b) at d in
          elim (bool (holds T s k)) [
            | inr h ↦ rw h
            | inl h ↦ rw (h, r, e, cell_in 8 (version 0) st.parts.readversions t i b)
          ]

  pub view_deliver : Arrays st → (c : ℕ) → view_of T (with_delivery st t s c) ≡ deliver_v v s t c
  unfolding deliver_v
  view_deliver z c = λ j. record {
    order = v.order;
    seen = v.seen;
    recorded = v.recorded;
    delivered = fun_ext (λ a. fun_ext (λ b. cell_put 16 false st.parts.delivered t s true near (omega (arith, z.delivered, g.txns, n.txn, near)) a b)) j;
    closed = v.closed;
    cast = fun_ext (λ a. fun_ext (λ b. cast a b)) j;
    held = fun_ext (λ b. fun_ext (λ f. fun_ext (λ a. held b f a))) j;
    store = v.store;
  }
    where
      cast : (a b : ℕ) → (view_of T (with_delivery st t s c)).cast a b ≡ at2 v.cast s t c a b
      cast a b = cell_put 16 0 st.parts.cast t s c near (omega (arith, z.cast, g.txns, n.txn, near)) a b

      held : (b f a : ℕ) → (view_of T (with_delivery st t s c)).held b f a ≡ at3 v.held t s s (ltb 0 c) b f a
      held b f a = elim (look2 v.cast s t c a b) [
        | inl q ↦ rw (cast a b, q.2, q.0, q.1) (elim (same f s) [
          | inl e ↦ rw (e, at3_same v.held t s s (ltb 0 c), eq-eqb s s refl)
          | inr e ↦ rw (at3_other v.held t s s (ltb 0 c) t f s (λ x. e x.1), ne_eqb f s e)
        ])
        | inr q ↦ rw (at3_other v.held t s s (ltb 0 c) b f a (λ x. q.0 (x.2, x.0)), cast a b, q.1)
      ]

pub deliver_step : (st : State) (s : ℕ) → Taken st.tables → Arrays st → Sound st → deliver_refusal st s ≡ 0
    → Ends (plan_of st.tables) (world_of st.tables st) (world_of st.tables (deliver_done st s).next)
unfolding world_of deliver_done counter
deliver_step st s g z w h =
    let T = st.tables in
    let t = next_at st s in
    let (n, b) = next-is st s g h in
    let e : view_of T (with_delivery st t s (vote_of st t s)) ≡ deliver_v (view_of T st) s t (vote_r (rules_of T) (view_of T st) s t) =
    view_deliver st g w s t n z (vote_of st t s) ∙ ap (λ c. deliver_v (view_of T st) s t c) (sym (vote_is st g w s t n)) in
    subst (λ (x : View). Ends (plan_of T) (world_of T st) (record { view = x; ord = submitted_in st.parts.places T.txns })) (sym e)
    (move (deliver_v (view_of T st) s t (vote_r (rules_of T) (view_of T st) s t)) (Rules.deliver s t refl (offered st g w s t n) (admitted st g w s t n b)))

-- ---- and the other way round

pub deliver_back : (st : State) (s t : ℕ) → Taken st.tables → Sound st
    → Offered (table_of st.tables) (view_of st.tables st) s t → ((u : ℕ) → Queued (view_of st.tables st) s u → Conflict (table_of st.tables) t u → ⊥)
    → deliver_refusal st s ≡ 0
unfolding deliver_refusal_in
deliver_back st s t g w o a = rw (lt-leb (site_count st.tables) s site, is_t, ne_eqb t nobody (λ e. omega (arith, g.txns, txn)), free)
  where
    T : Tables
    T = st.tables

    site : s < site_count st.tables
    site = known st.tables s t o.concerned

    near : s < 16
    near = omega (arith, g.sites, site)

    txn : t < st.tables.txns
    txn = placed_of st.tables st w t o.placed

    waits_t : pending st s t ≡ true
    waits_t = waits_put (place_of st t) (delivered_at st t s) (concerns st.tables t s) o.placed (sym (cell_in 16 false st.parts.delivered t s near) ∙ o.fresh) o.concerned

    is_t : next_at st s ≡ t
    is_t = unfold next_in in elim (first-is st.tables.txns (place_in st.parts.places) (pending st s) nobody g.txns) [
      | inr q ↦ clash waits_t (q.1 t txn)
      | inl f ↦
          let u = next_at st s in
          let (x, y, c) = waiting (place_of st u) (delivered_at st u s) (concerns st.tables u s) f.passes in
          let l : place_of st u ≤ place_of st t = f.least t txn waits_t in
          elim (same (place_of st u) (place_of st t)) [
            | inl e ↦ sym ((inv_of st.tables st w).at_place u x) ∙ ap (view_of st.tables st).order.at e ∙ (inv_of st.tables st w).at_place t o.placed
            | inr e ↦ clash (o.next u c x (omega arith)) (cell_in 16 false st.parts.delivered u s near ∙ y)
          ]
    ]

    free : blocked st t s ≡ false
    free = unfold blocked_in in any_lack st.tables.txns (λ u. queued st s u && conflict st.tables t u) (λ u l q.
        let (b, c) = and-true (queued st s u) (conflict st.tables t u) q in
        let (d, e) = and-true (delivered_at st u s) (eqb (closed_at st u s) 0) b in
        a u (cell_in 16 false st.parts.delivered u s near ∙ d, cell_in 16 0 st.parts.closed u s near ∙ eqb-true (closed_at st u s) 0 e) (conflict_get st.tables t u txn l c))
