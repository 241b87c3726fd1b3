-- CLOSE keeps what holds.
-- Assumes nothing.
use mathlib.Core.Path.{◌≡◌, refl, sym, ap, ◌∙◌}
use mathlib.Core.Bool.{Bool, true, false, ◌&&◌}
use mathlib.Core.Logic.{◌⊎◌, inl, inr}
use Prim.Native.Nat.{ℕ, suc, ◌≤◌, ◌<◌}
use native.Mathlib.Omega.{arith}
use lib.Dec.{eqb, ltb}
use borrow.Author.Tests.{ltb-true, lt-ltb, eqb-true, eq-eqb, ne_eqb}
use Rattle.bounded.specs.Bounded.{any_below}
use Rattle.bounded.proofs.Truth.{and-true, bool, clash, same, iff_eq}
use Rattle.bounded.proofs.Laws.{any_put, any_get}
use Rattle.onecopy.specs.Copy.{Table, bump, one_copy}
use Rattle.onecopy.specs.View.{View, there, committed, single}
use Rattle.onecopy.proofs.Base.{and_unit, at2, at2_same, look2}
use Rattle.onecopy.proofs.Copy.{copy_ext, copy_at}
use Rattle.onecopy.proofs.Inv.{Fit, Sealed, Site, Inv, closed_site, cast_site, one_place, committed_put, committed_get, top_low, stored, keep_origin}
use Rattle.onecopy.proofs.Close.{close_v, AllYes, OneNo, Closes}

-- the votes held are all yes, or one is no
pub minds : (T : Table) → Fit T → (v : View) → Inv T v → (s t : ℕ) → AllYes v s t ⊎ OneNo v s t
minds T fit v i s t = elim (bool (any_below T.sites says_no)) [
  | inl y ↦
      let (f, l, h) = any_get T.sites says_no y in
      let (p, q) = and-true (v.held t f s) (ltb 1 (v.cast f t)) h in inr (f, p, ltb-true 1 (v.cast f t) q)
  | inr y ↦ inl (λ f h.
      let c : 0 < v.cast f t = i.held_cast t f s h in
      elim (same (v.cast f t) 1) [
        | inl q ↦ q
        | inr q ↦ clash (any_put T.sites says_no f (cast_site T fit v i f t c) (rw (h, lt-ltb 1 (v.cast f t) (omega arith)))) y
      ])
]
  where
    says_no : ℕ → Bool
    says_no f = v.held t f s && ltb 1 (v.cast f t)

module _ (T : Table) (fit : Fit T) (v : View) (i : Inv T v) (s t c : ℕ) (g : Closes T v s t c) where
  abbrev cl : ℕ → ℕ → ℕ
  cl = at2 v.closed s t c

  keep : (a b : ℕ) → 0 < v.closed a b → cl a b ≡ v.closed a b
  keep a b h = elim (look2 v.closed s t c a b) [
    | inl q ↦ absurd (let z : v.closed a b ≡ 0 = cc (q.0, q.1, g.opened) in omega arith)
    | inr q ↦ q.1
  ]

  -- what is committed now and was not: t, at s
  fresh : (a u : ℕ) → cl a u ≡ 1 → (v.closed a u ≡ 1) ⊎ ((a ≡ s) × (u ≡ t) × (c ≡ 1))
  fresh a u e = elim (look2 v.closed s t c a u) [ inl q ↦ inr (q.0, q.1, sym q.2 ∙ e) | inr q ↦ inl (sym q.1 ∙ e) ]

  -- the verdict is commit: no site has aborted t
  no_abort : c ≡ 1 → (f : ℕ) → 2 ≤ v.closed f t → ⊥
  no_abort e f b =
      let (r, n) = i.abort f t b in
      let (k, rd, h, ne) = i.vote_no r t n in
      let (q, hq, hk) = g.covered e k rd in
      ne (i.vote_yes q t k (g.all_yes e q hq) rd hk)

  -- the single copy does not change below what a site has sealed
  pub stable : (f k p : ℕ) → Sealed T v f k p
      → one_copy T v.order (committed T.sites cl) p k ≡ single T v p k
  stable f k p z = copy_ext T v.order k (committed T.sites cl) (committed T.sites v.closed) p same_set
    where
      same_set : (u : ℕ) → v.order.place u < p → T.writes u k ≡ true → committed T.sites cl u ≡ committed T.sites v.closed u
      same_set u l w = iff_eq (committed T.sites cl u) (committed T.sites v.closed u) to from
        where
          from : committed T.sites v.closed u ≡ true → committed T.sites cl u ≡ true
          from e =
              let (a, h) = committed_get T fit v i u e in
              any_put T.sites _ a (closed_site T fit v i a u (omega arith)) (eq-eqb (cl a u) 1 (keep a u (omega arith) ∙ h))

          here_too : u ≡ t → c ≡ 1 → committed T.sites v.closed u ≡ true
          here_too e d =
              let h : 0 < v.closed f u = z.shut u w (rw e (i.delivered_placed s t g.here)) l in
              elim (same (v.closed f u) 1) [
                | inl y ↦ committed_put T fit v i f u y
                | inr n ↦ absurd (no_abort d f (rw e at (let m : 2 ≤ v.closed f u = omega arith in m)))
              ]

          to : committed T.sites cl u ≡ true → committed T.sites v.closed u ≡ true
          to e =
              let (a, l, h) = any_get T.sites (λ r. there cl r u) e in
              elim (fresh a u (eqb-true (cl a u) 1 h)) [ inl y ↦ committed_put T fit v i a u y | inr q ↦ here_too q.1 q.2 ]

  pub seal : (f k p : ℕ) → Sealed T v f k p → Sealed T (close_v T v s t c) f k p
  unfolding close_v
  seal f k p z = record { anchor = z.anchor; shut = λ u w a b. let h : 0 < v.closed f u = z.shut u w a b in omega (arith, keep f u h) }

  -- a site where t does not commit keeps its store
  still : (a : ℕ) → ((a ≡ s) × (c ≡ 1) → ⊥) → Site T (close_v T v s t c) a
  unfolding close_v
  still a n =
      let z = i.site a in record {
        top = z.top;
        anchor = z.anchor;
        above = λ u e. z.above u (eqb-true (v.closed a u) 1 (sym (unmoved u) ∙ eq-eqb (cl a u) 1 e));
        below = λ u h p l. let b : 0 < v.closed a u = z.below u h p l in omega (arith, keep a u b);
        content = λ k h. copy_ext T v.order k (there cl a) (there v.closed a) z.top (λ u _ _. unmoved u) ∙ z.content k h ∙ quiet k;
      }
    where
      unmoved : (u : ℕ) → there cl a u ≡ there v.closed a u
      unmoved u = elim (look2 v.closed s t c a u) [
        | inl q ↦
            let z : v.closed a u ≡ 0 = cc (q.0, q.1, g.opened) in
            ne_eqb (cl a u) 1 (λ e. n (q.0, sym q.2 ∙ e)) ∙ sym (ne_eqb (v.closed a u) 1 (λ e. absurd (omega arith)))
        | inr q ↦ ap (λ x. eqb x 1) q.1
      ]

      off : (x y r : Bool) → ((x ≡ true) × (y ≡ true) → ⊥) → ((x && y) && r) ≡ false
      off true true r m = absurd (m (refl, refl))
      off true false r m = refl
      off false y r m = refl

      quiet : (k : ℕ) → v.store a k ≡ bump ((eqb a s && eqb c 1) && (T.writes t k && T.holds s k)) (v.store a k) (T.gives t k)
      quiet k = rw (off (eqb a s) (eqb c 1) (T.writes t k && T.holds s k) (λ q. n (eqb-true a s q.0, eqb-true c 1 q.1)))

  -- t commits at s: it stands above all that s has committed, and just after it is the new top
  moved : c ≡ 1 → Site T (close_v T v s t c) s
  unfolding close_v
  moved d = record {
    top = suc (v.order.place t);
    anchor = λ _. (t, g.here, omega arith);
    above = λ u e. elim (fresh s u e) [ inl y ↦ omega (arith, (i.site s).above u y, low) | inr q ↦ rw q.1 (omega arith) ];
    below = below;
    content = content;
  }
    where
      placed : 0 < v.order.place t
      placed = i.delivered_placed s t g.here

      low : (i.site s).top ≤ v.order.place t
      low = top_low T fit v i s t (i.delivered_concerns s t g.here) placed (λ h. omega (arith, g.opened))

      below : (u : ℕ) → T.concerns s u ≡ true → 0 < v.order.place u → v.order.place u < suc (v.order.place t) → 0 < cl s u
      below u h p l = elim (same (v.order.place u) (v.order.place t)) [
        | inl e ↦ rw (one_place T fit v i t u placed e, at2_same v.closed s t c) g.positive
        | inr n ↦ elim (same (v.closed s u) 0) [
          | inl e ↦ absurd (omega (arith, g.head d u (i.in_order s t u g.here h p (omega arith)) e))
          | inr m ↦ omega (arith, keep s u (omega arith))
        ]
      ]

      lower : (u : ℕ) → v.order.place u < v.order.place t → there cl s u ≡ there v.closed s u
      lower u l = elim (look2 v.closed s t c s u) [
        | inl q ↦ absurd (omega (arith, ap v.order.place q.1))
        | inr q ↦ ap (λ x. eqb x 1) q.1
      ]

      content : (k : ℕ) → T.holds s k ≡ true
          → one_copy T v.order (there cl s) (suc (v.order.place t)) k
          ≡ bump ((eqb s s && eqb c 1) && (T.writes t k && T.holds s k)) (v.store s k) (T.gives t k)
      content k h =
          copy_at T v.order k (there cl s) t (i.at_place t placed) (eq-eqb (cl s t) 1 (at2_same v.closed s t c ∙ d))
          ∙ rw (before, eq-eqb s s refl, eq-eqb c 1 d, h, and_unit (T.writes t k))
        where
          before : one_copy T v.order (there cl s) (v.order.place t) k ≡ v.store s k
          before =
              copy_ext T v.order k (there cl s) (there v.closed s) (v.order.place t) (λ u l _. lower u l)
              ∙ stored T fit v i s k (v.order.place t) h low

  pub close_inv : Inv T (close_v T v s t c)
  unfolding close_v
  close_inv = record {
    at_place = i.at_place;
    placed_recorded = i.placed_recorded;
    delivered_placed = i.delivered_placed;
    delivered_concerns = i.delivered_concerns;
    closed_delivered = λ a b h. elim (look2 v.closed s t c a b) [
      | inl q ↦ rw (q.0, q.1) g.here
      | inr q ↦ i.closed_delivered a b (omega (arith, q.1))
    ];
    cast_delivered = i.cast_delivered;
    held_cast = i.held_cast;
    in_order = i.in_order;
    vote = λ a b k h r q. seal a k (v.order.place b) (i.vote a b k h r q);
    vote_yes = λ a b k e r q. i.vote_yes a b k e r q ∙ sym (voted a b k (omega arith) r q);
    vote_no = λ a b h. let (k, r, q, n) = i.vote_no a b h in (k, r, q, λ e. n (e ∙ voted a b k (omega arith) r q));
    commit = λ a b k e r. elim (fresh a b e) [
      | inl y ↦ i.commit a b k y r
      | inr q ↦ rw q.1 (let (f, hf, hk) = g.covered q.2 k (rw q.1 at r) in (f, hk, g.all_yes q.2 f hf))
    ];
    abort = λ a b h. elim (look2 v.closed s t c a b) [
      | inl q ↦ rw q.1 (let (f, hf, n) = g.one_no (omega (arith, q.2)) in (f, n))
      | inr q ↦ i.abort a b (omega (arith, q.1))
    ];
    site = λ a. elim (same a s) [
      | inl e ↦ elim (same c 1) [ inl d ↦ rw e (moved d) | inr n ↦ still a (λ q. n q.1) ]
      | inr n ↦ still a (λ q. n q.0)
    ];
    origin = λ a k h. let o = i.origin a k h in
        keep_origin T v (close_v T v s t c) a k o (seal o.site k o.upto o.sealed) (stable o.site k o.upto o.sealed) refl;
  }
    where
      -- where a vote was cast the single copy stays as it was
      voted : (a b k : ℕ) → 0 < v.cast a b → T.reads b k ≡ true → T.holds a k ≡ true
          → (one_copy T v.order (committed T.sites cl) (v.order.place b) k).0 ≡ (single T v (v.order.place b) k).0
      voted a b k h r q = ap (λ x. x.0) (stable a k (v.order.place b) (i.vote a b k h r q))
