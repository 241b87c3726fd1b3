-- DELIVER and CARRY keep what holds.
-- Assumes nothing.
use mathlib.Core.Path.{◌≡◌, refl, sym, ap, ◌∙◌}
use mathlib.Core.Bool.{Bool, true}
use mathlib.Core.Logic.{inl, inr}
use Prim.Native.Nat.{ℕ, ◌≤◌, ◌<◌}
use native.Mathlib.Omega.{arith}
use lib.Dec.{ltb}
use borrow.Author.Tests.{ltb-true}
use Rattle.bounded.proofs.Truth.{clash, same}
use Rattle.onecopy.specs.Copy.{Table}
use Rattle.onecopy.specs.View.{View, single}
use Rattle.onecopy.proofs.Base.{at2, at2_same, look2, look3}
use Rattle.onecopy.proofs.Inv.{Fit, Shut, Sealed, Inv, local, top_low, stored, still_sealed, still_site, still_origin}
use Rattle.onecopy.proofs.Deliver.{deliver_v, carry_v, Delivers}

module _ (T : Table) (fit : Fit T) (v : View) (i : Inv T v) (s t c : ℕ) (g : Delivers T v s t c) where
  abbrev dl : ℕ → ℕ → Bool
  dl = at2 v.delivered s t true

  abbrev ct : ℕ → ℕ → ℕ
  ct = at2 v.cast s t c

  -- what is read here is settled here: each lower writer is closed
  settled : (k : ℕ) → T.reads t k ≡ true → T.holds s k ≡ true → Shut T v s k (v.order.place t)
  settled k r h u w p l = elim (same (v.closed s u) 0) [
    | inl e ↦ absurd (g.ready.clear u k (g.ready.next u (fit.writer s u k w h) p l) e w r h)
    | inr n ↦ omega arith
  ]

  -- the store that the vote looks at is the single copy just before t's place
  pub certify : (k : ℕ) → T.reads t k ≡ true → T.holds s k ≡ true → single T v (v.order.place t) k ≡ v.store s k
  certify k r h =
      local T fit v i s k (v.order.place t) (settled k r h)
      ∙ stored T fit v i s k (v.order.place t) h
      (top_low T fit v i s t g.ready.concerned g.ready.placed (λ o. clash (i.closed_delivered s t o) g.ready.fresh))

  more : (a b : ℕ) → v.delivered a b ≡ true → dl a b ≡ true
  more a b h = elim (look2 v.delivered s t true a b) [ inl q ↦ q.2 | inr q ↦ q.1 ∙ h ]

  keep : (a b : ℕ) → 0 < v.cast a b → ct a b ≡ v.cast a b
  keep a b h = elim (look2 v.cast s t c a b) [
    | inl q ↦ clash (rw (q.0, q.1) at (i.cast_delivered a b h)) g.ready.fresh
    | inr q ↦ q.1
  ]

  pub seal : (f k p : ℕ) → Sealed T v f k p → Sealed T (deliver_v v s t c) f k p
  unfolding deliver_v
  seal = still_sealed T v (deliver_v v s t c) refl refl more

  pub deliver_inv : Inv T (deliver_v v s t c)
  unfolding deliver_v
  deliver_inv = record {
    at_place = i.at_place;
    placed_recorded = i.placed_recorded;
    delivered_placed = λ a b h. elim (look2 v.delivered s t true a b) [
      | inl q ↦ rw q.1 g.ready.placed
      | inr q ↦ i.delivered_placed a b (sym q.1 ∙ h)
    ];
    delivered_concerns = λ a b h. elim (look2 v.delivered s t true a b) [
      | inl q ↦ rw (q.0, q.1) g.ready.concerned
      | inr q ↦ i.delivered_concerns a b (sym q.1 ∙ h)
    ];
    closed_delivered = λ a b h. more a b (i.closed_delivered a b h);
    cast_delivered = λ a b h. elim (look2 v.cast s t c a b) [
      | inl q ↦ rw (q.0, q.1) (at2_same v.delivered s t true)
      | inr q ↦ more a b (i.cast_delivered a b (omega (arith, q.1)))
    ];
    held_cast = λ b f a h. elim (look3 v.held t s s (ltb 0 c) b f a) [
      | inl q ↦ rw (q.0, q.1, at2_same v.cast s t c) (ltb-true 0 c (sym q.3 ∙ h))
      | inr e ↦ let p = i.held_cast b f a (sym e ∙ h) in omega (arith, keep f b p)
    ];
    in_order = λ a b u h n p l. elim (look2 v.delivered s t true a b) [
      | inl q ↦ more a u (rw q.0 (g.ready.next u (rw q.0 at n) p (rw q.1 at l)))
      | inr q ↦ more a u (i.in_order a b u (sym q.1 ∙ h) n p l)
    ];
    vote = vote;
    vote_yes = vote_yes;
    vote_no = vote_no;
    commit = λ a b k e r. let (f, h, y) = i.commit a b k e r in (f, h, keep f b (omega arith) ∙ y);
    abort = λ a b h. let (f, n) = i.abort a b h in (f, omega (arith, keep f b (omega arith)));
    site = λ a. still_site T v (deliver_v v s t c) refl refl more refl a (i.site a);
    origin = λ a k h. still_origin T v (deliver_v v s t c) refl refl more refl a k (i.origin a k h);
  }
    where
      vote : (a b k : ℕ) → 0 < ct a b → T.reads b k ≡ true → T.holds a k ≡ true → Sealed T (deliver_v v s t c) a k (v.order.place b)
      vote a b k h r q = elim (look2 v.cast s t c a b) [
        | inl e ↦ rw (e.0, e.1) (record {
          anchor = λ _. (t, at2_same v.delivered s t true, omega arith);
          shut = settled k (rw e.1 at r) (rw e.0 at q);
        })
        | inr e ↦ seal a k (v.order.place b) (i.vote a b k (omega (arith, e.1)) r q)
      ]

      vote_yes : (a b k : ℕ) → ct a b ≡ 1 → T.reads b k ≡ true → T.holds a k ≡ true → (v.seen b k).0 ≡ (single T v (v.order.place b) k).0
      vote_yes a b k h r q = elim (look2 v.cast s t c a b) [
        | inl e ↦
            let r' : T.reads t k ≡ true = rw e.1 at r in
            let q' : T.holds s k ≡ true = rw e.0 at q in
            rw e.1 (g.says_yes (sym e.2 ∙ h) k r' q' ∙ sym (ap (λ x. x.0) (certify k r' q')))
        | inr e ↦ i.vote_yes a b k (sym e.1 ∙ h) r q
      ]

      vote_no : (a b : ℕ) → 2 ≤ ct a b → (k : ℕ) × (T.reads b k ≡ true) × (T.holds a k ≡ true)
          × ((v.seen b k).0 ≡ (single T v (v.order.place b) k).0 → ⊥)
      vote_no a b h = elim (look2 v.cast s t c a b) [
        | inl e ↦ rw (e.0, e.1) (
            let (k, r, q, n) = g.says_no (omega (arith, e.2)) in (k, r, q, λ d. n (d ∙ ap (λ x. x.0) (certify k r q))))
        | inr e ↦ i.vote_no a b (omega (arith, e.1))
      ]

pub carry_inv : (T : Table) (v : View) (i : Inv T v) (t f a : ℕ) → 0 < v.cast f t → Inv T (carry_v v t f a)
unfolding carry_v
carry_inv T v i t f a g = record {
  at_place = i.at_place;
  placed_recorded = i.placed_recorded;
  delivered_placed = i.delivered_placed;
  delivered_concerns = i.delivered_concerns;
  closed_delivered = i.closed_delivered;
  cast_delivered = i.cast_delivered;
  held_cast = λ b r q h. elim (look3 v.held t f a true b r q) [ inl e ↦ rw (e.0, e.1) g | inr e ↦ i.held_cast b r q (sym e ∙ h) ];
  in_order = i.in_order;
  vote = λ b r k h d q. still_sealed T v (carry_v v t f a) refl refl (λ _ _ x. x) b k (v.order.place r) (i.vote b r k h d q);
  vote_yes = i.vote_yes;
  vote_no = i.vote_no;
  commit = i.commit;
  abort = i.abort;
  site = λ b. still_site T v (carry_v v t f a) refl refl (λ _ _ x. x) refl b (i.site b);
  origin = λ b k h. still_origin T v (carry_v v t f a) refl refl (λ _ _ x. x) refl b k (i.origin b k h);
}
