-- A transaction gets its place: this keeps what holds, for any order that all sites obey.
-- Assumes nothing.
use mathlib.Core.Path.{◌≡◌, refl, sym, ap, ◌∙◌}
use mathlib.Core.Bool.{Bool, true, false}
use mathlib.Core.Logic.{inl, inr}
use Prim.Native.Nat.{ℕ, zero, suc, ◌≤◌, ◌<◌}
use native.Mathlib.Omega.{arith}
use borrow.Author.Tests.{ne_eqb}
use Rattle.bounded.proofs.Truth.{bool, same}
use Rattle.onecopy.specs.Copy.{Table, Order, bump, run, chosen, one_copy}
use Rattle.onecopy.specs.View.{View, there, committed, single}
use Rattle.onecopy.proofs.Run.{hit, copy_up}
use Rattle.onecopy.proofs.Base.{at1, at1_same, at1_other, look1}
use Rattle.onecopy.proofs.Copy.{hit_none}
use Rattle.onecopy.proofs.Inv.{Fit, Anchor, Sealed, Site, Inv, closed_placed, cast_placed, committed_get, keep_origin}
use Rattle.onecopy.proofs.Place.{place_o, place_v, Places}

module _ (T : Table) (fit : Fit T) (v : View) (i : Inv T v) (t p : ℕ) (g : Places T v t p) where
  abbrev pl : ℕ → ℕ
  pl = at1 v.order.place t p

  abbrev o' : Order
  o' = place_o v.order t p

  keep : (u : ℕ) → 0 < v.order.place u → pl u ≡ v.order.place u
  keep u h = elim (look1 v.order.place t p u) [
    | inl q ↦ absurd (omega (arith, ap v.order.place q.0, g.fresh))
    | inr q ↦ q.1
  ]

  -- a set without t has the same copy
  step : (c : ℕ → Bool) (k q : ℕ) (x y : ℕ × ℕ) → c t ≡ false → x ≡ y
      → bump (hit T o' c q k) x (T.gives (o'.at q) k) ≡ bump (hit T v.order c q k) y (T.gives (v.order.at q) k)
  step c k q x y n e = elim (look1 v.order.at p t q) [
    | inl a ↦ rw (hit_none T o' k c q (λ _ _. ap c a.1 ∙ n), hit_none T v.order k c q (λ b _. absurd (g.free (v.order.at q) (b ∙ a.0)))) e
    | inr a ↦ elim (same (v.order.at q) t) [
      | inl d ↦ rw (hit_none T o' k c q (λ _ _. ap c (a.1 ∙ d) ∙ n), hit_none T v.order k c q (λ _ _. ap c d ∙ n)) e
      | inr d ↦ rw (a.1, at1_other v.order.place t p (v.order.at q) d, e)
    ]
  ]

  pub alike : (c : ℕ → Bool) → c t ≡ false → (k q : ℕ) → one_copy T o' c q k ≡ one_copy T v.order c q k
  unfolding run chosen
  alike c n k zero = refl
  alike c n k (suc q) =
      copy_up T o' c q k
      ∙ step c k q (one_copy T o' c q k) (one_copy T v.order c q k) n (alike c n k q)
      ∙ sym (copy_up T v.order c q k)

  open-here : (s : ℕ) → v.closed s t ≡ 1 → ⊥
  open-here s e = omega (arith, closed_placed T fit v i s t (omega arith), g.fresh)

  -- t is not committed, so the single copy stays as it was
  pub out : committed T.sites v.closed t ≡ false
  out = elim (bool (committed T.sites v.closed t)) [
    | inl e ↦ absurd (let (s, h) = committed_get T fit v i t e in open-here s h)
    | inr e ↦ e
  ]

  anchored : (s q : ℕ) → Anchor v s q → Anchor (place_v v t p) s q
  unfolding place_v
  anchored s q f l = let (u, d, h) = f l in (u, d, omega (arith, keep u (i.delivered_placed s u d)))

  -- t stands above all that a site of R(t) has sealed
  over : (s q : ℕ) → Anchor v s q → T.concerns s t ≡ true → q ≤ p
  over s q f n = elim (same q 0) [ inl e ↦ omega arith | inr m ↦ let (u, d, h) = f (omega arith) in omega (arith, g.late s u d n) ]

  pub seal : (f k q : ℕ) → T.holds f k ≡ true → Sealed T v f k q → Sealed T (place_v v t p) f k q
  unfolding place_v
  seal f k q h z = record {
    anchor = anchored f q z.anchor;
    shut = λ u w a l. elim (look1 v.order.place t p u) [
      | inl e ↦ absurd (omega (arith, e.1, over f q z.anchor (fit.writer f t k (rw e.0 at w) h)))
      | inr e ↦ z.shut u w (omega (arith, e.1)) (omega (arith, e.1))
    ];
  }

  pub place_inv : Inv T (place_v v t p)
  unfolding place_v
  place_inv = record {
    at_place = at_place;
    placed_recorded = λ u k a r. elim (look1 v.order.place t p u) [
      | inl e ↦ rw e.0 (g.ready k (rw e.0 at r))
      | inr e ↦ i.placed_recorded u k (omega (arith, e.1)) r
    ];
    delivered_placed = λ s u d. let h : 0 < v.order.place u = i.delivered_placed s u d in omega (arith, keep u h);
    delivered_concerns = i.delivered_concerns;
    closed_delivered = i.closed_delivered;
    cast_delivered = i.cast_delivered;
    held_cast = i.held_cast;
    in_order = in_order;
    vote = λ s b k h r q. rw (keep b (cast_placed T fit v i s b h)) (seal s k (v.order.place b) q (i.vote s b k h r q));
    vote_yes = λ s b k h r q. i.vote_yes s b k h r q ∙ sym (single_same s b k (omega arith));
    vote_no = λ s b h. let (k, r, q, n) = i.vote_no s b h in (k, r, q, λ e. n (e ∙ single_same s b k (omega arith)));
    commit = i.commit;
    abort = i.abort;
    site = site;
    origin = λ b k h. let o = i.origin b k h in
        keep_origin T v (place_v v t p) b k o (seal o.site k o.upto o.holder o.sealed) (alike (committed T.sites v.closed) out k o.upto) refl;
  }
    where
      at_place : (u : ℕ) → 0 < pl u → at1 v.order.at p t (pl u) ≡ u
      at_place u h = elim (look1 v.order.place t p u) [
        | inl e ↦ rw (e.1, at1_same v.order.at p t, e.0)
        | inr e ↦ rw e.1 (at1_other v.order.at p t (v.order.place u) (g.free u) ∙ i.at_place u (omega (arith, e.1)))
      ]

      in_order : (s b u : ℕ) → v.delivered s b ≡ true → T.concerns s u ≡ true → 0 < pl u → pl u < pl b → v.delivered s u ≡ true
      in_order s b u d n a l =
          let pb : 0 < v.order.place b = i.delivered_placed s b d in
          elim (look1 v.order.place t p u) [
            | inl e ↦ absurd (omega (arith, e.1, keep b pb, g.late s b d (rw e.0 at n)))
            | inr e ↦ i.in_order s b u d n (omega (arith, e.1)) (omega (arith, e.1, keep b pb))
          ]

      single_same : (s b k : ℕ) → 0 < v.cast s b
          → (one_copy T o' (committed T.sites v.closed) (pl b) k).0 ≡ (single T v (v.order.place b) k).0
      single_same s b k h = rw (keep b (cast_placed T fit v i s b h)) (ap (λ x. x.0) (alike (committed T.sites v.closed) out k (v.order.place b)))

      site : (s : ℕ) → Site T (place_v v t p) s
      site s = let z = i.site s in record {
        top = z.top;
        anchor = anchored s z.top z.anchor;
        above = λ u e. omega (arith, z.above u e, keep u (closed_placed T fit v i s u (omega arith)));
        below = λ u n a l. elim (look1 v.order.place t p u) [
          | inl e ↦ absurd (omega (arith, e.1, over s z.top z.anchor (rw e.0 at n)))
          | inr e ↦ z.below u n (omega (arith, e.1)) (omega (arith, e.1))
        ];
        content = λ k h. alike (there v.closed s) (ne_eqb (v.closed s t) 1 (open-here s)) k z.top ∙ z.content k h;
      }
