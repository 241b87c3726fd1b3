-- What holds of every view reached from a fresh one, and what follows from it at once.
-- Assumes nothing.
use mathlib.Core.Path.{◌≡◌, sym, ◌∙◌}
use mathlib.Core.Bool.{true}
use mathlib.Core.Logic.{inl, inr}
use Prim.Native.Nat.{ℕ, suc, ◌≤◌, ◌<◌}
use native.Mathlib.Omega.{arith}
use borrow.Author.Tests.{eqb-true, eq-eqb, ne_eqb}
use Rattle.bounded.proofs.Truth.{same, iff_eq}
use Rattle.bounded.proofs.Laws.{any_put, any_get}
use Rattle.onecopy.specs.Copy.{Table, one_copy}
use Rattle.onecopy.specs.View.{View, there, committed, single}
use Rattle.onecopy.proofs.Base.{less}
use Rattle.onecopy.proofs.Copy.{copy_ext, copy_gap}

-- the tables fit: who holds a key that u writes is in R(u), and R(u) are sites
pub record Fit (T : Table) : Type 0 where
  pub writer : (s u k : ℕ) → T.writes u k ≡ true → T.holds s k ≡ true → T.concerns s u ≡ true
  pub known : (s u : ℕ) → T.concerns s u ≡ true → s < T.sites

-- at s each writer of k with a place below p is closed
abbrev pub Shut : Table → View → ℕ → ℕ → ℕ → Type 0
Shut T v s k p = (u : ℕ) → T.writes u k ≡ true → 0 < v.order.place u → v.order.place u < p → 0 < v.closed s u

-- p is not past what s has delivered
abbrev pub Anchor : View → ℕ → ℕ → Type 0
Anchor v s p = 0 < p → (u : ℕ) × (v.delivered s u ≡ true) × (p ≤ suc (v.order.place u))

-- at s what the single copy holds of k just before place p is settled
pub record Sealed (T : Table) (v : View) (s k p : ℕ) : Type 0 where
  pub anchor : Anchor v s p
  pub shut : Shut T v s k p

-- a site's store is the copy of what it committed, all below `top`, and what concerns it below `top` is closed
pub record Site (T : Table) (v : View) (s : ℕ) : Type 0 where
  pub top : ℕ
  pub anchor : Anchor v s top
  pub above : (u : ℕ) → v.closed s u ≡ 1 → v.order.place u < top
  pub below : (u : ℕ) → T.concerns s u ≡ true → 0 < v.order.place u → v.order.place u < top → 0 < v.closed s u
  pub content : (k : ℕ) → T.holds s k ≡ true → one_copy T v.order (there v.closed s) top k ≡ v.store s k

-- where t's read of k comes from: the single copy just before some place, settled at a site that holds k
pub record Origin (T : Table) (v : View) (t k : ℕ) : Type 0 where
  pub site : ℕ
  pub upto : ℕ
  pub holder : T.holds site k ≡ true
  pub sealed : Sealed T v site k upto
  pub is : single T v upto k ≡ v.seen t k

-- what holds of every view reached
pub record Inv (T : Table) (v : View) : Type 0 where
  -- no two have one place, and who has a place has all its reads recorded
  pub at_place : (t : ℕ) → 0 < v.order.place t → v.order.at (v.order.place t) ≡ t
  pub placed_recorded : (t k : ℕ) → 0 < v.order.place t → T.reads t k ≡ true → v.recorded t k ≡ true
  -- a site delivers what has a place and concerns it, in the order of places; it closes and votes on what it delivered, and a vote held was cast
  pub delivered_placed : (s t : ℕ) → v.delivered s t ≡ true → 0 < v.order.place t
  pub delivered_concerns : (s t : ℕ) → v.delivered s t ≡ true → T.concerns s t ≡ true
  pub closed_delivered : (s t : ℕ) → 0 < v.closed s t → v.delivered s t ≡ true
  pub cast_delivered : (s t : ℕ) → 0 < v.cast s t → v.delivered s t ≡ true
  pub held_cast : (t f a : ℕ) → v.held t f a ≡ true → 0 < v.cast f t
  pub in_order : (s t u : ℕ) → v.delivered s t ≡ true → T.concerns s u ≡ true → 0 < v.order.place u
      → v.order.place u < v.order.place t → v.delivered s u ≡ true
  -- a vote looks at what is settled: yes where the recorded versions are those of the single copy, no where one is not
  pub vote : (s t k : ℕ) → 0 < v.cast s t → T.reads t k ≡ true → T.holds s k ≡ true → Sealed T v s k (v.order.place t)
  pub vote_yes : (s t k : ℕ) → v.cast s t ≡ 1 → T.reads t k ≡ true → T.holds s k ≡ true
      → (v.seen t k).0 ≡ (single T v (v.order.place t) k).0
  pub vote_no : (s t : ℕ) → 2 ≤ v.cast s t → (k : ℕ) × (T.reads t k ≡ true) × (T.holds s k ≡ true)
      × ((v.seen t k).0 ≡ (single T v (v.order.place t) k).0 → ⊥)
  -- what commits has a yes for each key it reads, what aborts has a no
  pub commit : (s t k : ℕ) → v.closed s t ≡ 1 → T.reads t k ≡ true → (f : ℕ) × (T.holds f k ≡ true) × (v.cast f t ≡ 1)
  pub abort : (s t : ℕ) → 2 ≤ v.closed s t → (f : ℕ) × (2 ≤ v.cast f t)
  -- the stores, and the recorded reads
  pub site : (s : ℕ) → Site T v s
  pub origin : (t k : ℕ) → v.recorded t k ≡ true → Origin T v t k

module _ (T : Table) (fit : Fit T) (v : View) (i : Inv T v) where
  -- nothing commits at one site and aborts at another
  pub agree : (s r t : ℕ) → v.closed s t ≡ 1 → 2 ≤ v.closed r t → ⊥
  agree s r t a b =
      let (f, c) = i.abort r t b in
      let (k, rd, h, n) = i.vote_no f t c in
      let (g, hg, y) = i.commit s t k a rd in
      n (i.vote_yes g t k y rd hg)

  pub closed_site : (s t : ℕ) → 0 < v.closed s t → s < T.sites
  closed_site s t h = fit.known s t (i.delivered_concerns s t (i.closed_delivered s t h))

  pub closed_placed : (s t : ℕ) → 0 < v.closed s t → 0 < v.order.place t
  closed_placed s t h = i.delivered_placed s t (i.closed_delivered s t h)

  pub cast_site : (s t : ℕ) → 0 < v.cast s t → s < T.sites
  cast_site s t h = fit.known s t (i.delivered_concerns s t (i.cast_delivered s t h))

  pub cast_placed : (s t : ℕ) → 0 < v.cast s t → 0 < v.order.place t
  cast_placed s t h = i.delivered_placed s t (i.cast_delivered s t h)

  -- no two have one place
  pub one_place : (t u : ℕ) → 0 < v.order.place t → v.order.place u ≡ v.order.place t → u ≡ t
  one_place t u h e = let a : v.order.at (v.order.place u) ≡ u = i.at_place u (omega arith) in cc (a, e, i.at_place t h)

  pub committed_put : (s t : ℕ) → v.closed s t ≡ 1 → committed T.sites v.closed t ≡ true
  committed_put s t e = any_put T.sites _ s (closed_site s t (omega arith)) (eq-eqb (v.closed s t) 1 e)

  pub committed_get : (t : ℕ) → committed T.sites v.closed t ≡ true → (s : ℕ) × (v.closed s t ≡ 1)
  committed_get t e = let (s, l, h) = any_get T.sites (λ s. there v.closed s t) e in (s, eqb-true (v.closed s t) 1 h)

  -- where all writers of k below p are closed at s, the single copy is the copy of what s committed
  pub local : (s k p : ℕ) → Shut T v s k p → single T v p k ≡ one_copy T v.order (there v.closed s) p k
  local s k p shut = copy_ext T v.order k (committed T.sites v.closed) (there v.closed s) p same_set
    where
      same_set : (u : ℕ) → v.order.place u < p → T.writes u k ≡ true → committed T.sites v.closed u ≡ there v.closed s u
      same_set u l w = iff_eq (committed T.sites v.closed u) (there v.closed s u) to (λ e. committed_put s u (eqb-true (v.closed s u) 1 e))
        where
          to : committed T.sites v.closed u ≡ true → there v.closed s u ≡ true
          to e =
              let (r, c) = committed_get u e in
              let h : 0 < v.closed s u = shut u w (closed_placed r u (omega arith)) l in
              elim (same (v.closed s u) 1) [ inl y ↦ eq-eqb (v.closed s u) 1 y | inr n ↦ absurd (agree r s u c (omega arith)) ]

  -- what concerns s and is open there stands at its top or above it
  pub top_low : (s t : ℕ) → T.concerns s t ≡ true → 0 < v.order.place t → (0 < v.closed s t → ⊥) → (i.site s).top ≤ v.order.place t
  top_low s t n a h = elim (less (v.order.place t) (i.site s).top) [ inl l ↦ absurd (h ((i.site s).below t n a l)) | inr l ↦ l ]

  -- from its top on the copy of what s committed is its store
  pub stored : (s k p : ℕ) → T.holds s k ≡ true → (i.site s).top ≤ p → one_copy T v.order (there v.closed s) p k ≡ v.store s k
  stored s k p h l =
      copy_gap T v.order k (there v.closed s) (i.site s).top p l (λ u a _. ne_eqb (v.closed s u) 1 (λ e. absurd (omega (arith, (i.site s).above u e))))
      ∙ (i.site s).content k h

  -- at its top the store of s is settled, and it is what the single copy holds there
  pub top_sealed : (s k : ℕ) → T.holds s k ≡ true → Sealed T v s k (i.site s).top
  top_sealed s k h = record { anchor = (i.site s).anchor; shut = λ u w p l. (i.site s).below u (fit.writer s u k w h) p l }

  pub top_store : (s k : ℕ) → T.holds s k ≡ true → single T v (i.site s).top k ≡ v.store s k
  top_store s k h = local s k (i.site s).top (top_sealed s k h).shut ∙ (i.site s).content k h

-- ---- from one view to the next

-- where it stays settled and the single copy stays what it was there, a read comes from where it came from
pub keep_origin : (T : Table) (v w : View) (t k : ℕ) (o : Origin T v t k) → Sealed T w o.site k o.upto
    → single T w o.upto k ≡ single T v o.upto k → w.seen t k ≡ v.seen t k → Origin T w t k
keep_origin T v w t k o z e d = record { site = o.site; upto = o.upto; holder = o.holder; sealed = z; is = e ∙ o.is ∙ sym d }

-- a step that leaves places, what is closed and the stores, and takes back no delivery, leaves what is settled and what the sites have
module _ (T : Table) (v w : View) (order : w.order ≡ v.order) (closed : w.closed ≡ v.closed) (more : (s u : ℕ) → v.delivered s u ≡ true → w.delivered s u ≡ true) where
  anchored : (s p : ℕ) → Anchor v s p → Anchor w s p
  anchored s p f l = let (u, d, h) = f l in (u, more s u d, rw order h)

  pub still_sealed : (s k p : ℕ) → Sealed T v s k p → Sealed T w s k p
  still_sealed s k p z = record { anchor = anchored s p z.anchor; shut = rw (order, closed) z.shut }

  pub still_site : w.store ≡ v.store → (s : ℕ) → Site T v s → Site T w s
  still_site store s z = record {
    top = z.top;
    anchor = anchored s z.top z.anchor;
    above = rw (order, closed) z.above;
    below = rw (order, closed) z.below;
    content = rw (order, closed, store) z.content;
  }

  pub still_origin : w.seen ≡ v.seen → (t k : ℕ) → Origin T v t k → Origin T w t k
  still_origin seen t k o = keep_origin T v w t k o (still_sealed o.site k o.upto o.sealed) (rw (order, closed)) (rw seen)
