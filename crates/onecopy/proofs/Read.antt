-- READ keeps what holds; so does any step that records, at one site, reads of one transaction.
-- Assumes nothing.
use mathlib.Core.Path.{◌≡◌, refl, sym, ap, ◌∙◌}
use mathlib.Core.Bool.{Bool, true, false, ◌&&◌, cond}
use mathlib.Core.Logic.{◌⊎◌, inl, inr}
use Prim.Native.Nat.{ℕ, ◌<◌}
use native.Mathlib.Omega.{arith}
use lib.Dec.{eqb}
use borrow.Author.Tests.{eqb-true, eq-eqb}
use Rattle.bounded.proofs.Truth.{and-true, and_put, clash}
use Rattle.onecopy.specs.Copy.{Table}
use Rattle.onecopy.specs.View.{View}
use Rattle.onecopy.proofs.Base.{pick}
use Rattle.onecopy.proofs.Inv.{Fit, Sealed, Origin, Inv, cast_placed, top_sealed, top_store, keep_origin, still_sealed, still_site}

-- an update of t's row at the keys of a set
unfoldable pub row : {A : Type 0} → (ℕ → ℕ → A) → ℕ → (ℕ → Bool) → (ℕ → A) → ℕ → ℕ → A
row f t d x a b = cond (eqb a t && d b) (x b) (f a b)

pub look : {A : Type 0} (f : ℕ → ℕ → A) (t : ℕ) (d : ℕ → Bool) (x : ℕ → A) (a b : ℕ)
    → ((a ≡ t) × (d b ≡ true) × (row f t d x a b ≡ x b)) ⊎ (((a ≡ t) × (d b ≡ true) → ⊥) × (row f t d x a b ≡ f a b))
unfolding row
look f t d x a b = elim (pick (eqb a t && d b) (x b) (f a b)) [
  | inl q ↦ let (e, h) = and-true (eqb a t) (d b) q.0 in inl (eqb-true a t e, h, q.1)
  | inr q ↦ inr (λ e. clash (and_put (eqb a t) (d b) (eq-eqb a t e.0) e.1) q.0, q.1)
]

-- t's reads of the keys of d, all from s
unfoldable pub read_v : View → ℕ → (ℕ → Bool) → ℕ → View
read_v v t d s = record {
  order = v.order;
  seen = row v.seen t d (v.store s);
  recorded = row v.recorded t d (λ _. true);
  delivered = v.delivered;
  closed = v.closed;
  cast = v.cast;
  held = v.held;
  store = v.store;
}

-- what READ asks: none of these was recorded before, and s holds them
pub record Reads (T : Table) (v : View) (t : ℕ) (d : ℕ → Bool) (s : ℕ) : Type 0 where
  pub fresh : (k : ℕ) → d k ≡ true → v.recorded t k ≡ false
  pub holder : (k : ℕ) → d k ≡ true → T.holds s k ≡ true

module _ (T : Table) (fit : Fit T) (v : View) (i : Inv T v) (t : ℕ) (d : ℕ → Bool) (s : ℕ) (g : Reads T v t d s) where
  abbrev sn : ℕ → ℕ → ℕ × ℕ
  sn = row v.seen t d (v.store s)

  abbrev rc : ℕ → ℕ → Bool
  rc = row v.recorded t d (λ _. true)

  -- what was recorded stays recorded, and stays as it was
  pub more : (a b : ℕ) → v.recorded a b ≡ true → rc a b ≡ true
  more a b h = elim (look v.recorded t d (λ _. true) a b) [ inl q ↦ q.2 | inr q ↦ q.1 ∙ h ]

  pub keep : (a b : ℕ) → v.recorded a b ≡ true → sn a b ≡ v.seen a b
  keep a b h = elim (look v.seen t d (v.store s) a b) [ inl q ↦ clash (rw q.0 at h) (g.fresh b q.1) | inr q ↦ q.1 ]

  keep_cast : (a b r : ℕ) → 0 < v.cast r a → T.reads a b ≡ true → (sn a b).0 ≡ (v.seen a b).0
  keep_cast a b r h e = ap (λ x. x.0) (keep a b (i.placed_recorded a b (cast_placed T fit v i r a h) e))

  pub seal : (f j p : ℕ) → Sealed T v f j p → Sealed T (read_v v t d s) f j p
  unfolding read_v
  seal = still_sealed T v (read_v v t d s) refl refl (λ _ _ h. h)

  pub read_inv : Inv T (read_v v t d s)
  unfolding read_v
  read_inv = record {
    at_place = i.at_place;
    placed_recorded = λ a b p r. more a b (i.placed_recorded a b p r);
    delivered_placed = i.delivered_placed;
    delivered_concerns = i.delivered_concerns;
    closed_delivered = i.closed_delivered;
    cast_delivered = i.cast_delivered;
    held_cast = i.held_cast;
    in_order = i.in_order;
    vote = λ b r j h e q. seal b j (v.order.place r) (i.vote b r j h e q);
    vote_yes = λ b r j h e q. keep_cast r j b (omega arith) e ∙ i.vote_yes b r j h e q;
    vote_no = λ b r h. let (j, e, q, n) = i.vote_no b r h in (j, e, q, λ x. n (sym (keep_cast r j b (omega arith) e) ∙ x));
    commit = i.commit;
    abort = i.abort;
    site = λ b. still_site T v (read_v v t d s) refl refl (λ _ _ h. h) refl b (i.site b);
    origin = origin;
  }
    where
      taken : (a b : ℕ) → a ≡ t → d b ≡ true → sn a b ≡ v.store s b
      taken a b e y = elim (look v.seen t d (v.store s) a b) [ inl q ↦ q.2 | inr q ↦ absurd (q.0 (e, y)) ]

      origin : (a b : ℕ) → rc a b ≡ true → Origin T (read_v v t d s) a b
      origin a b h = elim (look v.recorded t d (λ _. true) a b) [
        | inl q ↦ let hb = g.holder b q.1 in record {
          site = s;
          upto = (i.site s).top;
          holder = hb;
          sealed = seal s b (i.site s).top (top_sealed T fit v i s b hb);
          is = top_store T fit v i s b hb ∙ sym (taken a b q.0 q.1);
        }
        | inr q ↦
            let r : v.recorded a b ≡ true = sym q.1 ∙ h in
            let o = i.origin a b r in
            keep_origin T v (read_v v t d s) a b o (seal o.site b o.upto o.sealed) refl (keep a b r)
      ]
