-- Certification from the list of what a transaction reads: no where a key held has another version than the recorded one, else yes where one is held.
-- Assumes nothing.
use mathlib.Core.Path.{◌≡◌, sym, subst}
use mathlib.Core.Bool.{Bool, true, false, ◌&&◌, not, cond}
use mathlib.Core.Logic.{inl, inr}
use Prim.Native.Nat.{ℕ, ◌≤◌, ◌<◌}
use native.Mathlib.Omega.{arith}
use lib.Dec.{eqb}
use borrow.Author.Tests.{eqb-false, ne_eqb, not-true}
use Rattle.bounded.specs.Bounded.{any_below, least_below}
use Rattle.bounded.proofs.Truth.{and-true, bool, same}
use Rattle.bounded.proofs.Laws.{any_get, any_put}
use Rattle.onecopy.specs.Copy.{Table}
use Rattle.onecopy.proofs.Rules.{Certify}

-- what each transaction reads, as a list
pub record Listed (T : Table) : Type 0 where
  pub size : ℕ → ℕ
  pub key : ℕ → ℕ → ℕ
  pub in_list : (t k : ℕ) → T.reads t k ≡ true → (i : ℕ) × (i < size t) × (key t i ≡ k)
  pub in-reads : (t i : ℕ) → i < size t → T.reads t (key t i) ≡ true

module _ (T : Table) (L : Listed T) where
  -- some key that t reads passes
  abbrev pub some : ℕ → (ℕ → Bool) → Bool
  some t p = any_below (L.size t) (λ i. p (L.key t i))

  pub some_put : (t k : ℕ) (p : ℕ → Bool) → T.reads t k ≡ true → p k ≡ true → some t p ≡ true
  some_put t k p r h = let (i, l, d) = L.in_list t k r in any_put (L.size t) (λ i. p (L.key t i)) i l (subst (λ j. p j ≡ true) (sym d) h)

  pub some-get : (t : ℕ) (p : ℕ → Bool) → some t p ≡ true → (k : ℕ) × (T.reads t k ≡ true) × (p k ≡ true)
  some-get t p e = let (i, l, h) = any_get (L.size t) (λ i. p (L.key t i)) e in (L.key t i, L.in-reads t i l, h)

  module _ (code : ℕ → ℕ → ℕ) (no_code : (t i : ℕ) → 2 ≤ code t i) where
    -- s holds k in another version than the recorded one
    abbrev stale : (ℕ → ℕ × ℕ) → (ℕ → ℕ × ℕ) → ℕ → ℕ → Bool
    stale x y s k = T.holds s k && not (eqb (x k).0 (y k).0)

    abbrev naming : (ℕ → ℕ × ℕ) → (ℕ → ℕ × ℕ) → ℕ → ℕ → ℕ
    naming x y s t = code t (least_below (L.size t) (λ i. stale x y s (L.key t i)) 0)

    unfoldable pub vote_l : (ℕ → ℕ × ℕ) → (ℕ → ℕ × ℕ) → ℕ → ℕ → ℕ
    vote_l x y s t = cond (some t (stale x y s)) (naming x y s t) (cond (some t (T.holds s)) 1 0)

    -- the base rule has the code 2 for each no
    unfoldable pub by_list : Certify T
    unfolding vote_l
    by_list = record {
      vote = vote_l;
      says = λ x y s t k r h. elim (bool (some t (stale x y s))) [
        | inl e ↦ rw e (omega (arith, no_code t (least_below (L.size t) (λ i. stale x y s (L.key t i)) 0)))
        | inr e ↦ rw (e, some_put t k (T.holds s) r h) (omega arith)
      ];
      seat = λ x y s t h. elim (bool (some t (stale x y s))) [
        | inl q ↦ let (k, r, a, b) = got x y s t q in (k, r, a)
        | inr q ↦ elim (bool (some t (T.holds s))) [ inl e ↦ some-get t (T.holds s) e | inr e ↦ absurd (let z : 0 < 0 = rw (q, e) at h in omega arith) ]
      ];
      yes = λ x y s t e k r h. elim (same (x k).0 (y k).0) [
        | inl q ↦ q
        | inr q ↦ absurd (
            let z : naming x y s t ≡ 1 = rw (some_put t k (stale x y s) r (rw (h, ne_eqb (x k).0 (y k).0 q))) at e in
            omega (arith, no_code t (least_below (L.size t) (λ i. stale x y s (L.key t i)) 0)))
      ];
      no = λ x y s t h. elim (bool (some t (stale x y s))) [ inl q ↦ got x y s t q | inr q ↦ absurd (small (some t (T.holds s)) (rw q at h)) ];
    }
      where
        small : (b : Bool) → 2 ≤ cond b 1 0 → ⊥
        small true h = omega arith
        small false h = omega arith

        got : (x y : ℕ → ℕ × ℕ) (s t : ℕ) → some t (stale x y s) ≡ true → (k : ℕ) × (T.reads t k ≡ true) × (T.holds s k ≡ true) × ((x k).0 ≡ (y k).0 → ⊥)
        got x y s t q =
            let (k, r, z) = some-get t (stale x y s) q in
            let (a, b) = and-true (T.holds s k) (not (eqb (x k).0 (y k).0)) z in
            (k, r, a, eqb-false (x k).0 (y k).0 (not-true (eqb (x k).0 (y k).0) b))
