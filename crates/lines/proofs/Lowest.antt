-- The first of f 0, f 1, .. below n that is not 0 is that of the lowest number whose value is not 0.
-- Assumes nothing.
use Rattle.std.proofs.Common.{◌≡◌, ℕ, zero, suc, ◌+◌, ◌≤◌, ◌<◌, not, cond, inl, inr, map, refl, arith, eqb, ltb, eqb-true, lt-ltb, le-ltb, zero-add}
use borrow.Author.Tests.{eqb-false}
use Rattle.std.specs.List.{find, range_with_len}
use Rattle.std.specs.Option.{unwrap_or}
use Rattle.bounded.specs.Bounded.{first_below, least_below}
use Rattle.bounded.proofs.Truth.{bool}
use Rattle.bounded.proofs.Laws.{least_up, least_stop}

-- below a it is 0 everywhere
lowest_from : (f : ℕ → ℕ) (n a d : ℕ) → a + n ≤ d → least_below a (λ s. ltb 0 (f s)) d ≡ d
    → unwrap_or (find (λ v. not (eqb v 0)) (map f (range_with_len a n))) 0 ≡ (let s = least_below (a + n) (λ s. ltb 0 (f s)) d in cond (ltb s d) (f s) 0)
lowest_from f zero a d l e = let z : a + 0 ≡ a = omega arith in rw (z, e, le-ltb d d (omega arith))
lowest_from f (suc n) a d l e = elim (bool (eqb (f a) 0)) [
  | inl q ↦
      let z : a + suc n ≡ a + 1 + n = omega arith in
      rw (q, z) (lowest_from f n (a + 1) d (omega arith) (least_up a (λ s. ltb 0 (f s)) d e (le-ltb 0 (f a) (omega (arith, eqb-true (f a) 0 q)))))
  | inr q ↦
      let p : 0 < f a = omega (arith, eqb-false (f a) 0 q) in
      rw (q, least_stop (a + suc n) a (λ s. ltb 0 (f s)) d (omega arith) l e (lt-ltb 0 (f a) p), lt-ltb a d (omega arith))
]

pub lowest : (f : ℕ → ℕ) (n d : ℕ) → n ≤ d
    → unwrap_or (find (λ v. not (eqb v 0)) (map f (range_with_len 0 n))) 0 ≡ (let s = least_below n (λ s. ltb 0 (f s)) d in cond (ltb s d) (f s) 0)
unfolding first_below
lowest f n d l = rw zero-add at (lowest_from f n 0 d (omega arith) refl)
