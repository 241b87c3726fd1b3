-- What stands in an array made by a closure that stays as it is.
-- Assumes nothing.
use Rattle.std.proofs.Common.{ℕ, zero, suc, ◌+◌, ◌<◌, ◌≤◌, ◌≡◌, refl, List, get_or, inl, inr, arith}
use Rattle.std.specs.Array.{IsFromFnResult, IsFromFnResultFrom}
use Rattle.std.specs.Fn.{Called}
use denote.Param.Members.{Mut}
use Rattle.bounded.proofs.Truth.{same}

module _ {F B : Type 0} (g : Mut F (ℕ × Unit {0}) B) (f : F) (P : ℕ → B → Type 0) (gives : (x : ℕ) (y : B) (q : F) → Called g f (x, tt) y q → (q ≡ f) × P x y) where
  -- the elements from i on
  each : (m i : ℕ) (p : F) (ys : List B) → p ≡ f → IsFromFnResultFrom g p ys i m → (j : ℕ) (d : B) → i ≤ j → j < i + m → P j (get_or ys j d)
  each zero i p ys e r j d a b = absurd (omega arith)
  each (suc m) i p ys e (q, y, at, call, more) j d a b =
      let (s, t) = gives i y q (rw e at call) in
      elim (same j i) [ inl h ↦ rw (h, at.1 d) t | inr h ↦ each m (i + 1) q ys s more j d (omega arith) (omega arith) ]

  -- each element is as the closure gives it
  pub made : (ys : List B) (n : ℕ) → IsFromFnResult g f ys n → (i : ℕ) (d : B) → i < n → P i (get_or ys i d)
  made ys n r i d l = each n 0 f ys refl r.each i d (omega arith) (omega arith)
