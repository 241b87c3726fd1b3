-- A grid kept in one list: its cells, and one of them set.
-- Assumes nothing.
use Prim.Native.Nat.{ℕ, ◌+◌, ◌*◌, ◌≤◌, ◌<◌}
use mathlib.Core.Path.{◌≡◌, refl, ap, ◌∙◌}
use mathlib.Core.Bool.{Bool, true, false, ◌&&◌, cond}
use mathlib.Core.Logic.{inl, inr}
use mathlib.Core.List.{List}
use native.Mathlib.Omega.{arith}
use native.Mathlib.Nat.{mul-le-mul_right}
use lib.Dec.{eqb, ltb}
use lib.ListN.{length, get_or, set, get_or-eq_default, replicate, length-replicate, get_or-replicate}
use lib.Seq.{get_or-set_same, get_or-set_other}
use borrow.Author.Tests.{ltb-true, ltb-false, lt-ltb, le-ltb}
use Rattle.bounded.proofs.Truth.{bool}
use Rattle.onecopy.proofs.Base.{at2, look2}

-- the cell j of row i, of rows of m; d past the end of a row
unfoldable pub cell : {A : Type 0} → ℕ → A → List A → ℕ → ℕ → A
cell m d l i j = cond (ltb j m) (get_or l (i * m + j) d) d

module _ {A : Type 0} (m : ℕ) (d : A) (l : List A) where
  pub cell_in : (i j : ℕ) → j < m → cell m d l i j ≡ get_or l (i * m + j) d
  unfolding cell
  cell_in i j h = rw (lt-ltb j m h)

  pub cell_out : (i j : ℕ) → m ≤ j → cell m d l i j ≡ d
  unfolding cell
  cell_out i j h = rw (le-ltb j m h)

-- two cells at one index are one
pub apart : (m i j a b : ℕ) → j < m → b < m → i * m + j ≡ a * m + b → (i ≡ a) × (j ≡ b)
apart m i j a b p q e = elim (bool (ltb i a)) [
  | inl l ↦ absurd (omega (arith, mul-le-mul_right m (ltb-true i a l)))
  | inr l ↦ elim (bool (ltb a i)) [
    | inl k ↦ absurd (omega (arith, mul-le-mul_right m (ltb-true a i k)))
    | inr k ↦ let c : i ≡ a = omega (arith, ltb-false i a l, ltb-false a i k) in (c, let f : i * m ≡ a * m = ap (λ x. x * m) c in omega arith)
  ]
]

module _ {A : Type 0} (m : ℕ) (d : A) (l : List A) (a b : ℕ) (x : A) (p : b < m) (h : a * m + b < length l) where
  pub cell_set : (i j : ℕ) → cell m d (set l (a * m + b) x) i j ≡ at2 (cell m d l) a b x i j
  unfolding cell
  cell_set i j = elim (look2 (cell m d l) a b x i j) [
    | inl q ↦ rw q.2 (rw (q.0, q.1, lt-ltb b m p) (get_or-set_same l (a * m + b) x d h))
    | inr q ↦ rw q.1 (elim (bool (ltb j m)) [
      | inl e ↦ rw e (get_or-set_other l (a * m + b) (i * m + j) x d (λ c. q.0 (apart m i j a b (ltb-true j m e) p c)))
      | inr e ↦ rw e
    ])
  ]

  -- the same grid, asked for by column and row
  pub cell_put : (j i : ℕ) → cell m d (set l (a * m + b) x) i j ≡ at2 (λ j i. cell m d l i j) b a x j i
  cell_put j i = cell_set i j ∙ turned
    where
      both : (u v : Bool) (y z : A) → cond (u && v) y z ≡ cond (v && u) y z
      both true true y z = refl
      both true false y z = refl
      both false true y z = refl
      both false false y z = refl

      turned : at2 (cell m d l) a b x i j ≡ at2 (λ j i. cell m d l i j) b a x j i
      turned = unfold at2 in both (eqb i a) (eqb j b) x (cell m d l i j)

-- n times d has d everywhere
pub all_same : {A : Type 0} (n : ℕ) (d : A) (i : ℕ) → get_or (replicate n d) i d ≡ d
all_same n d i = elim (bool (ltb i n)) [
  | inl e ↦ get_or-replicate n i d d (ltb-true i n e)
  | inr e ↦ get_or-eq_default (replicate n d) d (let h = ltb-false i n e in omega (arith, length-replicate n d))
]

pub cell_same : {A : Type 0} (m n : ℕ) (d : A) (i j : ℕ) → cell m d (replicate n d) i j ≡ d
cell_same m n d i j = elim (bool (ltb j m)) [
  | inl e ↦ cell_in m d (replicate n d) i j (ltb-true j m e) ∙ all_same n d (i * m + j)
  | inr e ↦ cell_out m d (replicate n d) i j (ltb-false j m e)
]
