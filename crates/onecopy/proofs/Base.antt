-- Small tools: one number below another or not, an update at a point, and a sum of nothing.
-- Assumes nothing.
use mathlib.Core.Path.{◌≡◌, refl}
use mathlib.Core.Bool.{Bool, true, false, ◌&&◌, cond}
use mathlib.Core.Logic.{◌⊎◌, inl, inr}
use Prim.Native.Nat.{ℕ, ◌≤◌, ◌<◌}
use native.Mathlib.Omega.{arith}
use lib.Dec.{eqb, ltb}
use borrow.Author.Tests.{eqb-true, eqb-false, eq-eqb, ne_eqb, ltb-true, ltb-false}
use Rattle.bounded.specs.Bounded.{sum_below}
use Rattle.bounded.proofs.Truth.{and-true, and_put, bool, clash}
use Rattle.bounded.proofs.Laws.{sum_most}

pub and_unit : (a : Bool) → (a && true) ≡ a
and_unit true = refl
and_unit false = refl

pub less : (a b : ℕ) → (a < b) ⊎ (b ≤ a)
less a b = elim (bool (ltb a b)) [ inl h ↦ inl (ltb-true a b h) | inr h ↦ inr (ltb-false a b h) ]

-- where all are 0 so is their sum
pub sum-zero : (n : ℕ) (f : ℕ → ℕ) → ((i : ℕ) → i < n → f i ≡ 0) → sum_below n f ≡ 0
sum-zero n f h = omega (arith, sum_most n 0 f (λ i l. omega (arith, h i l)))

-- ---- updates at a point

unfoldable pub at1 : {A : Type 0} → (ℕ → A) → ℕ → A → ℕ → A
at1 f a x i = cond (eqb i a) x (f i)

unfoldable pub at2 : {A : Type 0} → (ℕ → ℕ → A) → ℕ → ℕ → A → ℕ → ℕ → A
at2 f a b x i j = cond (eqb i a && eqb j b) x (f i j)

unfoldable pub at3 : {A : Type 0} → (ℕ → ℕ → ℕ → A) → ℕ → ℕ → ℕ → A → ℕ → ℕ → ℕ → A
at3 f a b c x i j k = cond (eqb i a && eqb j b && eqb k c) x (f i j k)

-- a choice, by its test
pub pick : {A : Type 0} (b : Bool) (x y : A) → ((b ≡ true) × (cond b x y ≡ x)) ⊎ ((b ≡ false) × (cond b x y ≡ y))
pick true x y = inl (refl, refl)
pick false x y = inr (refl, refl)

module _ {A : Type 0} (f : ℕ → A) (a : ℕ) (x : A) where
  pub look1 : (i : ℕ) → ((i ≡ a) × (at1 f a x i ≡ x)) ⊎ ((i ≡ a → ⊥) × (at1 f a x i ≡ f i))
  unfolding at1
  look1 i = elim (pick (eqb i a) x (f i)) [ inl q ↦ inl (eqb-true i a q.0, q.1) | inr q ↦ inr (eqb-false i a q.0, q.1) ]

  pub at1_same : at1 f a x a ≡ x
  unfolding at1
  at1_same = rw (eq-eqb a a refl)

  pub at1_other : (i : ℕ) → (i ≡ a → ⊥) → at1 f a x i ≡ f i
  unfolding at1
  at1_other i n = rw (ne_eqb i a n)

module _ {A : Type 0} (f : ℕ → ℕ → A) (a b : ℕ) (x : A) where
  pub look2 : (i j : ℕ) → ((i ≡ a) × (j ≡ b) × (at2 f a b x i j ≡ x)) ⊎ (((i ≡ a) × (j ≡ b) → ⊥) × (at2 f a b x i j ≡ f i j))
  unfolding at2
  look2 i j = elim (pick (eqb i a && eqb j b) x (f i j)) [
    | inl q ↦ let (p, r) = and-true (eqb i a) (eqb j b) q.0 in inl (eqb-true i a p, eqb-true j b r, q.1)
    | inr q ↦ inr (λ e. clash (and_put (eqb i a) (eqb j b) (eq-eqb i a e.0) (eq-eqb j b e.1)) q.0, q.1)
  ]

  pub at2_same : at2 f a b x a b ≡ x
  unfolding at2
  at2_same = rw (eq-eqb a a refl, eq-eqb b b refl)

  pub at2_other : (i j : ℕ) → ((i ≡ a) × (j ≡ b) → ⊥) → at2 f a b x i j ≡ f i j
  at2_other i j n = elim (look2 i j) [ inl q ↦ absurd (n (q.0, q.1)) | inr q ↦ q.1 ]

module _ {A : Type 0} (f : ℕ → ℕ → ℕ → A) (a b c : ℕ) (x : A) where
  pub look3 : (i j k : ℕ) → ((i ≡ a) × (j ≡ b) × (k ≡ c) × (at3 f a b c x i j k ≡ x)) ⊎ (at3 f a b c x i j k ≡ f i j k)
  unfolding at3
  look3 i j k = elim (pick (eqb i a && eqb j b && eqb k c) x (f i j k)) [
    | inl q ↦
        let (e, r) = and-true (eqb i a && eqb j b) (eqb k c) q.0 in
        let (o, p) = and-true (eqb i a) (eqb j b) e in
        inl (eqb-true i a o, eqb-true j b p, eqb-true k c r, q.1)
    | inr q ↦ inr q.1
  ]

  pub at3_same : at3 f a b c x a b c ≡ x
  unfolding at3
  at3_same = rw (eq-eqb a a refl, eq-eqb b b refl, eq-eqb c c refl)

  pub at3_other : (i j k : ℕ) → ((i ≡ a) × (j ≡ b) × (k ≡ c) → ⊥) → at3 f a b c x i j k ≡ f i j k
  at3_other i j k n = elim (look3 i j k) [ inl q ↦ absurd (n (q.0, q.1, q.2)) | inr e ↦ e ]
