-- Tests as propositions: a test says a proposition where it passes exactly if that holds.
-- Assumes nothing.
use Prim.Native.Nat.{ℕ, ◌≤◌, ◌<◌}
use mathlib.Core.Path.{◌≡◌, refl, sym}
use mathlib.Core.Bool.{Bool, true, false, ◌&&◌, ◌||◌, not}
use mathlib.Core.Logic.{◌⊎◌, inl, inr, ◌↔◌}
use native.Mathlib.Omega.{arith}
use lib.Dec.{eqb, ltb}
use borrow.Author.Tests.{eqb-true, eq-eqb, ltb-true, ltb-false, lt-ltb}
use Rattle.bounded.specs.Bounded.{any_below, all_below, first_below}
use Rattle.bounded.proofs.Truth.{and-true, and_put, or-true, or_left, or_right, bool, clash, same}
use Rattle.bounded.proofs.Laws.{any_get, any_put, all_get, all_put, first-is}

abbrev pub Says : Bool → Type 0 → Type 0
Says b P = (b ≡ true) ↔ P

-- ---- by the form of the test

pub eq_says : (a b : ℕ) → Says (eqb a b) (a ≡ b)
eq_says a b = (eqb-true a b, eq-eqb a b)

pub lt_says : (a b : ℕ) → Says (ltb a b) (a < b)
lt_says a b = (ltb-true a b, lt-ltb a b)

module _ {a b : Bool} {P Q : Type 0} where
  pub and_says : Says a P → Says b Q → Says (a && b) (P × Q)
  and_says p q = (λ h. let (x, y) = and-true a b h in (p.0 x, q.0 y), λ h. and_put a b (p.1 h.0) (q.1 h.1))

  pub or_says : Says a P → Says b Q → Says (a || b) (P ⊎ Q)
  or_says p q = (
    λ h. elim (or-true a b h) [ inl x ↦ inl (p.0 x) | inr x ↦ inr (q.0 x) ],
    λ h. elim h [ inl x ↦ or_left a b (p.1 x) | inr x ↦ or_right a b (q.1 x) ],
  )

module _ {a : Bool} {P : Type 0} (p : Says a P) where
  -- it fails exactly if the proposition does not hold
  pub fails : (a ≡ false) ↔ (P → ⊥)
  fails = (λ h x. clash (p.1 x) h, λ h. elim (bool a) [ inl e ↦ absurd (h (p.0 e)) | inr e ↦ e ])

  pub not_says : Says (not a) (P → ⊥)
  not_says = (λ h. fails.0 (by a h), λ h. rw (fails.1 h))
    where
      by : (a : Bool) → not a ≡ true → a ≡ false
      by true h = sym h
      by false h = refl

  -- where the proposition holds, another does
  pub implies_says : {b : Bool} {Q : Type 0} → Says b Q → Says (not a || b) (P → Q)
  implies_says {b} q = (λ h x. q.0 (rw (p.1 x) at h), λ h. elim (bool a) [ inl e ↦ rw e (q.1 (h (p.0 e))) | inr e ↦ rw e ])

-- ---- below a bound

module _ (n : ℕ) (p : ℕ → Bool) {P : ℕ → Type 0} (h : (i : ℕ) → i < n → Says (p i) (P i)) where
  pub any_says : Says (any_below n p) ((i : ℕ) × (i < n) × P i)
  any_says = (λ e. let (i, l, x) = any_get n p e in (i, l, (h i l).0 x), λ x. any_put n p x.0 x.1 ((h x.0 x.1).1 x.2))

  pub all_says : Says (all_below n p) ((i : ℕ) → i < n → P i)
  all_says = (λ e i l. (h i l).0 (all_get n p e i l), λ x. all_put n p (λ i l. (h i l).1 (x i l)))

-- ---- a search

-- j comes before i: by rank, of equal ranks the lower number
abbrev pub Sooner : (ℕ → ℕ) → ℕ → ℕ → Type 0
Sooner rank j i = (rank j < rank i) ⊎ ((rank j ≡ rank i) × (j < i))

-- of two, one is the lower or they are one
pub lower : (a b : ℕ) → (a < b) ⊎ ((a ≡ b) ⊎ (b < a))
lower a b = elim (same a b) [
  | inl e ↦ inr (inl e)
  | inr d ↦ elim (bool (ltb a b)) [ inl l ↦ inl (ltb-true a b l) | inr l ↦ inr (inr (omega (arith, ltb-false a b l))) ]
]

-- and so is one before the other
pub sooner : (rank : ℕ → ℕ) (j i : ℕ) → Sooner rank j i ⊎ ((j ≡ i) ⊎ Sooner rank i j)
sooner rank j i = elim (lower (rank j) (rank i)) [
  | inl l ↦ inl (inl l)
  | inr (inr l) ↦ inr (inr (inl l))
  | inr (inl e) ↦ elim (lower j i) [ inl l ↦ inl (inr (e, l)) | inr (inl d) ↦ inr (inl d) | inr (inr l) ↦ inr (inr (inr (sym e, l))) ]
]

-- of the numbers below n, i has P and none before it does
pub record Foremost (n : ℕ) (rank : ℕ → ℕ) (P : ℕ → Type 0) (i : ℕ) : Type 0 where
  pub low : i < n
  pub has : P i
  pub none : (j : ℕ) → j < n → P j → Sooner rank j i → ⊥

module _ (n : ℕ) (rank : ℕ → ℕ) (p : ℕ → Bool) (d : ℕ) {P : ℕ → Type 0} (h : (i : ℕ) → i < n → Says (p i) (P i)) (b : n ≤ d) where
  -- a search finds the foremost
  pub finds : (first_below n rank p d ≡ d → ⊥) → Foremost n rank P (first_below n rank p d)
  finds e = elim (first-is n rank p d b) [
    | inr q ↦ absurd (e q.0)
    | inl f ↦ record {
      low = f.low;
      has = (h (first_below n rank p d) f.low).0 f.passes;
      none = λ j l x s. elim s [
        | inl y ↦ omega (arith, f.least j l ((h j l).1 x))
        | inr y ↦ omega (arith, f.lower j l ((h j l).1 x) y.0)
      ];
    }
  ]

  -- or there is none
  pub finds_none : first_below n rank p d ≡ d → (i : ℕ) → i < n → P i → ⊥
  finds_none e i l x = elim (first-is n rank p d b) [ inl f ↦ omega (arith, f.low) | inr q ↦ clash ((h i l).1 x) (q.1 i l) ]

  -- it finds one exactly if there is one
  pub found_says : Says (ltb (first_below n rank p d) d) ((i : ℕ) × (i < n) × P i)
  found_says = (
    λ e. let f = finds (λ q. omega (arith, ltb-true (first_below n rank p d) d e)) in (first_below n rank p d, f.low, f.has),
    λ x. elim (same (first_below n rank p d) d) [ inl e ↦ absurd (finds_none e x.0 x.1 x.2) | inr e ↦ lt-ltb (first_below n rank p d) d (omega (arith, (finds e).low)) ],
  )

  -- there is one foremost
  pub foremost : (i : ℕ) → Foremost n rank P i → first_below n rank p d ≡ i
  foremost i f = elim (same (first_below n rank p d) d) [
    | inl e ↦ absurd (finds_none e i f.low f.has)
    | inr e ↦
        let g = finds e in
        elim (sooner rank (first_below n rank p d) i) [
          | inl l ↦ absurd (f.none (first_below n rank p d) g.low g.has l)
          | inr (inl q) ↦ q
          | inr (inr l) ↦ absurd (g.none i f.low f.has l)
        ]
  ]
