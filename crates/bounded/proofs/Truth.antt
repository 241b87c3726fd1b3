-- What a test's value says of its parts.
-- Assumes nothing.
use Prim.Native.Nat.{ℕ, ◌<◌}
use mathlib.Core.Path.{◌≡◌, refl, sym, ◌∙◌}
use mathlib.Core.Bool.{Bool, true, false, ◌&&◌, ◌||◌, true≢false, cond}
use mathlib.Core.Logic.{◌⊎◌, inl, inr}
use native.Mathlib.Omega.{arith}
use lib.Dec.{eqb}
use borrow.Author.Tests.{eqb-true, eqb-false}

pub and-true : (a b : Bool) → (a && b) ≡ true → (a ≡ true) × (b ≡ true)
and-true true b h = (refl, h)
and-true false b h = absurd (true≢false (sym h))

pub and_put : (a b : Bool) → a ≡ true → b ≡ true → (a && b) ≡ true
and_put true b h g = g
and_put false b h g = h

pub and-false : (b : Bool) → (b && false) ≡ false
and-false true = refl
and-false false = refl

pub or-true : (a b : Bool) → (a || b) ≡ true → (a ≡ true) ⊎ (b ≡ true)
or-true true b h = inl refl
or-true false b h = inr h

pub or-false : (a b : Bool) → (a || b) ≡ false → (a ≡ false) × (b ≡ false)
or-false true b h = absurd (true≢false h)
or-false false b h = (refl, h)

pub or_left : (a b : Bool) → a ≡ true → (a || b) ≡ true
or_left true b h = refl
or_left false b h = absurd (true≢false (sym h))

pub or_right : (a b : Bool) → b ≡ true → (a || b) ≡ true
or_right true b h = refl
or_right false b h = h

pub bool : (b : Bool) → (b ≡ true) ⊎ (b ≡ false)
bool true = inl refl
bool false = inr refl

-- two tests that pass together are one
pub iff_eq : (a b : Bool) → (a ≡ true → b ≡ true) → (b ≡ true → a ≡ true) → a ≡ b
iff_eq true b f g = sym (f refl)
iff_eq false true f g = g refl
iff_eq false false f g = refl

pub clash {ℓ} : {A : Type ℓ} {b : Bool} → b ≡ true → b ≡ false → A
clash p q = absurd (true≢false (sym p ∙ q))

pub same : (a b : ℕ) → (a ≡ b) ⊎ (a ≡ b → ⊥)
same a b = elim (bool (eqb a b)) [ inl e ↦ inl (eqb-true a b e) | inr e ↦ inr (eqb-false a b e) ]

-- a test that refuses with n did not: it is false, and what comes after it refuses nothing
pub passed : (n : ℕ) → 0 < n → (b : Bool) (k : ℕ) → cond b n k ≡ 0 → (b ≡ false) × (k ≡ 0)
passed n l true k h = absurd (omega arith)
passed n l false k h = (refl, h)

-- a contract of the form `r ≡ f x` determines its result: any two that meet it coincide
pub determined {ℓ} : {A : Type ℓ} {v : A} (x y : A) → x ≡ v → y ≡ v → x ≡ y
determined x y p q = p ∙ sym q
