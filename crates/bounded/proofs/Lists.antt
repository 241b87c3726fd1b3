-- The laws of lists: one by its elements, one of a single value, one after a store.
-- Assumes nothing.
use Prim.Native.Nat.{ℕ, zero, suc, ◌+◌, ◌<◌}
use mathlib.Core.Path.{◌≡◌, refl, ap, ◌∙◌}
use mathlib.Core.Bool.{Bool, true, false}
use mathlib.Core.List.{List, [], ◌∷◌}
use mathlib.Core.Logic.{◌⊎◌, inl, inr}
use native.Mathlib.Omega.{arith}
use native.Mathlib.Nat.{not-suc-le-zero, le_of_suc-le-suc}
use lib.Dec.{ltb}
use lib.ListN.{length, get_or, set, replicate, length-set, length-replicate, get_or-replicate, get_or-eq_default}
use lib.Seq.{get_or-set_same, get_or-set_other}
use borrow.Author.Tests.{ltb-true, ltb-false}
use Rattle.bounded.specs.Bounded.{list_from}
use Rattle.bounded.proofs.Truth.{bool, clash, same}

-- the elements of a list that is given by them
pub list_length : {A : Type 0} (i n : ℕ) (f : ℕ → A) → length (list_from i n f) ≡ n
unfolding list_from
list_length i zero f = refl
list_length i (suc n) f = ap suc (list_length (suc i) n f)

pub list_at : {A : Type 0} (i n : ℕ) (f : ℕ → A) (j : ℕ) (d : A) → j < n → get_or (list_from i n f) j d ≡ f (i + j)
unfolding list_from
list_at i zero f j d l = absurd (not-suc-le-zero l)
list_at i (suc n) f zero d l = ap f (omega arith)
list_at i (suc n) f (suc j) d l = list_at (suc i) n f j d (omega arith) ∙ ap f (omega arith)

-- inside a list the default is not asked for
pub within : {A : Type 0} (l : List A) (i : ℕ) (d e : A) → i < length l → get_or l i d ≡ get_or l i e
within [] i d e h = absurd (not-suc-le-zero h)
within (x ∷ l) zero d e h = refl
within (x ∷ l) (suc i) d e h = within l i d e (le_of_suc-le-suc h)

-- a cell that was stored into has what was stored, or it stands past the end
pub stored : {A : Type 0} (l : List A) (i : ℕ) (v d : A) → (get_or (set l i v) i d ≡ v) ⊎ (get_or (set l i v) i d ≡ d)
stored l i v d = elim (bool (ltb i (length l))) [
  | inl e ↦ inl (get_or-set_same l i v d (ltb-true i (length l) e))
  | inr e ↦ inr (get_or-eq_default (set l i v) d (omega (arith, length-set l i v, ltb-false i (length l) e)))
]

-- what was true stays so where true is stored
pub stored_true : (l : List Bool) (i j : ℕ) → get_or l j false ≡ true → get_or (set l i true) j false ≡ true
stored_true l i j h = elim (same j i) [
  | inr d ↦ rw (get_or-set_other l i j true false d) h
  | inl e ↦ elim (bool (ltb j (length l))) [
    | inl q ↦ rw e (get_or-set_same l i true false (rw e at (ltb-true j (length l) q)))
    | inr q ↦ clash h (get_or-eq_default l false (ltb-false j (length l) q))
  ]
]

-- a list of one value has it everywhere, if it is the default too
pub replicated : {A : Type 0} (n i : ℕ) (a : A) → get_or (replicate n a) i a ≡ a
replicated n i a = elim (bool (ltb i n)) [
  | inl e ↦ get_or-replicate n i a a (ltb-true i n e)
  | inr e ↦ get_or-eq_default (replicate n a) a (omega (arith, length-replicate n a, ltb-false i n e))
]
