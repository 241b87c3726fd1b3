-- Tests, sums and searches over the numbers below a bound.
use Rattle.std.specs.Prelude.{ℕ, zero, suc, ◌+◌, Bool, true, false, ◌&&◌, ◌||◌, cond, List, [], ◌∷◌, eqb, ltb}

-- some number below n passes
unfoldable pub any_below : ℕ → (ℕ → Bool) → Bool
any_below zero p = false
any_below (suc n) p = p n || any_below n p

-- each number below n passes
unfoldable pub all_below : ℕ → (ℕ → Bool) → Bool
all_below zero p = true
all_below (suc n) p = p n && all_below n p

-- f 0 + f 1 + .. below n
unfoldable pub sum_below : ℕ → (ℕ → ℕ) → ℕ
sum_below zero f = 0
sum_below (suc n) f = sum_below n f + f n

-- how many numbers below n pass
abbrev pub count_below : ℕ → (ℕ → Bool) → ℕ
count_below n p = sum_below n (λ i. cond (p i) 1 0)

-- i, where it passes and none was found (d) or the one found ranks above it; else the one found
abbrev pub earlier : (ℕ → ℕ) → Bool → ℕ → ℕ → ℕ → ℕ
earlier rank passes d i found = cond (passes && (eqb found d || ltb (rank i) (rank found))) i found

-- of the numbers below n that pass, the one of the lowest rank, the lower number first; d where none passes
unfoldable pub first_below : ℕ → (ℕ → ℕ) → (ℕ → Bool) → ℕ → ℕ
first_below zero rank p d = d
first_below (suc n) rank p d = earlier rank (p n) d n (first_below n rank p d)

-- the lowest number below n that passes; d where none does
abbrev pub least_below : ℕ → (ℕ → Bool) → ℕ → ℕ
least_below n p d = first_below n (λ i. 0) p d

-- the first of f 0, f 1, .. below n that is not 0; 0 where all are
abbrev pub or_else : ℕ → ℕ → ℕ
or_else zero b = b
or_else (suc a) b = suc a

unfoldable pub first_of : ℕ → (ℕ → ℕ) → ℕ
first_of zero f = 0
first_of (suc n) f = or_else (first_of n f) (f n)

-- the list f i, f (i + 1), .. of n elements
unfoldable pub list_from : {A : Type 0} → ℕ → ℕ → (ℕ → A) → List A
list_from i zero f = []
list_from i (suc n) f = f i ∷ list_from (suc i) n f
