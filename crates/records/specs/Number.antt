-- Big-endian numbers of any width, and rows of them.
use Rattle.std.specs.Prelude.{ℕ, zero, suc, ◌+◌, ◌*◌, List, get_or, set}

-- the n bytes of s from at, most significant first
unfoldable pub number : List ℕ → ℕ → ℕ → ℕ
number s at zero = 0
number s at (suc n) = number s at n * 256 + get_or s (at + n) 0

-- l with n numbers from its place base on, each as f gives it: the i-th is the one of width w at byte at + step * i of s
unfoldable pub row_of : {A : Type 0} → (ℕ → A) → ℕ → ℕ → List ℕ → ℕ → ℕ → List A → ℕ → List A
row_of f w step s at base l zero = l
row_of f w step s at base l (suc i) = set (row_of f w step s at base l i) (base + i) (f (number s (at + step * i) w))

-- the numbers themselves
abbrev pub row : ℕ → ℕ → List ℕ → ℕ → ℕ → List ℕ → ℕ → List ℕ
row = row_of (λ (n : ℕ). n)
