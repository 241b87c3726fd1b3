-- Decimal digits, most significant first, without leading zeros; lines of a word and numbers.
use Rattle.std.specs.Prelude.{ℕ, zero, suc, ◌+◌, ◌/◌, ◌%◌, Bool, true, false, List, [], ◌∷◌, ◌++◌, ltb}

-- the digits of n; the Bool says that one is left, and the first number, at least n, only bounds the recursion
unfoldable pub digits_by : ℕ → Bool → ℕ → List ℕ
digits_by zero one n = (48 + n) ∷ []
digits_by (suc f) true n = (48 + n) ∷ []
digits_by (suc f) false n = digits_by f (ltb (n / 10) 10) (n / 10) ++ ((48 + n % 10) ∷ [])

unfoldable pub digits_of : ℕ → List ℕ
digits_of n = digits_by n (ltb n 10) n

-- a space before each number, a line feed at the end
unfoldable pub fields_of : List ℕ → List ℕ
fields_of [] = 10 ∷ []
fields_of (n ∷ ns) = (32 ∷ digits_of n) ++ fields_of ns

unfoldable pub line_of : List ℕ → List ℕ → List ℕ
line_of word ns = word ++ fields_of ns

-- f 0, f 1, .. below n, one after the other
unfoldable pub each : ℕ → (ℕ → List ℕ) → List ℕ
each zero f = []
each (suc n) f = each n f ++ f n
