-- Sets of small numbers (keys, sites) as the bits of one number: bit k for member k.
use Rattle.std.specs.Prelude.{ℕ, ◌+◌, ◌/◌, ◌%◌, ◌^◌, Bool, ◌&&◌, ◌||◌, not, eqb}
use Rattle.bounded.specs.Bounded.{any_below, all_below}

unfoldable pub member : ℕ → ℕ → Bool
member m k = eqb (m / 2 ^ k % 2) 1

-- each member is below n
unfoldable pub within : ℕ → ℕ → Bool
within m n = eqb (m / 2 ^ n) 0

-- the set with k, which is no member
unfoldable pub adding : ℕ → ℕ → ℕ
adding m k = m + 2 ^ k

-- two sets of keys have one in common; each of the first set is in the second
unfoldable pub meeting : ℕ → ℕ → Bool
meeting a b = any_below 64 (λ k. member a k && member b k)

unfoldable pub including : ℕ → ℕ → Bool
including a b = all_below 64 (λ k. not (member a k) || member b k)
