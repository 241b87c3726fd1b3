-- A state of the machine as functions of sites, transactions and keys, and the single copy that belongs to it.
use Rattle.std.specs.Prelude.{Bool, ℕ, eqb}
use Rattle.bounded.specs.Bounded.{any_below}
use Rattle.onecopy.specs.Copy.{Table, Order, one_copy}

pub record View : Type 0 where
  pub order : Order
  -- of a transaction and a key it reads: version and value, once recorded
  pub seen : ℕ → ℕ → ℕ × ℕ
  pub recorded : ℕ → ℕ → Bool
  -- of a site and a transaction: delivered; 0 open, 1 committed, 2 or more aborted; 0 no vote, 1 yes, 2 or more no
  pub delivered : ℕ → ℕ → Bool
  pub closed : ℕ → ℕ → ℕ
  pub cast : ℕ → ℕ → ℕ
  -- of a transaction, the voter, and who holds the vote
  pub held : ℕ → ℕ → ℕ → Bool
  -- of a site and a key: version and value
  pub store : ℕ → ℕ → ℕ × ℕ

-- committed at the site s
abbrev pub there : (ℕ → ℕ → ℕ) → ℕ → ℕ → Bool
there closed s u = eqb (closed s u) 1

-- committed at some site
abbrev pub committed : ℕ → (ℕ → ℕ → ℕ) → ℕ → Bool
committed n closed u = any_below n (λ s. there closed s u)

-- version and value of k just before place p, where those committed at some site run alone in the order of their places
abbrev pub single : Table → View → ℕ → ℕ → ℕ × ℕ
single T v p k = one_copy T v.order (committed T.sites v.closed) p k
