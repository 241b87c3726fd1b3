-- One-copy serializability of a state: what the sites did is what the single copy does.
use Rattle.std.specs.Prelude.{true, ◌≡◌, ℕ, ◌≤◌, ◌<◌}
use Rattle.onecopy.specs.Copy.{Table}
use Rattle.onecopy.specs.View.{View, single}

-- each read of t returned what the single copy held just before t's place
abbrev pub Matches : Table → View → ℕ → Type 0
Matches T v t = (k : ℕ) → T.reads t k ≡ true → v.seen t k ≡ single T v (v.order.place t) k

pub record Serial (T : Table) (v : View) : Type 0 where
  -- nothing commits at one site and aborts at another
  pub agreement : (s r t : ℕ) → v.closed s t ≡ 1 → 2 ≤ v.closed r t → ⊥
  -- what is closed committed exactly if its reads match
  pub exactly : (s t : ℕ) → 0 < v.closed s t → (v.closed s t ≡ 1 → Matches T v t) × (Matches T v t → v.closed s t ≡ 1)
  -- each replica is at some place what the single copy holds there
  pub replica : (s k : ℕ) → T.holds s k ≡ true → (p : ℕ) × (single T v p k ≡ v.store s k)
  -- wherever the single copy has a replica's version, it has its value
  pub one_value : (s k p : ℕ) → T.holds s k ≡ true → (single T v p k).0 ≡ (v.store s k).0 → (single T v p k).1 ≡ (v.store s k).1
  -- a site that has closed all that concerns it holds the end of the single copy
  pub last : (s : ℕ) → ((u : ℕ) → T.concerns s u ≡ true → 0 < v.order.place u → 0 < v.closed s u)
      → (k p : ℕ) → T.holds s k ≡ true → ((u : ℕ) → v.order.place u < p) → single T v p k ≡ v.store s k
