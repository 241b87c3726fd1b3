-- One-copy serializability of a state, in its own words: what the sites did is what the single copy does.
use Rattle.std.specs.Prelude.{ℕ, ◌+◌, ◌*◌, ◌≤◌, ◌<◌, ◌≡◌, true, ◌↔◌, get_or}
use Rattle.tables.specs.Lists.{read_count, read_key}
use Rattle.tables.specs.Sites.{site_count, holds}
use Rattle.tables.specs.Concern.{concerns}
use Rattle.steps.specs.Kinds.{version}
use Rattle.machine.specs.Parts.{place_of, version_at, value_at, closed_at}
use Rattle.machine.specs.Effects.{next_place}
use Rattle.machine.specs.declared.State.{State}
use Rattle.demands.specs.View.{copy_of}

-- version and value that t's i-th read returned
abbrev pub returned : State → ℕ → ℕ → ℕ × ℕ
returned st t i = ((get_or st.parts.readversions (t * 8 + i) (version 0)).0, get_or st.parts.readvalues (t * 8 + i) 0)

-- version and value of k at s
abbrev pub replica : State → ℕ → ℕ → ℕ × ℕ
replica st s k = (version_at st s k, value_at st s k)

-- each read of t returned what the single copy holds just before t's place
abbrev pub Matches : State → ℕ → Type 0
Matches st t = (i : ℕ) → i < read_count st.tables t → returned st t i ≡ copy_of st (place_of st t) (read_key st.tables t i)

pub record OneCopy (st : State) : Type 0 where
  -- no transaction commits at one site and aborts at another
  pub agreement : (t s r : ℕ) → s < site_count st.tables → r < site_count st.tables → closed_at st t s ≡ 1 → 2 ≤ closed_at st t r → ⊥
  -- a transaction that is closed committed exactly if its reads match
  pub exactly : (t s : ℕ) → s < site_count st.tables → 0 < closed_at st t s → (closed_at st t s ≡ 1) ↔ Matches st t
  -- each replica is the single copy at some place
  pub replicas : (s k : ℕ) → holds st.tables s k ≡ true → (p : ℕ) × (replica st s k ≡ copy_of st p k)
  -- and wherever the single copy has its version it has its value
  pub values : (s k p : ℕ) → holds st.tables s k ≡ true → (copy_of st p k).0 ≡ version_at st s k → (copy_of st p k).1 ≡ value_at st s k
  -- once s has closed all submitted transactions that concern it, its replicas are the single copy after all of them
  pub last : (s : ℕ) → ((t : ℕ) → 0 < place_of st t → concerns st.tables t s ≡ true → 0 < closed_at st t s)
      → (k : ℕ) → holds st.tables s k ≡ true → replica st s k ≡ copy_of st (next_place st) k
