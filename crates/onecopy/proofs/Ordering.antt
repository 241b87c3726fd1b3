-- What an order that all sites obey must satisfy; the steps of one counter over all sites.
-- Assumes nothing.
use mathlib.Core.Path.{◌≡◌}
use mathlib.Core.Bool.{Bool, true}
use Prim.Native.Nat.{ℕ, suc, ◌≤◌, ◌<◌}
use Rattle.onecopy.specs.Copy.{Table, Order}
use Rattle.onecopy.specs.View.{View}
use Rattle.onecopy.proofs.Inv.{Inv}
use Rattle.onecopy.proofs.Deliver.{deliver_v}
use Rattle.onecopy.proofs.Place.{place_v, Places}
use Rattle.onecopy.proofs.Serial.{fresh_v}
use Rattle.onecopy.proofs.Rules.{Offered}

-- what a step of the order does to the view: one transaction gets its place, or none does
pub data Orders (T : Table) (v : View) : View → Type 0 where
  stay : Orders T v v
  place : (t p : ℕ) → Places T v t p → Orders T v (place_v v t p)

-- an order: its own state, what it gives places, and what it has DELIVER take
pub record Ordering (T : Table) (txns : ℕ) : Type 1 where
  pub State : Type 0
  pub start : State
  -- what holds of every view and state reached
  pub Good : View → State → Type 0
  -- t is the next at s
  pub offer : View → State → ℕ → ℕ → Type 0
  -- t is submitted
  pub billed : Order → State → ℕ → Bool
  -- SUBMIT; and the order's own finishing steps
  pub Submit : View → State → View → State → Type 0
  pub Tick : View → State → View → State → Type 0
  -- how many of its own are left
  pub rest : State → ℕ
  -- it holds of the fresh view
  pub fresh : (n : ℕ → ℕ) (e : ℕ → ℕ → ℕ × ℕ) → Good (fresh_v T n e) start
  -- safety: its steps give places that all sites can obey, all steps keep what holds, and what it has DELIVER take is the next
  pub submit : (v w : View) (c d : State) → Inv T v → Good v c → Submit v c w d → Orders T v w × Good w d
  pub tick : (v w : View) (c d : State) → Inv T v → Good v c → Tick v c w d → Orders T v w × Good w d
  pub quiet : (v w : View) (c : State) → w.order ≡ v.order → w.delivered ≡ v.delivered
      → ((t k : ℕ) → v.recorded t k ≡ true → w.recorded t k ≡ true) → Good v c → Good w c
  pub deliver : (v : View) (c : State) (s t x : ℕ) → Inv T v → Good v c → offer v c s t → Good (deliver_v v s t x) c
  pub sound : (v : View) (c : State) (s t : ℕ) → Inv T v → Good v c → offer v c s t → Offered T v s t
  -- count: what has a place is submitted, what is submitted is a transaction; its own steps submit nothing, and each takes 1 off
  pub low : (v : View) (c : State) (t : ℕ) → Good v c → billed v.order c t ≡ true → t < txns
  pub placed_billed : (v : View) (c : State) (t : ℕ) → Good v c → 0 < v.order.place t → billed v.order c t ≡ true
  pub same_billed : (v w : View) (c d : State) → Tick v c w d → (t : ℕ) → billed w.order d t ≡ billed v.order c t
  pub tick_rest : (v w : View) (c d : State) → Inv T v → Good v c → Tick v c w d → rest c ≡ suc (rest d)
  -- progress: where it has no step of its own, all submitted have places, and DELIVER may take the next at each site
  pub stuck : (v : View) (c : State) → Inv T v → Good v c → ((w : View) (d : State) → Tick v c w d → ⊥)
      → ((t : ℕ) → billed v.order c t ≡ true → 0 < v.order.place t) × ((s t : ℕ) → Offered T v s t → offer v c s t) × (rest c ≡ 0)

-- ---- one counter over all sites

-- no place is above the number submitted so far, and only a transaction has one
pub record Counted (T : Table) (txns : ℕ) (v : View) (n : ℕ) : Type 0 where
  pub most : (t : ℕ) → v.order.place t ≤ n
  pub low : (t : ℕ) → 0 < v.order.place t → t < txns

-- SUBMIT: t has no place, all its reads are recorded, and its place is one more than the number submitted so far
pub data Submits (T : Table) (txns : ℕ) (v : View) (n : ℕ) : View → ℕ → Type 0 where
  submit : (t : ℕ) → t < txns → v.order.place t ≡ 0 → ((k : ℕ) → T.reads t k ≡ true → v.recorded t k ≡ true)
      → Submits T txns v n (place_v v t (suc n)) (suc n)
