-- DELIVER and CARRY: what they ask, and what they do.
-- Assumes nothing.
use mathlib.Core.Path.{◌≡◌}
use mathlib.Core.Bool.{Bool, true, false}
use Prim.Native.Nat.{ℕ, ◌≤◌, ◌<◌}
use lib.Dec.{ltb}
use Rattle.onecopy.specs.Copy.{Table}
use Rattle.onecopy.specs.View.{View}
use Rattle.onecopy.proofs.Base.{at2, at3}

-- deliveries and votes change
abbrev pub with_votes : View → (ℕ → ℕ → Bool) → (ℕ → ℕ → ℕ) → (ℕ → ℕ → ℕ → Bool) → View
with_votes v delivered cast held = record {
  order = v.order;
  seen = v.seen;
  recorded = v.recorded;
  delivered = delivered;
  closed = v.closed;
  cast = cast;
  held = held;
  store = v.store;
}

-- t is delivered at s, with the vote c: 0 none, 1 yes, 2 or more no
unfoldable pub deliver_v : View → ℕ → ℕ → ℕ → View
deliver_v v s t c = with_votes v (at2 v.delivered s t true) (at2 v.cast s t c) (at3 v.held t s s (ltb 0 c))

-- the vote of f on t is handed to a
unfoldable pub carry_v : View → ℕ → ℕ → ℕ → View
carry_v v t f a = with_votes v v.delivered v.cast (at3 v.held t f a true)

-- t is the next at s, and nothing in the queue of s writes what t reads there
pub record Ready (T : Table) (v : View) (s t : ℕ) : Type 0 where
  pub fresh : v.delivered s t ≡ false
  pub placed : 0 < v.order.place t
  pub concerned : T.concerns s t ≡ true
  pub next : (u : ℕ) → T.concerns s u ≡ true → 0 < v.order.place u → v.order.place u < v.order.place t → v.delivered s u ≡ true
  pub clear : (u k : ℕ) → v.delivered s u ≡ true → v.closed s u ≡ 0 → T.writes u k ≡ true → T.reads t k ≡ true → T.holds s k ≡ true → ⊥

-- what DELIVER asks: t is ready, and c is the vote of s, yes if each read key held by s has the recorded version there
pub record Delivers (T : Table) (v : View) (s t c : ℕ) : Type 0 where
  pub ready : Ready T v s t
  pub says : (k : ℕ) → T.reads t k ≡ true → T.holds s k ≡ true → 0 < c
  pub says_yes : c ≡ 1 → (k : ℕ) → T.reads t k ≡ true → T.holds s k ≡ true → (v.seen t k).0 ≡ (v.store s k).0
  pub says_no : 2 ≤ c → (k : ℕ) × (T.reads t k ≡ true) × (T.holds s k ≡ true) × ((v.seen t k).0 ≡ (v.store s k).0 → ⊥)
