-- A transaction gets its place: what it asks, and what it does.
-- Assumes nothing.
use mathlib.Core.Path.{◌≡◌}
use mathlib.Core.Bool.{true}
use Prim.Native.Nat.{ℕ, ◌<◌}
use Rattle.onecopy.specs.Copy.{Table, Order}
use Rattle.onecopy.specs.View.{View}
use Rattle.onecopy.proofs.Base.{at1}

abbrev pub place_o : Order → ℕ → ℕ → Order
place_o o t p = record { place = at1 o.place t p; at = at1 o.at p t }

-- t gets place p
unfoldable pub place_v : View → ℕ → ℕ → View
place_v v t p = record {
  order = place_o v.order t p;
  seen = v.seen;
  recorded = v.recorded;
  delivered = v.delivered;
  closed = v.closed;
  cast = v.cast;
  held = v.held;
  store = v.store;
}

-- what a new place asks: t has none, all its reads are recorded, p is free and above all that a site of R(t) has delivered
pub record Places (T : Table) (v : View) (t p : ℕ) : Type 0 where
  pub fresh : v.order.place t ≡ 0
  pub positive : 0 < p
  pub free : (u : ℕ) → v.order.place u ≡ p → ⊥
  pub ready : (k : ℕ) → T.reads t k ≡ true → v.recorded t k ≡ true
  pub late : (s u : ℕ) → v.delivered s u ≡ true → T.concerns s t ≡ true → v.order.place u < p
