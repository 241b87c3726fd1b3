-- CLOSE: what it asks, and what it does.
-- Assumes nothing.
use mathlib.Core.Path.{◌≡◌}
use mathlib.Core.Bool.{true, ◌&&◌}
use Prim.Native.Nat.{ℕ, ◌≤◌, ◌<◌}
use lib.Dec.{eqb}
use Rattle.onecopy.specs.Copy.{Table, bump}
use Rattle.onecopy.specs.View.{View}
use Rattle.onecopy.proofs.Base.{at2}

-- t is closed at s with the verdict c: 1 commit, 2 or more abort
unfoldable pub close_v : Table → View → ℕ → ℕ → ℕ → View
close_v T v s t c = record {
  order = v.order;
  seen = v.seen;
  recorded = v.recorded;
  delivered = v.delivered;
  closed = at2 v.closed s t c;
  cast = v.cast;
  held = v.held;
  store = λ a k. bump ((eqb a s && eqb c 1) && (T.writes t k && T.holds s k)) (v.store a k) (T.gives t k);
}

-- the sites whose votes on t are held by s together hold all that t reads
abbrev pub Covered : Table → View → ℕ → ℕ → Type 0
Covered T v s t = (k : ℕ) → T.reads t k ≡ true → (f : ℕ) × (v.held t f s ≡ true) × (T.holds f k ≡ true)

-- every vote on t held by s is yes; one is no
abbrev pub AllYes : View → ℕ → ℕ → Type 0
AllYes v s t = (f : ℕ) → v.held t f s ≡ true → v.cast f t ≡ 1

abbrev pub OneNo : View → ℕ → ℕ → Type 0
OneNo v s t = (f : ℕ) × (v.held t f s ≡ true) × (2 ≤ v.cast f t)

-- what CLOSE asks: t is in the queue of s; to commit the votes cover its reads, all are yes and t is at the head; to abort one is no
pub record Closes (T : Table) (v : View) (s t c : ℕ) : Type 0 where
  pub here : v.delivered s t ≡ true
  pub opened : v.closed s t ≡ 0
  pub positive : 0 < c
  pub covered : c ≡ 1 → Covered T v s t
  pub all_yes : c ≡ 1 → AllYes v s t
  pub head : c ≡ 1 → (u : ℕ) → v.delivered s u ≡ true → v.closed s u ≡ 0 → v.order.place t ≤ v.order.place u
  pub one_no : 2 ≤ c → OneNo v s t
