-- Finishing, under every order and all rules: the number of steps, and what is closed.
-- Assumes nothing.
use mathlib.Core.Path.{◌≡◌, refl, sym, ap, fun_ext, ◌∙◌}
use mathlib.Core.Bool.{true}
use Prim.Native.Nat.{ℕ, zero, suc, ◌+◌, ◌<◌}
use native.Mathlib.Omega.{arith}
use Rattle.onecopy.specs.Copy.{Table, Order}
use Rattle.onecopy.specs.View.{View}
use Rattle.onecopy.proofs.Place.{place_v}
use Rattle.onecopy.proofs.Live.{Kept, Stuck, all_closed}
use Rattle.onecopy.proofs.Count.{Count, todo, stuck_todo}
use Rattle.onecopy.proofs.Finish.{act_todo, act_same}
use Rattle.onecopy.proofs.Rules.{move_stuck}
use Rattle.onecopy.proofs.Ordering as Ord
use Rattle.onecopy.proofs.Ordering.{Orders}
use Rattle.onecopy.proofs.World.{Plan, World, count, offers, Ends, move, tick, Reached, Holds, holds, full, act, low, ends_holds}

-- m finishing steps, the refused ones left out
pub data Runs (P : Plan) (w : World P) : World P → ℕ → Type 0 where
  none : Runs P w w zero
  then : {x y : World P} {m : ℕ} → Runs P w x m → Ends P x y → Runs P w y (suc m)

-- no finishing step is acceptable
abbrev pub Over : (P : Plan) → World P → Type 0
Over P w = (x : World P) → Ends P w x → ⊥

-- DELIVER, CARRY, CLOSE left, and the order's own
abbrev pub remaining : (P : Plan) → World P → ℕ
remaining P w = todo P.table (count P w) w.view + P.order.rest w.ord

module _ (P : Plan) where
  abbrev T : Table
  T = P.table

  orders_same : {v w : View} → Orders T v w → (n : Count) → todo T n w ≡ todo T n v
  unfolding place_v todo
  orders_same Ord.stay n = refl
  orders_same (Ord.place t p g) n = refl

  -- the count speaks of the submitted transactions only
  recount : (w x : World P) (v : View) → ((t : ℕ) → (count P x).billed t ≡ (count P w).billed t) → todo T (count P w) v ≡ todo T (count P x) v
  recount w x v e = ap (λ b. todo T (record { txns = P.txns; local = P.local; voter = P.voter; up = λ _. true; billed = b }) v) (fun_ext (λ t. sym (e t)))

  -- a finishing step leaves the submitted transactions and takes 1 off
  pub ends_same : (w x : World P) → Holds P w → Ends P w x → ((t : ℕ) → (count P x).billed t ≡ (count P w).billed t) × (remaining P w ≡ suc (remaining P x))
  ends_same w x h (move v m) =
      let a = act P w h m in
      let b : (t : ℕ) → P.order.billed v.order w.ord t ≡ (count P w).billed t = λ t. ap (λ (o : Order). P.order.billed o w.ord t) (sym (act_same T P.fit (count P w) (low P w h) a)) in
      (b, omega (arith, act_todo T P.fit (count P w) (low P w h) (full P w h) a, recount w (record { view = v; ord = w.ord }) v b))
  ends_same w x h (tick v c m) =
      let (o, g) = P.order.tick w.view v w.ord c h.inv h.good m in
      let b = P.order.same_billed w.view v w.ord c m in
      let y : World P = record { view = v; ord = c } in
      (b, omega (arith, P.order.tick_rest w.view v w.ord c h.inv h.good m, orders_same o (count P y), recount w y w.view b))

  pub runs_holds : {w x : World P} {m : ℕ} → Holds P w → Runs P w x m → Holds P x
  runs_holds h none = h
  runs_holds h (then {x} {y} r e) = ends_holds P x y (runs_holds h r) e

  pub runs_same : {w x : World P} {m : ℕ} → Holds P w → Runs P w x m → ((t : ℕ) → (count P x).billed t ≡ (count P w).billed t) × (remaining P w ≡ m + remaining P x)
  runs_same h none = (λ t. refl, omega arith)
  runs_same h (then {x} {y} r e) =
      let (a, p) = runs_same h r in
      let (b, q) = ends_same x y (runs_holds h r) e in
      (λ t. b t ∙ a t, omega arith)

  -- nothing is acceptable: all submitted have places, nothing is left to do, and nothing of the order's own
  pub over : (w : World P) → Holds P w → Over P w
      → ((t : ℕ) → (count P w).billed t ≡ true → 0 < w.view.order.place t) × Stuck T P.local (λ _. true) w.view × (P.order.rest w.ord ≡ 0)
  over w h z =
      let (a, b, c) = P.order.stuck w.view w.ord h.inv h.good (λ v d m. z (record { view = v; ord = d }) (tick v d m)) in
      (a, move_stuck T P.fit (count P w) P.rules (offers P w) w.view h.inv b (λ v m. z (record { view = v; ord = w.ord }) (move v m)), c)

  -- SETTLE, and any other way: the count, and what is closed
  pub settle : {w x : World P} {m : ℕ} → Reached P w → Kept T P.local (λ _. true) → Runs P w x m → Over P x
      → (m ≡ remaining P w) × ((s t : ℕ) → T.concerns s t ≡ true → (count P w).billed t ≡ true → 0 < x.view.closed s t)
  settle {w} {x} r a u z =
      let h = holds P r in
      let g = runs_holds h u in
      let (e, q) = runs_same h u in
      let (p, k, o) = over x g z in (
        omega (arith, q, stuck_todo T P.fit (count P x) a x.view g.inv g.voted k P.seat p, o),
        λ s t n i. all_closed T P.fit P.local (λ _. true) a x.view g.inv g.voted k s t refl n (p t (e t ∙ i)),
      )
