-- Where no DELIVER, CARRY and CLOSE is acceptable, all that has a place is closed at all its sites.
-- Assumes nothing.
use mathlib.Core.Path.{◌≡◌}
use mathlib.Core.Bool.{Bool, true, false}
use mathlib.Core.Logic.{inl, inr}
use Prim.Native.Nat.{ℕ, zero, suc, ◌≤◌, ◌<◌}
use native.Mathlib.Omega.{arith}
use Rattle.bounded.proofs.Truth.{bool, clash, same}
use Rattle.onecopy.specs.Copy.{Table}
use Rattle.onecopy.specs.View.{View}
use Rattle.onecopy.proofs.Base.{less}
use Rattle.onecopy.proofs.Inv.{Fit, Inv, one_place}
use Rattle.onecopy.proofs.Deliver.{Ready}
use Rattle.onecopy.proofs.Close.{Covered, AllYes, OneNo, Closes}
use Rattle.onecopy.proofs.CloseKeeps.{minds}

-- each key that is read is held by a site that runs, its holders are in R(t), and each site of a local transaction holds all that it reads
pub record Kept (T : Table) (local up : ℕ → Bool) : Type 0 where
  pub reader : (s t k : ℕ) → T.reads t k ≡ true → T.holds s k ≡ true → T.concerns s t ≡ true
  pub holder : (t k : ℕ) → T.reads t k ≡ true → (f : ℕ) × (T.holds f k ≡ true) × (up f ≡ true)
  pub whole : (s t k : ℕ) → local t ≡ true → T.concerns s t ≡ true → T.reads t k ≡ true → T.holds s k ≡ true

-- a site of V(t) that has delivered t has voted, and who voted holds its own vote
pub record Voted (T : Table) (v : View) : Type 0 where
  pub votes : (s t k : ℕ) → v.delivered s t ≡ true → T.reads t k ≡ true → T.holds s k ≡ true → 0 < v.cast s t
  pub own : (s t : ℕ) → 0 < v.cast s t → v.held t s s ≡ true

-- no finishing step is acceptable at a site that runs
pub record Stuck (T : Table) (local up : ℕ → Bool) (v : View) : Type 0 where
  -- under each rule of admission: no DELIVER into an empty queue
  pub no_deliver : (s t : ℕ) → up s ≡ true → Ready T v s t → ((u : ℕ) → v.delivered s u ≡ true → v.closed s u ≡ 0 → ⊥) → ⊥
  pub no_carry : (t f a : ℕ) → up a ≡ true → local t ≡ false → (f ≡ a → ⊥) → 0 < v.cast f t → T.concerns a t ≡ true → v.held t f a ≡ false → ⊥
  -- under each rule of the verdict: no CLOSE where the votes held cover all that is read
  pub no_close : (s t c : ℕ) → up s ≡ true → Closes T v s t c → Covered T v s t → ⊥

module _ (T : Table) (fit : Fit T) (local up : ℕ → Bool) (kept : Kept T local up) (v : View) (i : Inv T v) (voted : Voted T v) (z : Stuck T local up v) where
  -- all of a lower place is closed wherever it concerns a running site
  abbrev Lower : ℕ → Type 0
  Lower p = (s u : ℕ) → up s ≡ true → T.concerns s u ≡ true → 0 < v.order.place u → v.order.place u < p → 0 < v.closed s u

  -- so what is in the queue of s has no lower place
  queued : (s t : ℕ) → up s ≡ true → Lower (v.order.place t) → (u : ℕ) → v.delivered s u ≡ true → v.closed s u ≡ 0 → v.order.place t ≤ v.order.place u
  queued s t x low u d o = elim (less (v.order.place u) (v.order.place t)) [
    | inl l ↦ absurd (omega (arith, low s u x (i.delivered_concerns s u d) (i.delivered_placed s u d) l))
    | inr l ↦ l
  ]

  arrived : (s t : ℕ) → up s ≡ true → T.concerns s t ≡ true → 0 < v.order.place t → Lower (v.order.place t) → v.delivered s t ≡ true
  arrived s t x n a low = elim (bool (v.delivered s t)) [
    | inl e ↦ e
    | inr e ↦ absurd (z.no_deliver s t x (record {
      fresh = e;
      placed = a;
      concerned = n;
      next = λ u m b l. i.closed_delivered s u (low s u x m b l);
      clear = λ u k d o w r h. empty e u d o;
    }) (empty e))
  ]
    where
      empty : v.delivered s t ≡ false → (u : ℕ) → v.delivered s u ≡ true → v.closed s u ≡ 0 → ⊥
      empty e u d o = elim (same (v.order.place u) (v.order.place t)) [
        | inl q ↦ clash d (rw (one_place T fit v i t u a q) e)
        | inr q ↦ clash (i.in_order s u t d n a (omega (arith, queued s t x low u d o))) e
      ]

  covered : (s t : ℕ) → up s ≡ true → T.concerns s t ≡ true → 0 < v.order.place t → Lower (v.order.place t) → Covered T v s t
  covered s t x n a low k r = elim (bool (local t)) [
    | inl e ↦ let h = kept.whole s t k e n r in (s, voted.own s t (voted.votes s t k (arrived s t x n a low) r h), h)
    | inr e ↦
        let (f, h, y) = kept.holder t k r in
        let c : 0 < v.cast f t = voted.votes f t k (arrived f t y (kept.reader f t k r h) a low) r h in (
          f,
          elim (bool (v.held t f s)) [
            | inl q ↦ q
            | inr q ↦ elim (same f s) [
              | inl d ↦ clash (voted.own f t c) (rw (← d) at q)
              | inr d ↦ absurd (z.no_carry t f s x e d c n q)
            ]
          ],
          h,
        )
  ]

  closes : (s t : ℕ) → up s ≡ true → T.concerns s t ≡ true → 0 < v.order.place t → Lower (v.order.place t) → 0 < v.closed s t
  closes s t x n a low = elim (same (v.closed s t) 0) [
    | inr d ↦ omega arith
    | inl e ↦ elim (minds T fit v i s t) [
      | inl y ↦ absurd (no 1 e (omega arith) (λ _. y) (λ q. absurd (omega arith)))
      | inr y ↦ absurd (no 2 e (omega arith) (λ q. absurd (omega arith)) (λ _. y))
    ]
  ]
    where
      no : (c : ℕ) → v.closed s t ≡ 0 → 0 < c → (c ≡ 1 → AllYes v s t) → (2 ≤ c → OneNo v s t) → ⊥
      no c e p yes_of no_of = z.no_close s t c x (record {
        here = arrived s t x n a low;
        opened = e;
        positive = p;
        covered = λ _. covered s t x n a low;
        all_yes = yes_of;
        head = λ _. queued s t x low;
        one_no = no_of;
      }) (covered s t x n a low)

  lower : (p : ℕ) → Lower p
  lower zero s u x n a l = absurd (omega arith)
  lower (suc p) s u x n a l = closes s u x n a (λ r w y m b k. lower p r w y m b (omega arith))

  pub all_closed : (s t : ℕ) → up s ≡ true → T.concerns s t ≡ true → 0 < v.order.place t → 0 < v.closed s t
  all_closed s t x n a = closes s t x n a (lower (v.order.place t))
