-- One counter over all sites is an order that all sites obey.
-- Assumes nothing.
use mathlib.Core.Path.{refl}
use mathlib.Core.Logic.{inl, inr}
use Prim.Native.Nat.{ℕ, suc}
use native.Mathlib.Omega.{arith}
use lib.Dec.{ltb}
use borrow.Author.Tests.{ltb-true, lt-ltb}
use Rattle.onecopy.specs.Copy.{Table}
use Rattle.onecopy.specs.View.{View}
use Rattle.onecopy.proofs.Base.{look1}
use Rattle.onecopy.proofs.Inv.{Inv}
use Rattle.onecopy.proofs.Deliver.{deliver_v}
use Rattle.onecopy.proofs.Place.{place_v}
use Rattle.onecopy.proofs.Serial.{fresh_v}
use Rattle.onecopy.proofs.Rules.{Offered}
use Rattle.onecopy.proofs.Ordering.{Orders, Ordering, Counted, Submits, place, submit}

module _ (T : Table) (txns : ℕ) where
  pub submits : (v w : View) (n m : ℕ) → Inv T v → Counted T txns v n → Submits T txns v n w m → Orders T v w × Counted T txns w m
  unfolding place_v
  submits v w n m i g x = at_submit v n w m x i g
    where
      at_submit : (v : View) (n : ℕ) (w : View) (m : ℕ) → Submits T txns v n w m → Inv T v → Counted T txns v n → Orders T v w × Counted T txns w m
      at_submit v n w m (submit t l e r) i g = (
        place t (suc n) (record {
          fresh = e;
          positive = omega arith;
          free = λ u q. omega (arith, g.most u);
          ready = r;
          late = λ s u d c. omega (arith, g.most u);
        }),
        record {
          most = λ u. elim (look1 v.order.place t (suc n) u) [ inl q ↦ omega (arith, q.1) | inr q ↦ omega (arith, q.1, g.most u) ];
          low = λ u h. elim (look1 v.order.place t (suc n) u) [ inl q ↦ omega (arith, q.0) | inr q ↦ g.low u (omega (arith, q.1)) ];
        },
      )

  -- it has no steps of its own, and DELIVER takes the next
  unfoldable pub counter : Ordering T txns
  unfolding fresh_v deliver_v
  counter = record {
    State = ℕ;
    start = 0;
    Good = Counted T txns;
    offer = λ v c. Offered T v;
    billed = λ o c t. ltb 0 (o.place t);
    Submit = Submits T txns;
    Tick = λ v c w d. ⊥;
    rest = λ c. 0;
    fresh = λ n e. record { most = λ t. omega arith; low = λ t h. absurd (omega arith) };
    submit = submits;
    tick = λ v w c d i g x. absurd x;
    quiet = λ v w c o d r g. record { most = λ t. rw o (g.most t); low = λ t h. g.low t (rw o at h) };
    deliver = λ v c s t x i g o. record { most = g.most; low = g.low };
    sound = λ v c s t i g o. o;
    low = λ v c t g h. g.low t (ltb-true 0 (v.order.place t) h);
    placed_billed = λ v c t g h. lt-ltb 0 (v.order.place t) h;
    same_billed = λ v w c d x t. absurd x;
    tick_rest = λ v w c d i g x. absurd x;
    stuck = λ v c i g z. (λ t h. ltb-true 0 (v.order.place t) h, λ s t o. o, refl);
  }
