-- The finishing steps DELIVER, CARRY and CLOSE: each keeps what holds and takes 1 off what is left to do.
-- Assumes nothing.
use mathlib.Core.Path.{◌≡◌, refl, sym, ◌∙◌}
use mathlib.Core.Bool.{true, false}
use mathlib.Core.Logic.{inl, inr}
use Prim.Native.Nat.{ℕ, suc, ◌<◌}
use native.Mathlib.Omega.{arith}
use lib.Dec.{ltb}
use borrow.Author.Tests.{lt-ltb}
use Rattle.onecopy.specs.Copy.{Table}
use Rattle.onecopy.specs.View.{View}
use Rattle.onecopy.proofs.Base.{at2, look2, at3, at3_same, look3}
use Rattle.onecopy.proofs.Inv.{Fit, Inv, cast_placed}
use Rattle.onecopy.proofs.Deliver.{deliver_v, Delivers, carry_v}
use Rattle.onecopy.proofs.DeliverKeeps.{deliver_inv, carry_inv}
use Rattle.onecopy.proofs.Close.{close_v, Closes}
use Rattle.onecopy.proofs.CloseKeeps.{close_inv}
use Rattle.onecopy.proofs.Serial as Ser
use Rattle.onecopy.proofs.Serial.{Step}
use Rattle.onecopy.proofs.Live.{Voted}
use Rattle.onecopy.proofs.Count.{Count, todo, deliver_todo, close_todo, carry_todo}

-- what holds, with what the count asks: only voters have voted, and what has a place is submitted
pub record Full (T : Table) (n : Count) (v : View) : Type 0 where
  pub inv : Inv T v
  pub voted : Voted T v
  pub voter : (s t : ℕ) → 0 < v.cast s t → n.voter s t ≡ true
  pub billed : (t : ℕ) → 0 < v.order.place t → n.billed t ≡ true

-- the finishing steps, at sites that run
pub data Act (T : Table) (n : Count) (v : View) : View → Type 0 where
  deliver : (s t c : ℕ) → n.up s ≡ true → Delivers T v s t c → (0 < c → n.voter s t ≡ true) → Act T n v (deliver_v v s t c)
  carry : (t f a : ℕ) → n.up a ≡ true → n.local t ≡ false → (f ≡ a → ⊥) → 0 < v.cast f t → T.concerns a t ≡ true → v.held t f a ≡ false
      → Act T n v (carry_v v t f a)
  close : (s t c : ℕ) → n.up s ≡ true → Closes T v s t c → Act T n v (close_v T v s t c)

pub act_step : (T : Table) (n : Count) {v w : View} → Act T n v w → Step T v w
act_step T n (deliver s t c x g vo) = Ser.deliver s t c g
act_step T n (carry t r a x lo ne c co h) = Ser.carry t r a c
act_step T n (close s t c x g) = Ser.close s t c g

module _ (T : Table) (fit : Fit T) (n : Count) (low : (t : ℕ) → n.billed t ≡ true → t < n.txns) where
  pub deliver_full : (v : View) (f : Full T n v) (s t c : ℕ) (g : Delivers T v s t c) → (0 < c → n.voter s t ≡ true) → Full T n (deliver_v v s t c)
  unfolding deliver_v
  deliver_full v f s t c g vo = record {
    inv = deliver_inv T fit v f.inv s t c g;
    voted = record { votes = votes; own = own };
    voter = λ a b h. elim (look2 v.cast s t c a b) [
      | inl q ↦ rw (q.0, q.1) (vo (omega (arith, q.2)))
      | inr q ↦ f.voter a b (omega (arith, q.1))
    ];
    billed = f.billed;
  }
    where
      votes : (a b k : ℕ) → at2 v.delivered s t true a b ≡ true → T.reads b k ≡ true → T.holds a k ≡ true → 0 < at2 v.cast s t c a b
      votes a b k d r h = elim (look2 v.cast s t c a b) [
        | inl q ↦ omega (arith, q.2, g.says k (rw q.1 at r) (rw q.0 at h))
        | inr q ↦ elim (look2 v.delivered s t true a b) [
          | inl y ↦ absurd (q.0 (y.0, y.1))
          | inr y ↦ omega (arith, q.1, f.voted.votes a b k (sym y.1 ∙ d) r h)
        ]
      ]

      own : (a b : ℕ) → 0 < at2 v.cast s t c a b → at3 v.held t s s (ltb 0 c) b a a ≡ true
      own a b h = elim (look2 v.cast s t c a b) [
        | inl q ↦ rw (q.0, q.1) (at3_same v.held t s s (ltb 0 c) ∙ lt-ltb 0 c (omega (arith, q.2)))
        | inr q ↦ elim (look3 v.held t s s (ltb 0 c) b a a) [
          | inl y ↦ absurd (q.0 (y.1, y.0))
          | inr y ↦ y ∙ f.voted.own a b (omega (arith, q.1))
        ]
      ]

  pub carry_full : (v : View) (f : Full T n v) (t r a : ℕ) → 0 < v.cast r t → Full T n (carry_v v t r a)
  unfolding carry_v
  carry_full v f t r a c = record {
    inv = carry_inv T v f.inv t r a c;
    voted = record {
      votes = f.voted.votes;
      own = λ x y h. elim (look3 v.held t r a true y x x) [ inl q ↦ q.3 | inr q ↦ q ∙ f.voted.own x y h ];
    };
    voter = f.voter;
    billed = f.billed;
  }

  pub close_full : (v : View) (f : Full T n v) (s t c : ℕ) → Closes T v s t c → Full T n (close_v T v s t c)
  unfolding close_v
  close_full v f s t c g = record {
    inv = close_inv T fit v f.inv s t c g;
    voted = record { votes = f.voted.votes; own = f.voted.own };
    voter = f.voter;
    billed = f.billed;
  }

  pub act_full : {v w : View} → Full T n v → Act T n v w → Full T n w
  act_full {v} f (deliver s t c x g vo) = deliver_full v f s t c g vo
  act_full {v} f (carry t r a x lo ne c co h) = carry_full v f t r a c
  act_full {v} f (close s t c x g) = close_full v f s t c g

  bill : (v : View) → Full T n v → (t : ℕ) → 0 < v.order.place t → (t < n.txns) × (n.billed t ≡ true)
  bill v f t a = (low t (f.billed t a), f.billed t a)

  pub act_todo : {v w : View} → Full T n v → Act T n v w → todo T n v ≡ suc (todo T n w)
  act_todo {v} f (deliver s t c x g vo) = let (l, b) = bill v f t g.ready.placed in deliver_todo T fit n v f.inv s t c l b x g
  act_todo {v} f (carry t r a x lo ne c co h) =
      let (l, b) = bill v f t (cast_placed T fit v f.inv r t c) in carry_todo T fit n v f.inv t r a l b x lo ne c (f.voter r t c) co h
  act_todo {v} f (close s t c x g) = let (l, b) = bill v f t (f.inv.delivered_placed s t g.here) in close_todo T fit n v f.inv s t c l b x g

  -- none of them gives a place
  pub act_same : {v w : View} → Act T n v w → v.order ≡ w.order
  unfolding deliver_v carry_v close_v
  act_same (deliver s t c x g vo) = refl
  act_same (carry t r a x lo ne c co h) = refl
  act_same (close s t c x g) = refl
