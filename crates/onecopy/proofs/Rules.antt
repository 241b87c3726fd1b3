-- What a rule of admission, a rule of the verdict and a certification must satisfy, and the finishing steps under any three that do.
-- Assumes nothing.
use mathlib.Core.Path.{◌≡◌, refl}
use mathlib.Core.Bool.{true, false}
use mathlib.Core.Logic.{◌⊎◌, inl, inr}
use Prim.Native.Nat.{ℕ, ◌≤◌, ◌<◌}
use native.Mathlib.Omega.{arith}
use Rattle.bounded.proofs.Truth.{same}
use Rattle.onecopy.specs.Copy.{Table}
use Rattle.onecopy.specs.View.{View}
use Rattle.onecopy.proofs.Inv.{Fit, Inv}
use Rattle.onecopy.proofs.Deliver.{deliver_v, Delivers, carry_v}
use Rattle.onecopy.proofs.Close.{close_v, Closes}
pub use Rattle.onecopy.proofs.Close.{Covered, AllYes, OneNo}
pub use Rattle.onecopy.proofs.CloseKeeps.{minds}
use Rattle.onecopy.proofs.Live.{Stuck}
use Rattle.onecopy.proofs.Count.{Count}
use Rattle.onecopy.proofs.Finish as Finish
use Rattle.onecopy.proofs.Finish.{Act}

-- u is in the queue of s
abbrev pub Queued : View → ℕ → ℕ → Type 0
Queued v s u = (v.delivered s u ≡ true) × (v.closed s u ≡ 0)

-- a rule of admission: may t be delivered at s beside what is in the queue?
pub record Admission (T : Table) : Type 1 where
  pub admits : View → ℕ → ℕ → Type 0
  -- safety: nothing in the queue writes what t reads there
  pub clear : (v : View) (s t : ℕ) → admits v s t → (u k : ℕ) → Queued v s u → T.writes u k ≡ true → T.reads t k ≡ true → T.holds s k ≡ true → ⊥
  -- progress: an empty queue admits all
  pub empty : (v : View) (s t : ℕ) → ((u : ℕ) → Queued v s u → ⊥) → admits v s t

-- a rule of the verdict: is the verdict c (1 commit, 2 abort) on t known at s?
pub record Verdicts (T : Table) : Type 1 where
  pub known : View → ℕ → ℕ → ℕ → Type 0
  -- safety: a commit has votes that cover all that is read, all of them yes; an abort has a no
  pub codes : (v : View) (s t c : ℕ) → known v s t c → (c ≡ 1) ⊎ (c ≡ 2)
  pub commit : (v : View) (s t : ℕ) → known v s t 1 → Covered T v s t × AllYes v s t
  pub abort : (v : View) (s t : ℕ) → known v s t 2 → OneNo v s t
  -- progress: votes that cover all that is read are enough
  pub enough : (v : View) (s t : ℕ) → Covered T v s t → AllYes v s t ⊎ OneNo v s t → (c : ℕ) × known v s t c

-- a certification: the vote of s on t, from what t recorded and what s has: 0 none, 1 yes, 2 or more no
pub record Certify (T : Table) : Type 0 where
  pub vote : (ℕ → ℕ × ℕ) → (ℕ → ℕ × ℕ) → ℕ → ℕ → ℕ
  -- who holds a key that is read votes, and nobody else; yes where each such key has the recorded version, no where one has not
  pub says : (x y : ℕ → ℕ × ℕ) (s t k : ℕ) → T.reads t k ≡ true → T.holds s k ≡ true → 0 < vote x y s t
  pub seat : (x y : ℕ → ℕ × ℕ) (s t : ℕ) → 0 < vote x y s t → (k : ℕ) × (T.reads t k ≡ true) × (T.holds s k ≡ true)
  pub yes : (x y : ℕ → ℕ × ℕ) (s t : ℕ) → vote x y s t ≡ 1 → (k : ℕ) → T.reads t k ≡ true → T.holds s k ≡ true → (x k).0 ≡ (y k).0
  pub no : (x y : ℕ → ℕ × ℕ) (s t : ℕ) → 2 ≤ vote x y s t → (k : ℕ) × (T.reads t k ≡ true) × (T.holds s k ≡ true) × ((x k).0 ≡ (y k).0 → ⊥)

pub record Rules (T : Table) : Type 1 where
  pub admission : Admission T
  pub verdicts : Verdicts T
  pub certify : Certify T

-- t is the next at s: it has a place, concerns s, is not delivered there, and all of a lower place that concerns s is
pub record Offered (T : Table) (v : View) (s t : ℕ) : Type 0 where
  pub fresh : v.delivered s t ≡ false
  pub placed : 0 < v.order.place t
  pub concerned : T.concerns s t ≡ true
  pub next : (u : ℕ) → T.concerns s u ≡ true → 0 < v.order.place u → v.order.place u < v.order.place t → v.delivered s u ≡ true

abbrev pub vote_r : {T : Table} → Rules T → View → ℕ → ℕ → ℕ
vote_r R v s t = R.certify.vote (v.seen t) (v.store s) s t

-- what CLOSE asks: t is in the queue of s, its verdict is known, and a commit is at the head
pub record Closable (T : Table) (R : Rules T) (v : View) (s t c : ℕ) : Type 0 where
  pub here : v.delivered s t ≡ true
  pub opened : v.closed s t ≡ 0
  pub known : R.verdicts.known v s t c
  pub head : c ≡ 1 → (u : ℕ) → v.delivered s u ≡ true → v.closed s u ≡ 0 → v.order.place t ≤ v.order.place u

-- the three finishing steps, where `offer` says what is the next at a site, under the rules R
pub data Move (T : Table) (n : Count) (R : Rules T) (offer : ℕ → ℕ → Type 0) (v : View) : View → Type 0 where
  deliver : (s t : ℕ) → n.up s ≡ true → offer s t → R.admission.admits v s t → Move T n R offer v (deliver_v v s t (vote_r R v s t))
  carry : (t f a : ℕ) → n.up a ≡ true → n.local t ≡ false → (f ≡ a → ⊥) → 0 < v.cast f t → T.concerns a t ≡ true → v.held t f a ≡ false
      → Move T n R offer v (carry_v v t f a)
  close : (s t c : ℕ) → n.up s ≡ true → Closable T R v s t c → Move T n R offer v (close_v T v s t c)

module _ (T : Table) (R : Rules T) (v : View) where
  pub delivers : (s t : ℕ) → Offered T v s t → R.admission.admits v s t → Delivers T v s t (vote_r R v s t)
  delivers s t o a = record {
    ready = record {
      fresh = o.fresh;
      placed = o.placed;
      concerned = o.concerned;
      next = o.next;
      clear = λ u k d e. R.admission.clear v s t a u k (d, e);
    };
    says = R.certify.says (v.seen t) (v.store s) s t;
    says_yes = R.certify.yes (v.seen t) (v.store s) s t;
    says_no = R.certify.no (v.seen t) (v.store s) s t;
  }

  pub closes : (s t c : ℕ) → Closable T R v s t c → Closes T v s t c
  closes s t c g = record {
    here = g.here;
    opened = g.opened;
    positive = elim code [ inl e ↦ omega arith | inr e ↦ omega arith ];
    covered = λ e. (R.verdicts.commit v s t (rw e at g.known)).0;
    all_yes = λ e. (R.verdicts.commit v s t (rw e at g.known)).1;
    head = g.head;
    one_no = λ h. elim code [ inl e ↦ absurd (omega arith) | inr e ↦ R.verdicts.abort v s t (rw e at g.known) ];
  }
    where
      code : (c ≡ 1) ⊎ (c ≡ 2)
      code = R.verdicts.codes v s t c g.known

-- each of them is one of the finishing steps that keep what holds
pub move_act : (T : Table) (n : Count) (R : Rules T) (offer : ℕ → ℕ → Type 0) {v w : View}
    → ((s t k : ℕ) → T.reads t k ≡ true → T.holds s k ≡ true → n.voter s t ≡ true)
    → ((s t : ℕ) → offer s t → Offered T v s t) → Move T n R offer v w → Act T n v w
move_act T n R offer {v} seats o (deliver s t x q a) =
    Finish.deliver s t (vote_r R v s t) x (delivers T R v s t (o s t q) a) (λ h. let (k, r, d) = R.certify.seat (v.seen t) (v.store s) s t h in seats s t k r d)
move_act T n R offer {v} seats o (carry t f a x lo ne c co h) = Finish.carry t f a x lo ne c co h
move_act T n R offer {v} seats o (close s t c x g) = Finish.close s t c x (closes T R v s t c g)

-- where none of them is acceptable nothing is
pub move_stuck : (T : Table) → Fit T → (n : Count) (R : Rules T) (offer : ℕ → ℕ → Type 0) (v : View) → Inv T v
    → ((s t : ℕ) → Offered T v s t → offer s t) → ((w : View) → Move T n R offer v w → ⊥) → Stuck T n.local n.up v
move_stuck T fit n R offer v i o z = record {
  no_deliver = λ s t x g e. z (deliver_v v s t (vote_r R v s t)) (deliver s t x
      (o s t (record { fresh = g.fresh; placed = g.placed; concerned = g.concerned; next = g.next }))
      (R.admission.empty v s t (λ u q. e u q.0 q.1)));
  no_carry = λ t f a x lo ne c co h. z (carry_v v t f a) (carry t f a x lo ne c co h);
  no_close = λ s t c x g cov.
      let (d, k) = R.verdicts.enough v s t cov (minds T fit v i s t) in
      z (close_v T v s t d) (close s t d x (record {
        here = g.here;
        opened = g.opened;
        known = k;
        head = λ e. elim (same c 1) [
          | inl q ↦ g.head q
          | inr q ↦ λ u _ _. absurd (
              let (f, h, b) = g.one_no (let p = g.positive in omega arith) in
              omega (arith, (R.verdicts.commit v s t (rw e at k)).1 f h))
        ];
      }));
}

-- ---- the base rules

-- one reads a key that the other writes
abbrev pub Conflict : Table → ℕ → ℕ → Type 0
Conflict T t u = ((k : ℕ) × (T.reads t k ≡ true) × (T.writes u k ≡ true)) ⊎ ((k : ℕ) × (T.reads u k ≡ true) × (T.writes t k ≡ true))

-- t conflicts with nothing in the queue
abbrev pub base_admission : (T : Table) → Admission T
base_admission T = record {
  admits = λ v s t. (u : ℕ) → Queued v s u → Conflict T t u → ⊥;
  clear = λ v s t a u k q w r h. a u q (inl (k, r, w));
  empty = λ v s t e u q _. e u q;
}

-- known once the votes held cover all that is read: commit if every one is yes, else abort
abbrev pub base_verdicts : (T : Table) → Verdicts T
base_verdicts T = record {
  known = λ v s t c. Covered T v s t × (((c ≡ 1) × AllYes v s t) ⊎ ((c ≡ 2) × OneNo v s t));
  codes = λ v s t c k. elim k.1 [ inl a ↦ inl a.0 | inr a ↦ inr a.0 ];
  commit = λ v s t k. (k.0, elim k.1 [ inl a ↦ a.1 | inr a ↦ absurd (omega (arith, a.0)) ]);
  abort = λ v s t k. elim k.1 [ inl a ↦ absurd (omega (arith, a.0)) | inr a ↦ a.1 ];
  enough = λ v s t cov m. elim m [ inl a ↦ (1, (cov, inl (refl, a))) | inr a ↦ (2, (cov, inr (refl, a))) ];
}
