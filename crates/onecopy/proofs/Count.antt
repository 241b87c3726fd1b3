-- What is left to do: each DELIVER, CARRY and CLOSE takes 1 off, and where none is acceptable nothing is left.
-- Assumes nothing.
use mathlib.Core.Path.{◌≡◌, refl, sym}
use mathlib.Core.Bool.{Bool, true, false, ◌&&◌, ◌||◌, not, cond}
use mathlib.Core.Logic.{◌⊎◌, inl, inr}
use Prim.Native.Nat.{ℕ, suc, ◌+◌, ◌<◌}
use native.Mathlib.Omega.{arith}
use lib.Dec.{eqb, ltb}
use borrow.Author.Tests.{ltb-true, lt-ltb, eqb-false, eq-eqb, ne_eqb, not-true}
use Rattle.bounded.specs.Bounded.{sum_below}
use Rattle.bounded.proofs.Truth.{and-true, or-true, or_right, bool, same}
use Rattle.bounded.proofs.Laws.{sum_same, sum_less}
use Rattle.onecopy.specs.Copy.{Table}
use Rattle.onecopy.specs.View.{View}
use Rattle.onecopy.proofs.Base.{sum-zero, at2, at2_same, at2_other, at3, at3_same, at3_other}
use Rattle.onecopy.proofs.Inv.{Fit, Inv, cast_site}
use Rattle.onecopy.proofs.Deliver.{deliver_v, Delivers, carry_v}
use Rattle.onecopy.proofs.Close.{close_v, Closes}
use Rattle.onecopy.proofs.Live.{Kept, Voted, Stuck, all_closed}

abbrev pub tick : Bool → ℕ
tick b = cond b 1 0

-- what is counted: how many transactions there are, which are local, who votes on which, which sites run, and which transactions are submitted
pub record Count : Type 0 where
  pub txns : ℕ
  pub local : ℕ → Bool
  pub voter : ℕ → ℕ → Bool
  pub up : ℕ → Bool
  pub billed : ℕ → Bool

-- one site's part: to deliver t, and to close it
abbrev pub part : Table → Count → (ℕ → Bool) → (ℕ → ℕ) → ℕ → ℕ → ℕ
part T n d c t s = tick ((T.concerns s t && n.up s) && not (d s)) + tick ((T.concerns s t && n.up s) && eqb (c s) 0)

-- one vote's part, cast or to be cast by a running site: to hand it to another running site
abbrev pub hand : Table → Count → (ℕ → ℕ) → (ℕ → ℕ → Bool) → ℕ → ℕ → ℕ → ℕ
hand T n g h t f a = tick (((n.voter f t && (n.up f || ltb 0 (g f))) && (T.concerns a t && n.up a)) && (not (eqb f a) && not (h f a)))

-- what is left to do on t, by who delivered it, who closed it, who voted and who holds whose vote
unfoldable pub row : Table → Count → (ℕ → Bool) → (ℕ → ℕ) → (ℕ → ℕ) → (ℕ → ℕ → Bool) → ℕ → ℕ
row T n d c g h t = sum_below T.sites (part T n d c t) + cond (n.local t) 0 (sum_below T.sites (λ f. sum_below T.sites (hand T n g h t f)))

abbrev pub row_v : Table → Count → View → ℕ → ℕ
row_v T n v t = cond (n.billed t) (row T n (λ s. v.delivered s t) (λ s. v.closed s t) (λ s. v.cast s t) (v.held t) t) 0

unfoldable pub todo : Table → Count → View → ℕ
todo T n v = sum_below n.txns (row_v T n v)

-- the row of t loses 1 and the others stay
one_row : (T : Table) (n : Count) (v w : View) (t : ℕ) → t < n.txns → n.billed t ≡ true
    → ((u : ℕ) → (u ≡ t → ⊥) → ((s : ℕ) → w.delivered s u ≡ v.delivered s u) × ((s : ℕ) → w.closed s u ≡ v.closed s u)
    × ((s : ℕ) → w.cast s u ≡ v.cast s u) × ((f b : ℕ) → w.held u f b ≡ v.held u f b))
    → suc (row T n (λ s. w.delivered s t) (λ s. w.closed s t) (λ s. w.cast s t) (w.held t) t)
    ≡ row T n (λ s. v.delivered s t) (λ s. v.closed s t) (λ s. v.cast s t) (v.held t) t
    → todo T n v ≡ suc (todo T n w)
unfolding todo
one_row T n v w t l b other e = sym (sum_less n.txns t (row_v T n w) (row_v T n v) l
    (λ u _ m. let (d, c, g, h) = other u m in λ j. cond (n.billed u) (row T n (λ s. d s j) (λ s. c s j) (λ s. g s j) (λ f a. h f a j) u) 0)
    (rw b e))

module _ (T : Table) (fit : Fit T) (n : Count) (v : View) (i : Inv T v) where
  pub deliver_todo : (s t c : ℕ) → t < n.txns → n.billed t ≡ true → n.up s ≡ true → Delivers T v s t c → todo T n v ≡ suc (todo T n (deliver_v v s t c))
  unfolding deliver_v row
  deliver_todo s t c l b x g = one_row T n v (deliver_v v s t c) t l b
      (λ u m. (
        λ a. at2_other v.delivered s t true a u (λ q. m q.1),
        λ a. refl,
        λ a. at2_other v.cast s t c a u (λ q. m q.1),
        λ f a. at3_other v.held t s s (ltb 0 c) u f a (λ q. m q.0),
      ))
      (rw hands (omega (arith, parts)))
    where
      d : ℕ → Bool
      d a = at2 v.delivered s t true a t

      parts : suc (sum_below T.sites (part T n d (λ a. v.closed a t) t)) ≡ sum_below T.sites (part T n (λ a. v.delivered a t) (λ a. v.closed a t) t)
      parts = sum_less T.sites s (part T n d (λ a. v.closed a t) t) (part T n (λ a. v.delivered a t) (λ a. v.closed a t) t)
          (fit.known s t g.ready.concerned)
          (λ a _ m. rw (at2_other v.delivered s t true a t (λ q. m q.0)))
          (rw (at2_same v.delivered s t true, g.ready.concerned, g.ready.fresh, x) (omega arith))

      old : ℕ → ℕ → ℕ
      old = hand T n (λ a. v.cast a t) (v.held t) t

      new : ℕ → ℕ → ℕ
      new = hand T n (λ a. at2 v.cast s t c a t) (at3 v.held t s s (ltb 0 c) t) t

      each : (f a : ℕ) → new f a ≡ old f a
      each f a = elim (same f s) [
        | inl e ↦ rw (e, x) (elim (same a s) [
          | inl q ↦ rw (eq-eqb s a (sym q))
          | inr q ↦ rw (at3_other v.held t s s (ltb 0 c) t s a (λ y. q y.2))
        ])
        | inr e ↦ rw (at3_other v.held t s s (ltb 0 c) t f a (λ y. e y.1), at2_other v.cast s t c f t (λ y. e y.0))
      ]

      hands : sum_below T.sites (λ f. sum_below T.sites (new f)) ≡ sum_below T.sites (λ f. sum_below T.sites (old f))
      hands = λ j. sum_below T.sites (λ f. sum_below T.sites (λ a. each f a j))

  pub close_todo : (s t c : ℕ) → t < n.txns → n.billed t ≡ true → n.up s ≡ true → Closes T v s t c → todo T n v ≡ suc (todo T n (close_v T v s t c))
  unfolding close_v row
  close_todo s t c l b x g = one_row T n v (close_v T v s t c) t l b
      (λ u m. (λ a. refl, λ a. at2_other v.closed s t c a u (λ q. m q.1), λ a. refl, λ f a. refl))
      (omega (arith, parts))
    where
      d : ℕ → ℕ
      d a = at2 v.closed s t c a t

      parts : suc (sum_below T.sites (part T n (λ a. v.delivered a t) d t)) ≡ sum_below T.sites (part T n (λ a. v.delivered a t) (λ a. v.closed a t) t)
      parts = sum_less T.sites s (part T n (λ a. v.delivered a t) d t) (part T n (λ a. v.delivered a t) (λ a. v.closed a t) t)
          (fit.known s t (i.delivered_concerns s t g.here))
          (λ a _ m. rw (at2_other v.closed s t c a t (λ q. m q.0)))
          (rw (at2_same v.closed s t c, i.delivered_concerns s t g.here, g.here, g.opened, x, ne_eqb c 0 (λ e. let p = g.positive in omega arith)))

  pub carry_todo : (t f a : ℕ) → t < n.txns → n.billed t ≡ true → n.up a ≡ true → n.local t ≡ false → (f ≡ a → ⊥) → 0 < v.cast f t → n.voter f t ≡ true
      → T.concerns a t ≡ true → v.held t f a ≡ false → todo T n v ≡ suc (todo T n (carry_v v t f a))
  unfolding carry_v row
  carry_todo t f a l b x lo ne c vo co h = one_row T n v (carry_v v t f a) t l b
      (λ u m. (λ x. refl, λ x. refl, λ x. refl, λ x y. at3_other v.held t f a true u x y (λ q. m q.0)))
      (rw lo (omega (arith, hands)))
    where
      old : ℕ → ℕ → ℕ
      old = hand T n (λ y. v.cast y t) (v.held t) t

      new : ℕ → ℕ → ℕ
      new = hand T n (λ y. v.cast y t) (at3 v.held t f a true t) t

      hands : suc (sum_below T.sites (λ x. sum_below T.sites (new x))) ≡ sum_below T.sites (λ x. sum_below T.sites (old x))
      hands = sum_less T.sites f (λ x. sum_below T.sites (new x)) (λ x. sum_below T.sites (old x))
          (cast_site T fit v i f t c)
          (λ x _ m. sum_same T.sites (new x) (old x) (λ y _. rw (at3_other v.held t f a true t x y (λ q. m q.1))))
          (sum_less T.sites a (new f) (old f) (fit.known a t co)
          (λ y _ m. rw (at3_other v.held t f a true t f y (λ q. m q.2)))
          (rw (at3_same v.held t f a true, vo, co, x, ne_eqb f a ne, h, lt-ltb 0 (v.cast f t) c, or_right (n.up f) true refl)))

-- nothing is acceptable: nothing is left
pub stuck_todo : (T : Table) (fit : Fit T) (n : Count) (kept : Kept T n.local n.up) (v : View) (i : Inv T v) (voted : Voted T v) → Stuck T n.local n.up v
    → ((f t : ℕ) → n.voter f t ≡ true → (k : ℕ) × (T.reads t k ≡ true) × (T.holds f k ≡ true))
    → ((t : ℕ) → n.billed t ≡ true → 0 < v.order.place t) → todo T n v ≡ 0
unfolding todo row
stuck_todo T fit n kept v i voted z seat placed = sum-zero n.txns (row_v T n v) (λ t _. zero_row t (bool (n.billed t)))
  where
    closed : (s t : ℕ) → n.up s ≡ true → T.concerns s t ≡ true → 0 < v.order.place t → 0 < v.closed s t
    closed = all_closed T fit n.local n.up kept v i voted z

    zero_part : (s t : ℕ) → 0 < v.order.place t → part T n (λ a. v.delivered a t) (λ a. v.closed a t) t s ≡ 0
    zero_part s t a = elim (bool (T.concerns s t)) [
      | inl e ↦ elim (bool (n.up s)) [
        | inl x ↦ let c = closed s t x e a in rw (e, x, i.closed_delivered s t c, ne_eqb (v.closed s t) 0 (λ q. absurd (omega arith)))
        | inr x ↦ rw (e, x)
      ]
      | inr e ↦ rw e
    ]

    -- a vote counted is cast
    was : (f t : ℕ) → 0 < v.order.place t → n.voter f t ≡ true → (n.up f || ltb 0 (v.cast f t)) ≡ true → 0 < v.cast f t
    was f t a e o = elim (or-true (n.up f) (ltb 0 (v.cast f t)) o) [
      | inr q ↦ ltb-true 0 (v.cast f t) q
      | inl q ↦ let (k, r, h) = seat f t e in voted.votes f t k (i.closed_delivered f t (closed f t q (kept.reader f t k r h) a)) r h
    ]

    zero_hand : (f b t : ℕ) → 0 < v.order.place t → n.local t ≡ false → hand T n (λ a. v.cast a t) (v.held t) t f b ≡ 0
    zero_hand f b t a lo = none (((n.voter f t && (n.up f || ltb 0 (v.cast f t))) && (T.concerns b t && n.up b)) && (not (eqb f b) && not (v.held t f b))) (λ h.
        let (p, q) = and-true ((n.voter f t && (n.up f || ltb 0 (v.cast f t))) && (T.concerns b t && n.up b)) (not (eqb f b) && not (v.held t f b)) h in
        let (r, x) = and-true (n.voter f t && (n.up f || ltb 0 (v.cast f t))) (T.concerns b t && n.up b) p in
        let (e, o) = and-true (n.voter f t) (n.up f || ltb 0 (v.cast f t)) r in
        let (d, u) = and-true (T.concerns b t) (n.up b) x in
        let (m, y) = and-true (not (eqb f b)) (not (v.held t f b)) q in
        z.no_carry t f b u lo (eqb-false f b (not-true (eqb f b) m)) (was f t a e o) d (not-true (v.held t f b) y))
      where
        none : (x : Bool) → (x ≡ true → ⊥) → tick x ≡ 0
        none true h = absurd (h refl)
        none false h = refl

    zero_row : (t : ℕ) → (n.billed t ≡ true) ⊎ (n.billed t ≡ false) → row_v T n v t ≡ 0
    zero_row t (inr e) = rw e
    zero_row t (inl e) =
        let a = placed t e in
        rw (e, sum-zero T.sites (part T n (λ s. v.delivered s t) (λ s. v.closed s t) t) (λ s _. zero_part s t a))
        (elim (bool (n.local t)) [
          | inl lo ↦ rw lo
          | inr lo ↦ rw (
            lo,
            sum-zero T.sites (λ f. sum_below T.sites (hand T n (λ s. v.cast s t) (v.held t) t f))
                (λ f _. sum-zero T.sites (hand T n (λ s. v.cast s t) (v.held t) t f) (λ b _. zero_hand f b t a lo)),
          )
        ])
