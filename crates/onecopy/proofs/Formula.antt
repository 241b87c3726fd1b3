-- The sum of document 01: what is left and what is done come to 2·|R| + |V|·(|R|−1) for each submitted global transaction, 2·|R| for each local one.
-- Assumes nothing.
use mathlib.Core.Path.{◌≡◌, refl, sym, ap, ◌∙◌}
use mathlib.Core.Bool.{Bool, true, false, ◌&&◌, not, cond}
use mathlib.Core.Logic.{inl, inr}
use Prim.Native.Nat.{ℕ, zero, suc, ◌+◌, ◌*◌, ◌-◌}
use native.Mathlib.Omega.{arith}
use lib.Dec.{eqb}
use borrow.Author.Tests.{eq-eqb, ne_eqb}
use Rattle.bounded.specs.Bounded.{sum_below, count_below}
use Rattle.bounded.proofs.Truth.{bool}
use Rattle.bounded.proofs.Laws.{sum_same, sum_less}
use Rattle.onecopy.specs.Copy.{Table}
use Rattle.onecopy.specs.View.{View}
use Rattle.onecopy.proofs.Base.{and_unit, sum-zero}
use Rattle.onecopy.proofs.Inv.{Fit}
use Rattle.onecopy.proofs.Count.{tick, Count, part, hand, row, row_v, todo}

pub sum-add : (n : ℕ) (f g : ℕ → ℕ) → sum_below n f + sum_below n g ≡ sum_below n (λ i. f i + g i)
unfolding sum_below
sum-add zero f g = refl
sum-add (suc n) f g = omega (arith, sum-add n f g)

pub sum_scale : (n z : ℕ) (f : ℕ → ℕ) → sum_below n (λ i. f i * z) ≡ sum_below n f * z
unfolding sum_below
sum_scale zero z f = omega arith
sum_scale (suc n) z f = omega (arith, sum_scale n z f)

-- |R(t)| and |V(t)|
unfoldable pub size_r : Table → ℕ → ℕ
size_r T t = count_below T.sites (λ s. T.concerns s t)

unfoldable pub size_v : Table → Count → ℕ → ℕ
size_v T n t = count_below T.sites (λ f. n.voter f t)

-- the DELIVER and CLOSE of t done at s; the CARRY of the vote of f on t to a
abbrev pub part_done : Table → View → ℕ → ℕ → ℕ
part_done T v t s = tick (T.concerns s t && v.delivered s t) + tick (T.concerns s t && not (eqb (v.closed s t) 0))

abbrev pub hand_done : Table → Count → View → ℕ → ℕ → ℕ → ℕ
hand_done T n v t f a = tick ((n.voter f t && T.concerns a t) && (not (eqb f a) && v.held t f a))

-- the DELIVER, CLOSE and CARRY done on t
unfoldable pub row_done : Table → Count → View → ℕ → ℕ
row_done T n v t = sum_below T.sites (part_done T v t) + cond (n.local t) 0 (sum_below T.sites (λ f. sum_below T.sites (hand_done T n v t f)))

-- the steps that t takes in all
abbrev pub whole : Table → Count → ℕ → ℕ
whole T n t = 2 * size_r T t + cond (n.local t) 0 (size_v T n t * (size_r T t - 1))

module _ (T : Table) (fit : Fit T) (n : Count) (v : View) (up : (s : ℕ) → n.up s ≡ true) (in-R : (f t : ℕ) → n.voter f t ≡ true → T.concerns f t ≡ true) where
  abbrev left : ℕ → ℕ → ℕ
  left t = part T n (λ s. v.delivered s t) (λ s. v.closed s t) t

  abbrev left_hand : ℕ → ℕ → ℕ → ℕ
  left_hand t = hand T n (λ s. v.cast s t) (v.held t) t

  parts : (t : ℕ) → sum_below T.sites (left t) + sum_below T.sites (part_done T v t) ≡ 2 * size_r T t
  unfolding size_r
  parts t =
      sum-add T.sites (left t) (part_done T v t)
      ∙ sum_same T.sites (λ s. left t s + part_done T v t s) (λ s. tick (T.concerns s t) * 2)
      (λ s _. rw (up s) (both (T.concerns s t) (v.delivered s t) (eqb (v.closed s t) 0)))
      ∙ sum_scale T.sites 2 (λ s. tick (T.concerns s t))
      ∙ omega arith
    where
      both : (a d c : Bool) → (tick ((a && true) && not d) + tick ((a && true) && c)) + (tick (a && d) + tick (a && not c)) ≡ tick a * 2
      both true true true = refl
      both true true false = refl
      both true false true = refl
      both true false false = refl
      both false d c = refl

  -- the vote of a site of R(t) goes to the others
  others : (t f : ℕ) → T.concerns f t ≡ true → suc (sum_below T.sites (λ a. tick (T.concerns a t && not (eqb f a)))) ≡ size_r T t
  unfolding size_r
  others t f c = sum_less T.sites f (λ a. tick (T.concerns a t && not (eqb f a))) (λ a. tick (T.concerns a t)) (fit.known f t c)
      (λ a _ m. rw (ne_eqb f a (λ q. m (sym q))) (ap tick (and_unit (T.concerns a t))))
      (rw (c, eq-eqb f f refl))

  each : (t f : ℕ) → sum_below T.sites (λ a. left_hand t f a + hand_done T n v t f a) ≡ tick (n.voter f t) * (size_r T t - 1)
  each t f = elim (bool (n.voter f t)) [
    | inl e ↦
        sum_same T.sites (λ a. left_hand t f a + hand_done T n v t f a) (λ a. tick (T.concerns a t && not (eqb f a)))
        (λ a _. rw (e, up f, up a, and_unit (T.concerns a t)) (either (T.concerns a t) (not (eqb f a)) (v.held t f a)))
        ∙ rw e (omega (arith, others t f (in-R f t e)))
    | inr e ↦ sum-zero T.sites (λ a. left_hand t f a + hand_done T n v t f a) (λ a _. rw e) ∙ rw e (omega arith)
  ]
    where
      either : (a e h : Bool) → tick (a && (e && not h)) + tick (a && (e && h)) ≡ tick (a && e)
      either true true true = refl
      either true true false = refl
      either true false h = refl
      either false e h = refl

  hands : (t : ℕ) → sum_below T.sites (λ f. sum_below T.sites (left_hand t f)) + sum_below T.sites (λ f. sum_below T.sites (hand_done T n v t f))
      ≡ size_v T n t * (size_r T t - 1)
  unfolding size_v
  hands t =
      sum-add T.sites (λ f. sum_below T.sites (left_hand t f)) (λ f. sum_below T.sites (hand_done T n v t f))
      ∙ sum_same T.sites (λ f. sum_below T.sites (left_hand t f) + sum_below T.sites (hand_done T n v t f)) (λ f. tick (n.voter f t) * (size_r T t - 1))
      (λ f _. sum-add T.sites (left_hand t f) (hand_done T n v t f) ∙ each t f)
      ∙ sum_scale T.sites (size_r T t - 1) (λ f. tick (n.voter f t))

  -- document 01: what is left is the sum over submitted transactions, less what is done
  pub formula : todo T n v + sum_below n.txns (λ t. cond (n.billed t) (row_done T n v t) 0) ≡ sum_below n.txns (λ t. cond (n.billed t) (whole T n t) 0)
  unfolding todo row row_done
  formula =
      sum-add n.txns (row_v T n v) (λ t. cond (n.billed t) (row_done T n v t) 0)
      ∙ sum_same n.txns (λ t. row_v T n v t + cond (n.billed t) (row_done T n v t) 0) (λ t. cond (n.billed t) (whole T n t) 0)
      (λ t _. elim (bool (n.billed t)) [
        | inr b ↦ rw b
        | inl b ↦ rw b (elim (bool (n.local t)) [
          | inl o ↦ rw o (omega (arith, parts t))
          | inr o ↦ rw o (omega (arith, parts t, hands t))
        ])
      ])
