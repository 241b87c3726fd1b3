-- Laws of a walk whose turns make a state smaller: fuel above the size is enough, whatever it is.
-- Assumes nothing.
use Rattle.std.proofs.Common.{ℕ, zero, suc, ◌<◌, ◌≡◌, refl, arith}
use Rattle.files.specs.Walk.{Turn, go, stop, walk}

pub walk_stops : {S A : Type 0} (turn : S → Turn S A) (out : A) (k : ℕ) (x : S) (a : A) → turn x ≡ stop a → walk turn out (suc k) x ≡ a
unfolding walk
walk_stops turn out k x a e = rw (e, walk)

-- what holds of a turn: I of the state that it goes to, P of what it stops with
abbrev pub Has : {S A : Type 0} → (S → Type 0) → (A → Type 0) → Turn S A → Type 0
Has I P (go y) = I y
Has I P (stop a) = P a

module _ {S A : Type 0} (turn : S → Turn S A) (out : A) (size : S → ℕ) (falls : (x y : S) → turn x ≡ go y → size y < size x) where
  enough : (j k : ℕ) (x : S) → size x < j → size x < k → walk turn out j x ≡ walk turn out k x
  unfolding walk
  enough zero k x hj hk = absurd (omega arith)
  enough (suc j) zero x hj hk = absurd (omega arith)
  enough (suc j) (suc k) x hj hk = by (turn x) refl (λ y. enough j k y)
    where
      by : (t : Turn S A) → turn x ≡ t → ((y : S) → size y < j → size y < k → walk turn out j y ≡ walk turn out k y) → walk turn out (suc j) x ≡ walk turn out (suc k) x
      by (go y) e rest = rw (e, walk) (rest y (omega (arith, falls x y e)) (omega (arith, falls x y e)))
      by (stop a) e rest = rw (e, walk)

  -- what a loop's invariant carries from one turn to the next
  pub walk_goes : (x y : S) → turn x ≡ go y → walk turn out (suc (size y)) y ≡ walk turn out (suc (size x)) x
  unfolding walk
  walk_goes x y e = rw (e, walk) (enough (suc (size y)) (size x) y (omega arith) (falls x y e))

  -- what each turn keeps, the walk ends with
  pub walk_has : (I : S → Type 0) (P : A → Type 0) → ((x : S) → I x → Has I P (turn x)) → (k : ℕ) (x : S) → size x < k → I x → P (walk turn out k x)
  unfolding walk
  walk_has I P keeps zero x h i = absurd (omega arith)
  walk_has I P keeps (suc k) x h i = by (turn x) refl (keeps x i) (walk_has I P keeps k)
    where
      by : (t : Turn S A) → turn x ≡ t → Has I P t → ((y : S) → size y < k → I y → P (walk turn out k y)) → P (walk turn out (suc k) x)
      by (go y) e j rest = rw (e, walk) (rest y (omega (arith, falls x y e)) j)
      by (stop a) e p rest = rw (e, walk) p
