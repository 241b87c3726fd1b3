-- From sets of keys to rows of keys: what two sets have in common, and whether one is in the other, is what the tables say of the rows.
-- Assumes nothing.
use Rattle.std.proofs.Common.{ℕ, ◌<◌, ◌≡◌, refl, sym, ◌∙◌, true, ◌&&◌, ◌||◌, inl, inr, List, eqb-true, eq-eqb}
use Rattle.bounded.proofs.Truth.{bool, and-true, and_put, or-true, or_left, or_right, iff_eq}
use Rattle.bounded.proofs.Laws.{any_put, any_get, any_same, all_put, all_get}
use Rattle.keys.specs.Keys.{member, meeting, including}
use Rattle.tables.specs.Lists.{row_at, in_row, meets}
use Rattle.tables.specs.Concern.{some_in, all_in}

-- ---- a set is in another where each of its keys is

in-get : (a m : ℕ) → including a m ≡ true → (k : ℕ) → k < 64 → member a k ≡ true → member m k ≡ true
unfolding including
in-get a m h k l e = rw e at (all_get 64 _ h k l)

in-put : (a m : ℕ) → ((k : ℕ) → k < 64 → member a k ≡ true → member m k ≡ true) → including a m ≡ true
unfolding including
in-put a m h = all_put 64 _ (λ k l. elim (bool (member a k)) [ inl e ↦ rw e (h k l e) | inr e ↦ rw e ])

-- ---- a set that has the first n keys of a row

module _ (a : ℕ) (row : List ℕ) (n : ℕ) (low : (k : ℕ) → member a k ≡ true → k < 64) (same : (k : ℕ) → member a k ≡ in_row row n k) where
  -- the i-th of the row is in it, and what is in it stands somewhere in the row
  has : (i : ℕ) → i < n → member a (row_at row i) ≡ true
  unfolding in_row
  has i l = same (row_at row i) ∙ any_put n _ i l (eq-eqb (row_at row i) (row_at row i) refl)

  from_row : (k : ℕ) → member a k ≡ true → (i : ℕ) × (i < n) × (row_at row i ≡ k)
  unfolding in_row
  from_row k h = let (i, l, q) = any_get n _ (sym (same k) ∙ h) in (i, l, eqb-true (row_at row i) k q)

  under : (i : ℕ) → i < n → row_at row i < 64
  under i l = low (row_at row i) (has i l)

  -- it meets m where one of the row is in m
  pub row_some : (m : ℕ) → meeting a m ≡ some_in row n m
  unfolding meeting some_in
  row_some m = iff_eq (meeting a m) (some_in row n m)
      (λ q. let (k, l, p) = any_get 64 _ q in let (x, y) = and-true (member a k) (member m k) p in let (i, j, r) = from_row k x in any_put n _ i j (rw r y))
      (λ q. let (i, l, p) = any_get n _ q in any_put 64 _ (row_at row i) (under i l) (and_put _ _ (has i l) p))

  -- it is in m where all of the row are
  pub row_all : (m : ℕ) → including a m ≡ all_in row n m
  unfolding all_in
  row_all m = iff_eq (including a m) (all_in row n m)
      (λ q. all_put n _ (λ i l. in-get a m q (row_at row i) (under i l) (has i l)))
      (λ q. in-put a m (λ k l x. let (i, j, r) = from_row k x in rw r at (all_get n _ q i j)))

  -- it meets the set of another row where the rows meet
  pub rows_meet : (b : ℕ) (other : List ℕ) (m : ℕ) → ((k : ℕ) → member b k ≡ in_row other m k) → meeting a b ≡ meets row n other m
  unfolding some_in meets
  rows_meet b other m e = row_some b ∙ any_same n _ _ (λ i l. e (row_at row i))

-- ---- the union of two sets

module _ (a b u : ℕ) (union : (k : ℕ) → member u k ≡ (member a k || member b k)) (m : ℕ) where
  -- it meets m where one of them does
  pub union_some : meeting u m ≡ (meeting a m || meeting b m)
  unfolding meeting
  union_some = iff_eq (meeting u m) (meeting a m || meeting b m)
      (λ q. let (k, l, p) = any_get 64 _ q in
      let (x, y) = and-true (member u k) (member m k) p in
      elim (or-true (member a k) (member b k) (sym (union k) ∙ x)) [
        | inl z ↦ or_left (meeting a m) (meeting b m) (any_put 64 _ k l (and_put (member a k) (member m k) z y))
        | inr z ↦ or_right (meeting a m) (meeting b m) (any_put 64 _ k l (and_put (member b k) (member m k) z y))
      ])
      (λ q. elim (or-true (meeting a m) (meeting b m) q) [
        | inl z ↦ let (k, l, p) = any_get 64 _ z in
            let (x, y) = and-true (member a k) (member m k) p in
            any_put 64 _ k l (and_put (member u k) (member m k) (union k ∙ or_left (member a k) (member b k) x) y)
        | inr z ↦ let (k, l, p) = any_get 64 _ z in
            let (x, y) = and-true (member b k) (member m k) p in
            any_put 64 _ k l (and_put (member u k) (member m k) (union k ∙ or_right (member a k) (member b k) x) y)
      ])

  -- it is in m where both are
  pub union_all : including u m ≡ (including a m && including b m)
  union_all = iff_eq (including u m) (including a m && including b m)
      (λ q. and_put (including a m) (including b m)
      (in-put a m (λ k l x. in-get u m q k l (union k ∙ or_left (member a k) (member b k) x)))
      (in-put b m (λ k l x. in-get u m q k l (union k ∙ or_right (member a k) (member b k) x))))
      (λ q. let (x, y) = and-true (including a m) (including b m) q in
      in-put u m (λ k l z. elim (or-true (member a k) (member b k) (sym (union k) ∙ z)) [
        | inl w ↦ in-get a m x k l w
        | inr w ↦ in-get b m y k l w
      ]))
