-- The laws of tests, sums and searches below a bound: one turn of each, what they say of each number, and where a search stands.
-- Assumes nothing.
use Prim.Native.Nat.{ℕ, zero, suc, ◌+◌, ◌*◌, ◌-◌, ◌≤◌, ◌<◌}
use mathlib.Core.Path.{◌≡◌, refl, sym, ◌∙◌}
use mathlib.Core.Bool.{Bool, true, false, ◌&&◌, ◌||◌, not, cond}
use mathlib.Core.Logic.{◌⊎◌, inl, inr}
use native.Mathlib.Omega.{arith}
use native.Mathlib.Numerals.{add-one, sub-one}
use native.Mathlib.Nat.{not-suc-le-zero}
use lib.Dec.{ltb}
use borrow.Author.Tests.{ltb-true, ltb-false, eq-eqb, ne_eqb, not-true, not-false}
use Rattle.bounded.specs.Bounded.{any_below, all_below, sum_below, count_below, earlier, first_below, least_below, or_else, first_of}
use Rattle.bounded.proofs.Truth.{and-true, and_put, or-true, or_left, or_right, bool, clash, same}

-- ---- one turn

pub any_down : (i : ℕ) (p : ℕ → Bool) → 0 < i → any_below i p ≡ (p (i - 1) || any_below (i - 1) p)
unfolding any_below
any_down zero p h = absurd (not-suc-le-zero h)
any_down (suc i) p h = rw sub-one

pub any_up : (i : ℕ) (p : ℕ → Bool) → any_below (i + 1) p ≡ (p i || any_below i p)
unfolding any_below
any_up i p = rw add-one

pub all_down : (i : ℕ) (p : ℕ → Bool) → 0 < i → all_below i p ≡ (p (i - 1) && all_below (i - 1) p)
unfolding all_below
all_down zero p h = absurd (not-suc-le-zero h)
all_down (suc i) p h = rw sub-one

pub sum_up : (i : ℕ) (f : ℕ → ℕ) → sum_below (i + 1) f ≡ sum_below i f + f i
unfolding sum_below
sum_up i f = rw add-one

pub first_up : (i : ℕ) (rank : ℕ → ℕ) (p : ℕ → Bool) (d : ℕ) → first_below (i + 1) rank p d ≡ earlier rank (p i) d i (first_below i rank p d)
unfolding first_below
first_up i rank p d = rw add-one

pub of_up : (i : ℕ) (f : ℕ → ℕ) → first_of (i + 1) f ≡ or_else (first_of i f) (f i)
unfolding first_of
of_up i f = rw add-one

-- what is not 0 stands before anything else, and where neither is there both are 0
pub else-keep : (a b : ℕ) → (a ≡ 0 → ⊥) → or_else a b ≡ a
else-keep zero b h = absurd (h refl)
else-keep (suc a) b h = refl

pub else-none : (a b : ℕ) → or_else a b ≡ 0 → (a ≡ 0) × (b ≡ 0)
else-none zero b h = (refl, h)
else-none (suc a) b h = absurd (omega arith)

-- a search for the first that is not 0 stops there
of_stop : (n g : ℕ) (f : ℕ → ℕ) → g < n → first_of g f ≡ 0 → (f g ≡ 0 → ⊥) → first_of n f ≡ f g
unfolding first_of
of_stop zero g f l z s = absurd (not-suc-le-zero l)
of_stop (suc n) g f l z s = go (same g n) (of_stop n g f)
  where
    go : (g ≡ n) ⊎ (g ≡ n → ⊥) → (g < n → first_of g f ≡ 0 → (f g ≡ 0 → ⊥) → first_of n f ≡ f g) → or_else (first_of n f) (f n) ≡ f g
    go (inl e) r = rw (← e, z)
    go (inr d) r = let e : first_of n f ≡ f g = r (omega arith) z s in rw e (else-keep (f g) (f n) s)

-- so a loop that looks for it returns the one that it finds
pub stops : (n g x : ℕ) (f : ℕ → ℕ) → g < n → first_of g f ≡ 0 → x ≡ f g → (x ≡ 0 → ⊥) → x ≡ first_of n f
stops n g x f l z e s = e ∙ sym (of_stop n g f l z (λ q. s (e ∙ q)))

-- where it finds none, all are 0
pub of_none : (n : ℕ) (f : ℕ → ℕ) → first_of n f ≡ 0 → (g : ℕ) → g < n → f g ≡ 0
unfolding first_of
of_none zero f z g l = absurd (not-suc-le-zero l)
of_none (suc n) f z g l = let (a, b) = else-none (first_of n f) (f n) z in go b (of_none n f a g) (same g n)
  where
    go : f n ≡ 0 → (g < n → f g ≡ 0) → (g ≡ n) ⊎ (g ≡ n → ⊥) → f g ≡ 0
    go b r (inl e) = rw e b
    go b r (inr d) = r (omega arith)

pub of_put : (n : ℕ) (f : ℕ → ℕ) → ((i : ℕ) → i < n → f i ≡ 0) → first_of n f ≡ 0
unfolding first_of
of_put zero f h = refl
of_put (suc n) f h = rw (of_put n f (λ i l. h i (omega arith))) (h n (omega arith))

-- ---- what they say of each number

pub any_put : (n : ℕ) (p : ℕ → Bool) (i : ℕ) → i < n → p i ≡ true → any_below n p ≡ true
unfolding any_below
any_put zero p i l h = absurd (not-suc-le-zero l)
any_put (suc n) p i l h = go (same i n) (any_put n p i)
  where
    go : (i ≡ n) ⊎ (i ≡ n → ⊥) → (i < n → p i ≡ true → any_below n p ≡ true) → (p n || any_below n p) ≡ true
    go (inl e) r = or_left (p n) (any_below n p) (rw e at h)
    go (inr d) r = or_right (p n) (any_below n p) (r (omega arith) h)

pub any_get : (n : ℕ) (p : ℕ → Bool) → any_below n p ≡ true → (i : ℕ) × (i < n) × (p i ≡ true)
unfolding any_below
any_get zero p h = clash h refl
any_get (suc n) p h = go (or-true (p n) (any_below n p) h) (any_get n p)
  where
    go : (p n ≡ true) ⊎ (any_below n p ≡ true) → (any_below n p ≡ true → (i : ℕ) × (i < n) × (p i ≡ true)) → (i : ℕ) × (i < suc n) × (p i ≡ true)
    go (inl e) r = (n, omega arith, e)
    go (inr e) r = let (i, l, q) = r e in (i, omega arith, q)

pub any_none : (n : ℕ) (p : ℕ → Bool) → any_below n p ≡ false → (i : ℕ) → i < n → p i ≡ false
any_none n p h i l = elim (bool (p i)) [ inl e ↦ clash (any_put n p i l e) h | inr e ↦ e ]

pub all_get : (n : ℕ) (p : ℕ → Bool) → all_below n p ≡ true → (i : ℕ) → i < n → p i ≡ true
unfolding all_below
all_get zero p h i l = absurd (not-suc-le-zero l)
all_get (suc n) p h i l = let (a, b) = and-true (p n) (all_below n p) h in go a (all_get n p b) (same i n)
  where
    go : p n ≡ true → ((j : ℕ) → j < n → p j ≡ true) → (i ≡ n) ⊎ (i ≡ n → ⊥) → p i ≡ true
    go a r (inl e) = rw e a
    go a r (inr e) = r i (omega arith)

pub all_put : (n : ℕ) (p : ℕ → Bool) → ((i : ℕ) → i < n → p i ≡ true) → all_below n p ≡ true
unfolding all_below
all_put zero p h = refl
all_put (suc n) p h = and_put (p n) (all_below n p) (h n (omega arith)) (all_put n p (λ i l. h i (omega arith)))

-- not all pass: one does not
pub all_none : (n : ℕ) (p : ℕ → Bool) → all_below n p ≡ false → (i : ℕ) × (i < n) × (p i ≡ false)
all_none n p h = elim (bool (any_below n (λ i. not (p i)))) [
  | inl e ↦ let (i, l, q) = any_get n (λ i. not (p i)) e in (i, l, not-true (p i) q)
  | inr e ↦ clash (all_put n p (λ i l. not-false (p i) (any_none n (λ i. not (p i)) e i l))) h
]

pub any_lack : (n : ℕ) (p : ℕ → Bool) → ((i : ℕ) → i < n → p i ≡ true → ⊥) → any_below n p ≡ false
any_lack n p h = elim (bool (any_below n p)) [ inl e ↦ absurd (let (i, l, q) = any_get n p e in h i l q) | inr e ↦ e ]

-- ---- tests and searches that agree at each number

pub all_same : (n : ℕ) (p q : ℕ → Bool) → ((i : ℕ) → i < n → p i ≡ q i) → all_below n p ≡ all_below n q
unfolding all_below
all_same zero p q h = refl
all_same (suc n) p q h = rw (h n (omega arith), all_same n p q (λ i l. h i (omega arith)))

pub any_same : (n : ℕ) (p q : ℕ → Bool) → ((i : ℕ) → i < n → p i ≡ q i) → any_below n p ≡ any_below n q
unfolding any_below
any_same zero p q h = refl
any_same (suc n) p q h = rw (h n (omega arith), any_same n p q (λ i l. h i (omega arith)))

pub first-same : (n : ℕ) (rank : ℕ → ℕ) (p q : ℕ → Bool) (d : ℕ) → ((i : ℕ) → i < n → p i ≡ q i) → first_below n rank p d ≡ first_below n rank q d
unfolding first_below
first-same zero rank p q d h = refl
first-same (suc n) rank p q d h = rw (h n (omega arith), first-same n rank p q d (λ i l. h i (omega arith)))

-- ---- where a search stands

-- the one found passes, is below n, and none that passes ranks below it, or as low with a lower number
pub record First (n : ℕ) (rank : ℕ → ℕ) (p : ℕ → Bool) (i : ℕ) : Type 0 where
  pub low : i < n
  pub passes : p i ≡ true
  pub least : (j : ℕ) → j < n → p j ≡ true → rank i ≤ rank j
  pub lower : (j : ℕ) → j < n → p j ≡ true → rank j ≡ rank i → i ≤ j

-- a search finds the first, or none passes
pub first-is : (n : ℕ) (rank : ℕ → ℕ) (p : ℕ → Bool) (d : ℕ) → n ≤ d
    → First n rank p (first_below n rank p d) ⊎ ((first_below n rank p d ≡ d) × ((j : ℕ) → j < n → p j ≡ false))
unfolding first_below
first-is zero rank p d l = inr (refl, λ j k. absurd (not-suc-le-zero k))
first-is (suc n) rank p d l = step (first_below n rank p d) (first-is n rank p d (omega arith)) (p n) refl
  where
    here : (f : ℕ) → p n ≡ true → ((j : ℕ) → j < n → p j ≡ true → rank n < rank j) → First (suc n) rank p n
    here f e h = record {
      low = omega arith;
      passes = e;
      least = λ j k q. elim (same j n) [ inl x ↦ rw x (omega arith) | inr x ↦ omega (arith, h j (omega arith) q) ];
      lower = λ j k q r. elim (same j n) [ inl x ↦ omega arith | inr x ↦ absurd (omega (arith, h j (omega arith) q)) ];
    }

    keep : (f : ℕ) → First n rank p f → (p n ≡ true → rank f ≤ rank n) → First (suc n) rank p f
    keep f g h = record {
      low = omega (arith, g.low);
      passes = g.passes;
      least = λ j k q. elim (same j n) [ inl x ↦ rw x (h (rw x at q)) | inr x ↦ g.least j (omega arith) q ];
      lower = λ j k q r. elim (same j n) [ inl x ↦ omega (arith, g.low) | inr x ↦ g.lower j (omega arith) q r ];
    }

    step : (f : ℕ) → First n rank p f ⊎ ((f ≡ d) × ((j : ℕ) → j < n → p j ≡ false)) → (b : Bool) → p n ≡ b
        → First (suc n) rank p (earlier rank b d n f) ⊎ ((earlier rank b d n f ≡ d) × ((j : ℕ) → j < suc n → p j ≡ false))
    step f (inl g) false e = inl (keep f g (λ q. clash q e))
    step f (inr q) false e = inr (q.0, λ j k. elim (same j n) [ inl x ↦ rw x e | inr x ↦ q.1 j (omega arith) ])
    step f (inr q) true e = rw (eq-eqb f d q.0) (inl (here f e (λ j k h. clash h (q.1 j k))))
    step f (inl g) true e = rw (ne_eqb f d (λ x. absurd (omega (arith, g.low)))) (elim (bool (ltb (rank n) (rank f))) [
      | inl y ↦ rw y (inl (here f e (λ j k h. omega (arith, ltb-true (rank n) (rank f) y, g.least j k h))))
      | inr y ↦ rw y (inl (keep f g (λ _. ltb-false (rank n) (rank f) y)))
    ])

-- ---- what a search answers

module _ (n : ℕ) (rank : ℕ → ℕ) (p : ℕ → Bool) (d : ℕ) (fits : n ≤ d) where
  -- the first one, if there is one
  pub first_only : (i : ℕ) → First n rank p i → first_below n rank p d ≡ i
  first_only i f = elim (first-is n rank p d fits) [
    | inl g ↦
        let j = first_below n rank p d in
        let a : rank j ≤ rank i = g.least i f.low f.passes in
        let b : rank i ≤ rank j = f.least j g.low g.passes in
        let e : rank i ≡ rank j = omega arith in
        omega (arith, f.lower j g.low g.passes (sym e), g.lower i f.low f.passes e)
    | inr q ↦ clash f.passes (q.1 i f.low)
  ]

  -- d, if none passes
  pub first-none : ((j : ℕ) → j < n → p j ≡ true → ⊥) → first_below n rank p d ≡ d
  first-none h = elim (first-is n rank p d fits) [ inl g ↦ absurd (h (first_below n rank p d) g.low g.passes) | inr q ↦ q.0 ]

  -- and what it answers tells which
  pub first_has : first_below n rank p d < d → First n rank p (first_below n rank p d)
  first_has l = elim (first-is n rank p d fits) [ inl g ↦ g | inr q ↦ absurd (omega (arith, q.0)) ]

  pub first_lacks : d ≤ first_below n rank p d → (j : ℕ) → j < n → p j ≡ true → ⊥
  first_lacks l j k h = elim (first-is n rank p d fits) [ inl g ↦ absurd (omega (arith, g.low)) | inr q ↦ clash h (q.1 j k) ]

-- ---- the lowest number that passes, looked for from below

pub least_up : (i : ℕ) (p : ℕ → Bool) (d : ℕ) → least_below i p d ≡ d → p i ≡ false → least_below (i + 1) p d ≡ d
least_up i p d e f = first_up i (λ j. 0) p d ∙ rw f e

pub least_stop : (n i : ℕ) (p : ℕ → Bool) (d : ℕ) → i < n → n ≤ d → least_below i p d ≡ d → p i ≡ true → least_below n p d ≡ i
least_stop n i p d l b e t = elim (first-is n (λ j. 0) p d b) [
  | inr q ↦ clash t (q.1 i l)
  | inl g ↦ elim (first-is i (λ j. 0) p d (omega arith)) [
    | inl h ↦ absurd (omega (arith, h.low))
    | inr q ↦ elim (bool (ltb (least_below n p d) i)) [
      | inl y ↦ clash g.passes (q.1 (least_below n p d) (ltb-true (least_below n p d) i y))
      | inr y ↦ omega (arith, ltb-false (least_below n p d) i y, g.lower i l t refl)
    ]
  ]
]

-- ---- sums

pub sum_same : (n : ℕ) (f g : ℕ → ℕ) → ((i : ℕ) → i < n → f i ≡ g i) → sum_below n f ≡ sum_below n g
unfolding sum_below
sum_same zero f g h = refl
sum_same (suc n) f g h = omega (arith, sum_same n f g (λ i l. h i (omega arith)), h n (omega arith))

-- one of them is one less, the others are the same
pub sum_less : (n j : ℕ) (f g : ℕ → ℕ) → j < n → ((i : ℕ) → i < n → (i ≡ j → ⊥) → f i ≡ g i) → suc (f j) ≡ g j → suc (sum_below n f) ≡ sum_below n g
unfolding sum_below
sum_less zero j f g l h e = absurd (not-suc-le-zero l)
sum_less (suc n) j f g l h e = go (same n j) (sum_less n j f g)
  where
    go : (n ≡ j) ⊎ (n ≡ j → ⊥) → (j < n → ((i : ℕ) → i < n → (i ≡ j → ⊥) → f i ≡ g i) → suc (f j) ≡ g j → suc (sum_below n f) ≡ sum_below n g)
        → suc (sum_below n f + f n) ≡ sum_below n g + g n
    go (inl d) r = let q : suc (f n) ≡ g n = rw d e in omega (arith, sum_same n f g (λ i m. h i (omega arith) (λ x. absurd (omega arith))))
    go (inr d) r = omega (arith, r (omega arith) (λ i m. h i (omega arith)) e, h n (omega arith) d)

pub sum_most : (n m : ℕ) (f : ℕ → ℕ) → ((i : ℕ) → i < n → f i ≤ m) → sum_below n f ≤ n * m
unfolding sum_below
sum_most zero m f h = omega arith
sum_most (suc n) m f h = omega (arith, sum_most n m f (λ i l. h i (omega arith)), h n (omega arith))

-- a sum of terms none of which is more is no more
pub sum-le : (n : ℕ) (f g : ℕ → ℕ) → ((i : ℕ) → i < n → f i ≤ g i) → sum_below n f ≤ sum_below n g
unfolding sum_below
sum-le zero f g h = omega arith
sum-le (suc n) f g h = omega (arith, sum-le n f g (λ i l. h i (omega arith)), h n (omega arith))

-- and less, if one of them is
pub sum_lt : (n j : ℕ) (f g : ℕ → ℕ) → j < n → ((i : ℕ) → i < n → f i ≤ g i) → f j < g j → sum_below n f < sum_below n g
unfolding sum_below
sum_lt zero j f g l h e = absurd (not-suc-le-zero l)
sum_lt (suc n) j f g l h e = go (same n j) (sum_lt n j f g)
  where
    go : (n ≡ j) ⊎ (n ≡ j → ⊥) → (j < n → ((i : ℕ) → i < n → f i ≤ g i) → f j < g j → sum_below n f < sum_below n g) → suc (sum_below n f + f n) ≤ sum_below n g + g n
    go (inl d) r = let q : f n < g n = rw d e in omega (arith, sum-le n f g (λ i m. h i (omega arith)))
    go (inr d) r = omega (arith, r (omega arith) (λ i m. h i (omega arith)) e, h n (omega arith))

-- fewer pass a test that asks more, if one passes only the other
pub count_less : (n j : ℕ) (p q : ℕ → Bool) → j < n → ((i : ℕ) → p i ≡ true → q i ≡ true) → p j ≡ false → q j ≡ true → count_below n p < count_below n q
count_less n j p q l h a b = sum_lt n j (λ i. cond (p i) 1 0) (λ i. cond (q i) 1 0) l (λ i _. le (p i) (q i) (h i)) (rw (a, b) (omega arith))
  where
    le : (x y : Bool) → (x ≡ true → y ≡ true) → cond x 1 0 ≤ cond y 1 0
    le true y f = rw (f refl) (omega arith)
    le false y f = omega arith

-- of n at most n pass, and fewer if one does not
pub count_most : (n : ℕ) (p : ℕ → Bool) → count_below n p ≤ n
count_most n p = omega (arith, sum_most n 1 (λ i. cond (p i) 1 0) (λ i l. one (p i)))
  where
    one : (b : Bool) → cond b 1 0 ≤ 1
    one true = omega arith
    one false = omega arith

pub count_short : (n j : ℕ) (p : ℕ → Bool) → j < n → p j ≡ false → count_below n p < n
count_short n j p l h = omega (arith, count_less n j p (λ i. true) l (λ i e. refl) h refl, count_most n (λ i. true))
