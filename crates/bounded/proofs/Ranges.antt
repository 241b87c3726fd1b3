-- Tests of a range, from its first number up or from its last down, are tests below its end, and a count of a list's front is one below its end.
use Rattle.std.proofs.Common.{ℕ, zero, suc, ◌+◌, ◌≤◌, ◌<◌, ◌≡◌, Bool, true, false, ◌&&◌, ◌||◌, cond, List, [], ◌∷◌, ◌++◌, length, get_or, take, ◌-◌, ltb, refl, sym, ap, subst, ◌∙◌, zero-add, add-one, arith}
use Rattle.std.specs.List.{range_with_len, list_any, list_all, count_by, FoldsTo, AllWithin, HoldsAt}
use Rattle.std.specs.Iterator.{YieldsThen}
use Rattle.std.specs.Fn.{Called}
use Rattle.std.specs.Bool.{MatchBool}
use Rattle.std.specs.Option.{MatchOption}
use Rattle.std.proofs.iter.Yields.{nat_range_steps}
use Rattle.std.specs.Iterator.Adapters.{rev_source, rev_steps}
use Rattle.std.specs.Range.{range_steps_back}
use Rattle.std.specs.declared.iter.Rev.{Rev}
use Rattle.std.specs.declared.ops.Range.{Range}
use Rattle.std.specs.Prelude.{Option}
use denote.Param.Members.{Mut}
use mathlib.Core.Logic.{◌⊎◌, inl, inr}
use Rattle.std.proofs.lemmas.Iterator.{YieldsList, YieldsList-from_range, cases_from_all, cases_from_any}
use Rattle.std.proofs.lemmas.Iterator.Consumers.{YieldsList-from_shown}
use Rattle.std.proofs.lemmas.List.FromFn.{length-range_with_len, get_or-range_with_len}
use Rattle.bounded.proofs.Truth.{bool, clash}
use Rattle.bounded.proofs.Laws.{any_put, any_lack, all_put, all_get}
use Rattle.std.proofs.lemmas.List.Folds.{list_any-append, list_all-append}
use borrow.Author.Tests.{ltb-true, ltb-false}
use lib.ListN.{get_or-eq_default}
use Rattle.std.proofs.lemmas.List.{take_all}
use Rattle.std.proofs.lemmas.List.Sums.{sum_by_more}
use Rattle.bounded.specs.Bounded.{any_below, all_below, sum_below, count_below}

range_more : (a n : ℕ) → range_with_len a (suc n) ≡ range_with_len a n ++ (a + n) ∷ []
range_more a zero = ap (λ x. x ∷ []) (omega arith)
range_more a (suc n) = ap (λ l. a ∷ l) (range_more (a + 1) n) ∙ ap (λ x. a ∷ (range_with_len (a + 1) n ++ x ∷ [])) (omega arith)

or_swap : (a b : Bool) → (a || (b || false)) ≡ (b || a)
or_swap true true = refl
or_swap true false = refl
or_swap false true = refl
or_swap false false = refl

and_swap : (a b : Bool) → (a && (b && true)) ≡ (b && a)
and_swap true true = refl
and_swap true false = refl
and_swap false true = refl
and_swap false false = refl

pub any_in_range : (n : ℕ) (p : ℕ → Bool) → list_any p (range_with_len 0 n) ≡ any_below n p
unfolding any_below
any_in_range zero p = refl
any_in_range (suc n) p =
    ap (list_any p) (range_more 0 n) ∙ list_any-append p (range_with_len 0 n) ((0 + n) ∷ []) ∙ rw (zero-add n, any_in_range n p) (or_swap (any_below n p) (p n))

pub all_in_range : (n : ℕ) (p : ℕ → Bool) → list_all p (range_with_len 0 n) ≡ all_below n p
unfolding all_below
all_in_range zero p = refl
all_in_range (suc n) p =
    ap (list_all p) (range_more 0 n) ∙ list_all-append p (range_with_len 0 n) ((0 + n) ∷ []) ∙ rw (zero-add n, all_in_range n p) (and_swap (all_below n p) (p n))

-- of the first n elements of a list, how many pass, where the default does not
pub count_in_front : {A : Type 0} (n : ℕ) (p : A → Bool) (l : List A) (d : A) → p d ≡ false → count_by p (take n l) ≡ count_below n (λ i. p (get_or l i d))
unfolding sum_below
count_in_front zero p l d h = refl
count_in_front (suc n) p l d h = elim (bool (ltb n (length l))) [
  | inl e ↦ rw add-one at (sum_by_more (λ x. cond (p x) 1 0) l n d (ltb-true n (length l) e)) ∙ ap (λ m. m + cond (p (get_or l n d)) 1 0) (count_in_front n p l d h)
  | inr e ↦
      let k : length l ≤ n = ltb-false n (length l) e in
      let z : p (get_or l n d) ≡ false = ap p (get_or-eq_default l d k) ∙ h in
      ap (count_by p) (take_all (suc n) l (omega arith) ∙ sym (take_all n l k)) ∙ count_in_front n p l d h ∙ rw z (omega arith)
]

-- what `any` over a range answers, where its closure answers the test there
pub any_from_Range : {F : Type 0} {g : Mut F (ℕ × Unit {0}) Bool} (s u : Range ℕ) (f : F) (r : Bool) (test : ℕ → Bool)
    → (xs : List ℕ) × (o : Option ℕ) × (j : F) × YieldsThen nat_range_steps s xs o u × FoldsTo (λ p x q. Called g p (x, tt) false q) f xs j × MatchOption o (r ≡ false) (λ x. (r ≡ true) × ((h : F) × Called g j (x, tt) true h))
    → ((x : ℕ) (b : Bool) (q : F) → Called g f (x, tt) b q → (q ≡ f) × (s.start ≤ x → x < s.end → b ≡ test x))
    → (r ≡ true → (i : ℕ) × (s.start ≤ i) × (i < s.end) × (test i ≡ true)) × (r ≡ false → (i : ℕ) → s.start ≤ i → i < s.end → test i ≡ false)
any_from_Range s u f r test ran answers = by r (cases_from_any u f r Yes No ran (YieldsList-from_range s.start s.end _ refl refl) (λ x q h a b. sym ((answers x true q h).1 a b)) (λ x q h. ((answers x false q h).0, λ a b. sym ((answers x false q h).1 a b))))
  where
    all : List ℕ
    all = range_with_len s.start (s.end - s.start)

    Yes : ℕ → Type 0
    Yes i = s.start ≤ i → i < s.end → test i ≡ true

    No : ℕ → Type 0
    No i = s.start ≤ i → i < s.end → test i ≡ false

    long : length all ≡ s.end - s.start
    long = length-range_with_len s.start (s.end - s.start)

    at : (k : ℕ) → k < s.end - s.start → get_or all k 0 ≡ s.start + k
    at k l = get_or-range_with_len s.start (s.end - s.start) k 0 l

    by : (b : Bool) → MatchBool b ((k : ℕ) × (k < length all) × HoldsAt Yes all k) (AllWithin No all 0 (length all))
        → (b ≡ true → (i : ℕ) × (s.start ≤ i) × (i < s.end) × (test i ≡ true)) × (b ≡ false → (i : ℕ) → s.start ≤ i → i < s.end → test i ≡ false)
    by true (k, l, h) = let m : k < s.end - s.start = omega (arith, long) in
        (λ e. (s.start + k, omega arith, omega arith, subst Yes (at k m) (h 0) (omega arith) (omega arith)), λ e. clash refl e)
    by false h = (
      λ e. clash e refl,
      λ e i a b.
          let k : i - s.start < s.end - s.start = omega arith in
          let q : get_or all (i - s.start) 0 ≡ i = omega (arith, at (i - s.start) k) in
          subst No q (h (i - s.start) 0 (omega arith) (omega (arith, long))) a b,
    )

-- and over a range from 0 on
pub any_below_Range : {F : Type 0} {g : Mut F (ℕ × Unit {0}) Bool} (s u : Range ℕ) (f : F) (r : Bool) (test : ℕ → Bool)
    → (xs : List ℕ) × (o : Option ℕ) × (j : F) × YieldsThen nat_range_steps s xs o u × FoldsTo (λ p x q. Called g p (x, tt) false q) f xs j × MatchOption o (r ≡ false) (λ x. (r ≡ true) × ((h : F) × Called g j (x, tt) true h))
    → ((x : ℕ) (b : Bool) (q : F) → Called g f (x, tt) b q → (q ≡ f) × (s.start ≤ x → x < s.end → b ≡ test x))
    → s.start ≡ 0 → r ≡ any_below s.end test
any_below_Range s u f r test ran answers z = by (any_from_Range s u f r test ran answers) (bool r)
  where
    by : (r ≡ true → (i : ℕ) × (s.start ≤ i) × (i < s.end) × (test i ≡ true)) × (r ≡ false → (i : ℕ) → s.start ≤ i → i < s.end → test i ≡ false) → (r ≡ true) ⊎ (r ≡ false) → r ≡ any_below s.end test
    by (found, none) (inl e) = let (i, a, b, t) = found e in e ∙ sym (any_put s.end test i b t)
    by (found, none) (inr e) = e ∙ sym (any_lack s.end test (λ i l t. clash t (none e i (omega arith) l)))

-- ---- from the last number down

-- the n numbers from a on, the last first
down : ℕ → ℕ → List ℕ
down a zero = []
down a (suc n) = (a + n) ∷ down a n

down_length : (a n : ℕ) → length (down a n) ≡ n
unfolding down
down_length a zero = refl
down_length a (suc n) = ap suc (down_length a n)

down_at : (a n k d : ℕ) → k < n → get_or (down a n) k d + suc k ≡ a + n
unfolding down
down_at a zero k d l = absurd (omega arith)
down_at a (suc n) zero d l = omega arith
down_at a (suc n) (suc k) d l = omega (arith, down_at a n k d (omega arith))

down_more : (a b n m x : ℕ) → n ≡ suc m → x ≡ a + m → b ≡ a → down a n ≡ x ∷ down b m
unfolding down
down_more a b n m x e f g = rw (e, f, g)

abbrev pub nat_range_steps_back : Rev (Range ℕ) → Option ℕ → Rev (Range ℕ) → Type 0
nat_range_steps_back = rev_steps (range_steps_back (λ x y. y - x) (λ x y. y ≡ x + 1))

Rev-gives : (s : Rev (Range ℕ)) → YieldsList nat_range_steps_back (λ x. x) s (down (rev_source s).start ((rev_source s).end - (rev_source s).start))
unfolding down
Rev-gives = YieldsList-from_shown nat_range_steps_back (λ x. x) (λ s. down (rev_source s).start ((rev_source s).end - (rev_source s).start))
    (λ s t p. ap (λ n. length (down (rev_source s).start n)) p.1.0)
    (λ s x t p. down_more _ _ _ _ x (omega (arith, p.0, p.1.0, p.1.2)) (omega (arith, p.0, p.1.0, p.1.1, p.1.2)) p.0)

below_Rev : (s : Rev (Range ℕ)) (m n : ℕ) → rev_source s ≡ record { start = 0; end = m } → m ≡ n → YieldsList nat_range_steps_back (λ x. x) s (down 0 n)
below_Rev s m n e f = subst (YieldsList nat_range_steps_back (λ x. x) s) (ap (λ (k : Range ℕ). down k.start (k.end - k.start)) e ∙ ap (down 0) (omega arith)) (Rev-gives s)

-- what holds at a place holds of a number below n, and what holds at each of each
down_some : (n k : ℕ) (P : ℕ → Type 0) → k < length (down 0 n) → HoldsAt P (down 0 n) k → (i : ℕ) × (i < n) × P i
down_some n k P l h = (get_or (down 0 n) k 0, omega (arith, down_length 0 n, down_at 0 n k 0 (omega (arith, down_length 0 n))), h 0)

down_each : (n : ℕ) (P : ℕ → Type 0) → AllWithin P (down 0 n) 0 (length (down 0 n)) → (i : ℕ) → i < n → P i
down_each n P h i l =
    let e : get_or (down 0 n) (n - suc i) 0 ≡ i = omega (arith, down_at 0 n (n - suc i) 0 (omega arith)) in
    subst P e (h (n - suc i) 0 (omega arith) (omega (arith, down_length 0 n)))

-- what `any` and `all` over the numbers below n, the last first, answer, where their closure answers the test there
abbrev Tests : ℕ → (ℕ → Bool) → Bool → ℕ → Type 0
Tests n test b i = i < n → test i ≡ b

pub any_below_Rev : {F : Type 0} {g : Mut F (ℕ × Unit {0}) Bool} (s u : Rev (Range ℕ)) (f : F) (r : Bool) (test : ℕ → Bool) (m n : ℕ)
    → (xs : List ℕ) × (o : Option ℕ) × (j : F) × YieldsThen nat_range_steps_back s xs o u × FoldsTo (λ p x q. Called g p (x, tt) false q) f xs j × MatchOption o (r ≡ false) (λ x. (r ≡ true) × ((h : F) × Called g j (x, tt) true h))
    → ((x : ℕ) (b : Bool) (q : F) → Called g f (x, tt) b q → (q ≡ f) × (x < n → b ≡ test x))
    → rev_source s ≡ record { start = 0; end = m } → m ≡ n → r ≡ any_below n test
any_below_Rev s u f r test m n ran answers e k = by r (cases_from_any u f r (Tests n test true) (Tests n test false) ran (below_Rev s m n e k) (λ x q h l. sym ((answers x true q h).1 l)) (λ x q h. ((answers x false q h).0, λ l. sym ((answers x false q h).1 l))))
  where
    by : (b : Bool) → MatchBool b ((k : ℕ) × (k < length (down 0 n)) × HoldsAt (Tests n test true) (down 0 n) k) (AllWithin (Tests n test false) (down 0 n) 0 (length (down 0 n))) → b ≡ any_below n test
    by true (k, l, h) = let (i, a, t) = down_some n k (Tests n test true) l h in sym (any_put n test i a (t a))
    by false h = sym (any_lack n test (λ i a t. clash t (down_each n (Tests n test false) h i a a)))

pub all_below_Rev : {F : Type 0} {g : Mut F (ℕ × Unit {0}) Bool} (s u : Rev (Range ℕ)) (f : F) (r : Bool) (test : ℕ → Bool) (m n : ℕ)
    → (xs : List ℕ) × (o : Option ℕ) × (j : F) × YieldsThen nat_range_steps_back s xs o u × FoldsTo (λ p x q. Called g p (x, tt) true q) f xs j × MatchOption o (r ≡ true) (λ x. (r ≡ false) × ((h : F) × Called g j (x, tt) false h))
    → ((x : ℕ) (b : Bool) (q : F) → Called g f (x, tt) b q → (q ≡ f) × (x < n → b ≡ test x))
    → rev_source s ≡ record { start = 0; end = m } → m ≡ n → r ≡ all_below n test
all_below_Rev s u f r test m n ran answers e k = by r (cases_from_all u f r (Tests n test true) (Tests n test false) ran (below_Rev s m n e k) (λ x q h. ((answers x true q h).0, λ l. sym ((answers x true q h).1 l))) (λ x q h l. sym ((answers x false q h).1 l)))
  where
    by : (b : Bool) → MatchBool b (AllWithin (Tests n test true) (down 0 n) 0 (length (down 0 n))) ((k : ℕ) × (k < length (down 0 n)) × HoldsAt (Tests n test false) (down 0 n) k) → b ≡ all_below n test
    by true h = sym (all_put n test (λ i a. down_each n (Tests n test true) h i a a))
    by false (k, l, h) = let (i, a, t) = down_some n k (Tests n test false) l h in elim (bool (all_below n test)) [ inl q ↦ clash (all_get n test q i a) (t a) | inr q ↦ sym q ]
