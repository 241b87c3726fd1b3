-- What tables give that the reader takes: who holds a key is a site, every key is held, and each transaction's keys stand once in its rows.
-- Assumes nothing.
use Prim.Native.Nat.{ℕ, zero, suc, ◌+◌, ◌*◌, ◌-◌, ◌/◌, ◌^◌, ◌≤◌, ◌<◌}
use mathlib.Core.Path.{◌≡◌, refl, sym, ap, subst, ◌∙◌}
use mathlib.Core.Bool.{Bool, true, false, cond}
use mathlib.Core.Logic.{inl, inr}
use mathlib.Core.List.{List}
use native.Mathlib.Omega.{arith}
use native.Mathlib.Nat.{div-lt_iff_lt-mul, not-suc-le-zero}
use lib.Dec.{eqb, leb, ltb}
use lib.ListN.{get_or}
use lib.Pow.{pow_pos}
use borrow.Author.Tests.{eqb-true, eqb-false, ltb-true, ltb-false, lt-ltb, le-ltb, not-false}
use Rattle.tables.specs.declared.Group.{Group}
use Rattle.bounded.specs.Bounded.{any_below, sum_below, least_below, first_of}
use Rattle.bounded.proofs.Truth.{or-false, clash, passed}
use Rattle.bounded.proofs.Laws.{any_get, any_none, all_get, else-none, of_none, first-is, sum_same}
use Rattle.keys.specs.Keys.{member, within}
use Rattle.keys.proofs.Laws.{low, high}
use Rattle.tables.specs.Lists.{row_at, in_row, twice, read_count, write_count, read_row, write_row}
use Rattle.tables.specs.Sites.{sites_in, site_count, keys_from, holds, size_in, mask_in}
use Rattle.tables.specs.Judge.{keys_refusal, size_refusal, group_refusal, txn_refusal, some_group, end_refusal, judge}
use Rattle.tables.specs.declared.Tables.{Tables}
use Rattle.machine.specs.Fresh.{start_of}
use Rattle.machine.proofs.Laws.{Row, Usable, usable_has, in-row, row_apart}
use Rattle.machine.proofs.Kept.{fresh_usable}
use Rattle.demands.specs.View.{slot}

-- ---- a key's place in a row

pub slot_is : (row : List ℕ) (n k : ℕ) → n ≤ 8 → in_row row n k ≡ true → (slot row n k < n) × (row_at row (slot row n k) ≡ k)
unfolding slot in_row
slot_is row n k l h = elim (first-is n (λ i. 0) (λ i. eqb (row_at row i) k) 8 l) [
  | inl f ↦ (f.low, eqb-true _ _ f.passes)
  | inr q ↦ absurd (let (i, m, e) = any_get n (λ i. eqb (row_at row i) k) h in clash e (q.1 i m))
]

pub slot_none : (row : List ℕ) (n k : ℕ) → n ≤ 8 → in_row row n k ≡ false → slot row n k ≡ 8
unfolding slot in_row
slot_none row n k l h = elim (first-is n (λ i. 0) (λ i. eqb (row_at row i) k) 8 l) [
  | inl f ↦ clash f.passes (any_none n (λ i. eqb (row_at row i) k) h (least_below n (λ i. eqb (row_at row i) k) 8) f.low)
  | inr q ↦ q.0
]

pub slot_at : (row : List ℕ) (n i : ℕ) → n ≤ 8 → twice row n ≡ false → i < n → slot row n (row_at row i) ≡ i
slot_at row n i l h a =
    let (b, e) = slot_is row n (row_at row i) l (in-row row n i a) in
    row_apart row n (slot row n (row_at row i)) i h b a e

-- ---- sites and the keys they hold

sum_first : (n : ℕ) (f : ℕ → ℕ) → sum_below (suc n) f ≡ f 0 + sum_below n (λ i. f (suc i))
unfolding sum_below
sum_first zero f = omega arith
sum_first (suc n) f = omega (arith, sum_first n f)

-- who holds a key belongs to a group that does, and is not past the last site
group_of : (group : List Group) (n g s k : ℕ) → member (keys_from n g group s) k ≡ true
    → (h : ℕ) × (h < n) × (member (mask_in group (g + h)) k ≡ true) × (s < sum_below n (λ i. size_in group (g + i)))
unfolding keys_from
group_of group zero g s k h = clash h (high 0 0 k (omega arith) (omega arith))
group_of group (suc n) g s k h = by (ltb s (size_in group g)) refl h (group_of group n (g + 1) (s - size_in group g) k)
  where
    f : ℕ → ℕ
    f i = size_in group (g + i)

    here : f 0 ≡ size_in group g
    here = ap (λ i. size_in group i) (omega arith)

    rest : sum_below n (λ i. f (suc i)) ≡ sum_below n (λ i. size_in group (g + 1 + i))
    rest = sum_same n (λ i. f (suc i)) (λ i. size_in group (g + 1 + i)) (λ i _. ap (λ j. size_in group j) (omega arith))

    by : (b : Bool) → ltb s (size_in group g) ≡ b → member (cond b (mask_in group g) (keys_from n (g + 1) group (s - size_in group g))) k ≡ true
        → (member (keys_from n (g + 1) group (s - size_in group g)) k ≡ true
        → (h : ℕ) × (h < n) × (member (mask_in group (g + 1 + h)) k ≡ true) × (s - size_in group g < sum_below n (λ i. size_in group (g + 1 + i))))
        → (h : ℕ) × (h < suc n) × (member (mask_in group (g + h)) k ≡ true) × (s < sum_below (suc n) f)
    by true e m r = (0, omega arith, subst (λ j. member (mask_in group j) k ≡ true) (omega arith) m, omega (arith, sum_first n f, here, ltb-true s (size_in group g) e))
    by false e m r =
        let (j, l, q, b) = r m in
        (suc j, omega arith, subst (λ i. member (mask_in group i) k ≡ true) (omega arith) q, omega (arith, sum_first n f, here, rest, ltb-false s (size_in group g) e))

-- a group that has a site has one that holds its keys
site_of_lem : (group : List Group) (n g h : ℕ) → h < n → 0 < size_in group (g + h) → (s : ℕ) × (keys_from n g group s ≡ mask_in group (g + h))
unfolding keys_from
site_of_lem group zero g h l p = absurd (not-suc-le-zero l)
site_of_lem group (suc n) g zero l p =
    (0, rw (lt-ltb 0 (size_in group g) (subst (λ j. 0 < size_in group j) (omega arith) p)) (ap (λ j. mask_in group j) (omega arith)))
site_of_lem group (suc n) g (suc h) l p =
    let (s, e) = site_of_lem group n (g + 1) h (omega arith) (subst (λ j. 0 < size_in group j) (omega arith) p) in
    let d : size_in group g + s - size_in group g ≡ s = omega arith in
    (size_in group g + s, rw (le-ltb (size_in group g + s) (size_in group g) (omega arith), d, e) (ap (λ j. mask_in group j) (omega arith)))

pub holds_site : (T : Tables) (s k : ℕ) → holds T s k ≡ true → s < site_count T
holds_site T s k h =
    let (g, l, m, b) = group_of T.group T.groups 0 s k h in
    omega (arith, sum_same T.groups (λ i. size_in T.group (0 + i)) (λ i. size_in T.group i) (λ i _. ap (λ j. size_in T.group j) (omega arith)))

-- ---- what the reader takes

pub record Taken (T : Tables) : Type 0 where
  pub keys : T.keys ≤ 64
  pub sites : site_count T ≤ 16
  pub txns : T.txns ≤ 128
  pub reads : (t : ℕ) → t < T.txns → Row T.keys (read_row T t) (read_count T t)
  pub writes : (t : ℕ) → t < T.txns → Row T.keys (write_row T t) (write_count T t)
  pub low : (s k : ℕ) → holds T s k ≡ true → k < T.keys
  pub held : (k : ℕ) → k < T.keys → (s : ℕ) × (holds T s k ≡ true)

within_low : (m n k : ℕ) → within m n ≡ true → member m k ≡ true → k < n
unfolding within
within_low m n k w h =
    let z = eqb-true (m / 2 ^ n) 0 w in
    low n m k (let q : m < 1 * 2 ^ n = (div-lt_iff_lt-mul {k = 2 ^ n} {x = m} {y = 1} (pow_pos n)).0 (omega arith) in omega arith) h

-- a group that is not refused has a site, and holds no absent key
group_has : (keys g size n mask : ℕ) → size_refusal keys g size n mask ≡ 0 → (0 < size) × (within mask keys ≡ true)
unfolding size_refusal
group_has keys g size n mask h =
    let a = (or-false (leb 8 g) _ (passed 5 (omega arith) _ _ h).0).1 in
    let (b, c) = or-false (eqb size 0) _ a in
    let d = (or-false (ltb 16 n) _ c).1 in
    let e = (or-false (eqb mask 0) _ d).1 in
    (let q = eqb-false size 0 b in omega arith, not-false _ e)

pub taken : (T : Tables) → judge T ≡ 0 → Taken T
unfolding judge
taken T h =
    let (k, h1) = else-none (keys_refusal T.keys) _ h in
    let (z, h2) = else-none (cond (eqb T.groups 0) 3 0) _ h1 in
    let (g, h3) = else-none (first_of T.groups (group_refusal T)) _ h2 in
    let (x, e) = else-none (first_of T.txns (txn_refusal T)) _ h3 in
    made g e (usable_has (start_of T) (fresh_usable T h))
  where
    group : first_of T.groups (group_refusal T) ≡ 0 → (j : ℕ) → j < T.groups → (0 < size_in T.group j) × (within (mask_in T.group j) T.keys ≡ true)
    group g j l = group_has T.keys j (size_in T.group j) (sites_in T.group (suc j)) (mask_in T.group j) (of_none T.groups (group_refusal T) g j l)

    made : first_of T.groups (group_refusal T) ≡ 0 → end_refusal T ≡ 0 → Usable (start_of T) → Taken T
    made g e u = unfold start_of in record {
      keys = u.keys;
      sites = u.sites;
      txns = u.txns;
      reads = u.reads;
      writes = u.writes;
      low = λ s k d.
          let (j, l, m, b) = group_of T.group T.groups 0 s k d in
          within_low (mask_in T.group (0 + j)) T.keys k (subst (λ i. within (mask_in T.group i) T.keys ≡ true) (omega arith) (group g j l).1) m;
      held = λ k l.
          let (j, b, m) = any_get T.groups (λ g. member (mask_in T.group g) k) (some k l) in
          let (s, q) = site_of_lem T.group T.groups 0 j b (subst (λ i. 0 < size_in T.group i) (omega arith) (group g j b).0) in
          (s, subst (λ x. member x k ≡ true) (sym (q ∙ ap (λ i. mask_in T.group i) (omega arith))) m);
    }
      where
        pass : (b : Bool) → ◌≡◌ {A = ℕ} (cond b 0 7) 0 → b ≡ true
        pass true q = refl
        pass false q = absurd (omega arith)

        some : (k : ℕ) → k < T.keys → any_below T.groups (λ g. member (mask_in T.group g) k) ≡ true
        some k l = unfold end_refusal some_group in all_get T.keys (some_group T.group T.groups) (pass _ e) k l
