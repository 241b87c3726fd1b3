-- What a usable state has, and rows of keys.
-- Assumes nothing.
use Rattle.std.proofs.Common.{ℕ, ◌≤◌, ◌<◌, ◌≡◌, refl, sym, subst, true, false, ◌&&◌, not, List, inl, inr, arith, eqb, leb, ltb, eq-eqb, leb-true, ltb-true, ltb-false}
use Rattle.std.proofs.lemmas.Bool.{not-true}
use Rattle.parts.specs.Cells.{place_in}
use Rattle.bounded.proofs.Truth.{and-true, bool, clash, same}
use Rattle.bounded.proofs.Laws.{any_put, any_none, all_get}
use Rattle.tables.specs.Lists.{row_at, in_row, present, twice, read_row, read_count, write_row, write_count}
use Rattle.tables.specs.Sites.{sites_in, site_count}
use Rattle.tables.specs.Fits.{Short, Fits}
use Rattle.rules.specs.Fit.{counts_fit, row_fits, txn_fits, txns_fit, places_fit}
use Rattle.machine.specs.Parts.{place_of}
use Rattle.machine.specs.Usable.{usable}
use Rattle.machine.specs.declared.State.{State}

-- a list of n keys: eight at most, each below the key count, none twice
pub record Row (keys : ℕ) (row : List ℕ) (n : ℕ) : Type 0 where
  pub few : n ≤ 8
  pub low : (i : ℕ) → i < n → row_at row i < keys
  pub once : twice row n ≡ false

pub record Usable (st : State) : Type 0 where
  pub keys : st.tables.keys ≤ 64
  pub groups : st.tables.groups ≤ 8
  pub sites : site_count st.tables ≤ 16
  pub txns : st.tables.txns ≤ 128
  pub reads : (t : ℕ) → t < st.tables.txns → Row st.tables.keys (read_row st.tables t) (read_count st.tables t)
  pub writes : (t : ℕ) → t < st.tables.txns → Row st.tables.keys (write_row st.tables t) (write_count st.tables t)
  pub place : (t : ℕ) → t < st.tables.txns → place_of st t ≤ 128
  pub short : Short st.tables.txn st.tables.txns

row_has : (keys : ℕ) (row : List ℕ) (n : ℕ) → row_fits keys row n ≡ true → Row keys row n
unfolding row_fits present
row_has keys row n h =
    let (a, h1) = and-true (leb n 8) (present row n keys && not (twice row n)) h in
    let (b, c) = and-true (present row n keys) (not (twice row n)) h1 in
    record {
      few = leb-true _ _ a;
      low = λ i l. ltb-true _ _ (all_get n (λ i. ltb (row_at row i) keys) b i l);
      once = not-true _ c;
    }

pub usable_has : (st : State) → usable st ≡ true → Usable st
unfolding usable counts_fit txns_fit txn_fits places_fit
usable_has st h =
    let T = st.tables in
    let (c, r) = and-true (counts_fit T.keys T.groups T.group T.txns) (txns_fit T.keys T.txn T.txns && places_fit st.parts.places T.txns) h in
    let (x, p) = and-true (txns_fit T.keys T.txn T.txns) (places_fit st.parts.places T.txns) r in
    let (k, c1) = and-true (leb T.keys 64) (leb T.groups 8 && (leb (sites_in T.group T.groups) 16 && leb T.txns 128)) c in
    let (g, c2) = and-true (leb T.groups 8) (leb (sites_in T.group T.groups) 16 && leb T.txns 128) c1 in
    let (s, n) = and-true (leb (sites_in T.group T.groups) 16) (leb T.txns 128) c2 in
    record {
      keys = leb-true _ _ k;
      groups = leb-true _ _ g;
      sites = leb-true _ _ s;
      txns = leb-true _ _ n;
      reads = λ t l. row_has T.keys (read_row T t) (read_count T t) (rows x t l).0;
      writes = λ t l. row_has T.keys (write_row T t) (write_count T t) (rows x t l).1;
      place = λ t l. leb-true _ _ (all_get T.txns (λ t. leb (place_in st.parts.places t) 128) p t l);
      short = λ t l. ((row_has T.keys (read_row T t) (read_count T t) (rows x t l).0).few, (row_has T.keys (write_row T t) (write_count T t) (rows x t l).1).few);
    }
  where
    rows : txns_fit st.tables.keys st.tables.txn st.tables.txns ≡ true
        → (t : ℕ) → t < st.tables.txns
        → (row_fits st.tables.keys (read_row st.tables t) (read_count st.tables t) ≡ true) × (row_fits st.tables.keys (write_row st.tables t) (write_count st.tables t) ≡ true)
    rows x t l =
        and-true (row_fits st.tables.keys (read_row st.tables t) (read_count st.tables t)) (row_fits st.tables.keys (write_row st.tables t) (write_count st.tables t))
        (all_get st.tables.txns (txn_fits st.tables.keys st.tables.txn) x t l)

-- its counts are within their limits
pub usable_fits : (st : State) → usable st ≡ true → Fits st.tables
usable_fits st h = let u = usable_has st h in record { groups = u.groups; sites = u.sites; txns = u.txns; short = u.short }

pub in-row : (row : List ℕ) (n i : ℕ) → i < n → in_row row n (row_at row i) ≡ true
unfolding in_row
in-row row n i l = any_put n (λ j. eqb (row_at row j) (row_at row i)) i l (eq-eqb (row_at row i) (row_at row i) refl)

-- no key stands twice
pub row_apart : (row : List ℕ) (n i j : ℕ) → twice row n ≡ false → i < n → j < n → row_at row i ≡ row_at row j → i ≡ j
unfolding twice
row_apart row n i j h a b e = elim (same i j) [
  | inl q ↦ q
  | inr q ↦ elim (bool (ltb i j)) [
    | inl l ↦ clash (subst (λ k. in_row row j k ≡ true) e (in-row row j i (ltb-true i j l))) (any_none n (λ i. in_row row i (row_at row i)) h j b)
    | inr l ↦ clash (subst (λ k. in_row row i k ≡ true) (sym e) (in-row row i j (let m = ltb-false i j l in omega arith))) (any_none n (λ i. in_row row i (row_at row i)) h i a)
  ]
]
