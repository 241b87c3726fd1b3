-- The theory's tables, plan and view of a state.
-- Assumes nothing.
use Prim.Native.Nat.{ℕ, ◌≤◌, ◌<◌}
use mathlib.Core.Path.{◌≡◌, refl, sym, subst}
use mathlib.Core.Bool.{Bool, true, false, ◌&&◌, ◌||◌, not, cond}
use mathlib.Core.Logic.{inl, inr}
use mathlib.Core.List.{List}
use native.Mathlib.Omega.{arith}
use lib.Dec.{eqb, ltb}
use lib.ListN.{get_or}
use borrow.Author.Tests.{eqb-true, eqb-false, ltb-true, lt-ltb, not-false}
use Rattle.queues.specs.Queue.{submitted_in}
use Rattle.bounded.specs.Bounded.{all_below}
use Rattle.bounded.proofs.Truth.{and-true, and_put, or-true, or-false, or_left, or_right}
use Rattle.bounded.proofs.Laws.{any_get, any_put, all_get, all_none}
use Rattle.keys.specs.Keys.{member}
use Rattle.tables.specs.Lists.{row_at, in_row, read_count, read_key, write_count, write_key, read_row, write_row}
use Rattle.tables.specs.Sites.{site_count, site_keys, holds}
use Rattle.tables.specs.Concern.{some_in, all_in, votes, touches, concerns, inside, holds_all, local}
use Rattle.tables.specs.declared.Tables.{Tables}
use Rattle.steps.specs.Kinds.{version}
use Rattle.rules.specs.Votes.{holds_vote}
use Rattle.machine.specs.Parts.{place_of, version_at, value_at}
use Rattle.machine.specs.declared.State.{State}
use Rattle.machine.proofs.Laws.{in-row}
use Rattle.onecopy.specs.View.{View}
use Rattle.onecopy.proofs.Inv.{Fit, Inv}
use Rattle.onecopy.proofs.Live.{Kept}
use Rattle.onecopy.proofs.Rules.{Certify, Rules, base_admission, base_verdicts}
use Rattle.onecopy.proofs.Counter.{counter}
use Rattle.onecopy.proofs.World.{Plan, World, Holds}
use Rattle.demands.specs.View.{slot, table_of, whose_in}
use Rattle.demands.proofs.Tables.{holds_site, Taken}
use Rattle.demands.proofs.Cells.{cell}

-- ---- the tables fit

-- what a row of a transaction lists
pub listed_get : (txns t n k : ℕ) (row : List ℕ) → (ltb t txns && in_row row n k) ≡ true → (i : ℕ) × (t < txns) × (i < n) × (row_at row i ≡ k)
unfolding in_row
listed_get txns t n k row h =
    let (a, b) = and-true (ltb t txns) (in_row row n k) h in
    let (i, l, e) = any_get n (λ i. eqb (row_at row i) k) b in
    (i, ltb-true t txns a, l, eqb-true (row_at row i) k e)

pub listed_put : (txns t n i : ℕ) (row : List ℕ) → t < txns → i < n → (ltb t txns && in_row row n (row_at row i)) ≡ true
listed_put txns t n i row a l = and_put (ltb t txns) (in_row row n (row_at row i)) (lt-ltb t txns a) (in-row row n i l)

-- who holds a listed key
pub some_put : (txns t n k m : ℕ) (row : List ℕ) → (ltb t txns && in_row row n k) ≡ true → member m k ≡ true → some_in row n m ≡ true
unfolding some_in
some_put txns t n k m row r h =
    let (i, a, l, e) = listed_get txns t n k row r in
    any_put n (λ i. member m (row_at row i)) i l (subst (λ j. member m j ≡ true) (sym e) h)

pub some-get : (t n m : ℕ) (row : List ℕ) → some_in row n m ≡ true → (i : ℕ) × (i < n) × (member m (row_at row i) ≡ true)
unfolding some_in
some-get t n m row h = any_get n (λ i. member m (row_at row i)) h

module _ (T : Tables) where
  -- R(t) has who holds a key that t reads or writes, and only sites
  pub reader : (s t k : ℕ) → (table_of T).reads t k ≡ true → holds T s k ≡ true → concerns T t s ≡ true
  unfolding touches
  reader s t k r h = or_left (some_in (read_row T t) (read_count T t) (site_keys T s)) _ (some_put T.txns t (read_count T t) k (site_keys T s) (read_row T t) r h)

  pub writer : (s t k : ℕ) → (table_of T).writes t k ≡ true → holds T s k ≡ true → concerns T t s ≡ true
  unfolding touches
  writer s t k w h = or_right (some_in (read_row T t) (read_count T t) (site_keys T s)) _ (some_put T.txns t (write_count T t) k (site_keys T s) (write_row T t) w h)

  pub known : (s t : ℕ) → concerns T t s ≡ true → s < site_count T
  unfolding touches
  known s t h = elim (or-true (some_in (read_row T t) (read_count T t) (site_keys T s)) (some_in (write_row T t) (write_count T t) (site_keys T s)) h) [
    | inl a ↦ let (i, l, m) = some-get t (read_count T t) (site_keys T s) (read_row T t) a in holds_site T s (read_key T t i) m
    | inr a ↦ let (i, l, m) = some-get t (write_count T t) (site_keys T s) (write_row T t) a in holds_site T s (write_key T t i) m
  ]

  -- each site of a local transaction holds all that it reads
  pub whole : (s t k : ℕ) → local T t ≡ true → concerns T t s ≡ true → (table_of T).reads t k ≡ true → holds T s k ≡ true
  unfolding local inside all_in
  whole s t k lo c r =
      let (i, a, l, e) = listed_get T.txns t (read_count T t) k (read_row T t) r in
      let h = rw c at (all_get (site_count T) (λ s. not (concerns T t s) || holds_all T t s) lo s (known s t c)) in
      let x = (and-true (all_in (read_row T t) (read_count T t) (site_keys T s)) (all_in (write_row T t) (write_count T t) (site_keys T s)) h).0 in
      subst (λ j. holds T s j ≡ true) e (all_get (read_count T t) (λ i. member (site_keys T s) (read_key T t i)) x i l)

  pub fit : Fit (table_of T)
  fit = record { writer = λ s u k w h. writer s u k w h; known = known }

  -- V(t)
  abbrev pub voter_of : ℕ → ℕ → Bool
  voter_of s t = ltb t T.txns && votes T t s

  pub seats : (s t k : ℕ) → (table_of T).reads t k ≡ true → holds T s k ≡ true → voter_of s t ≡ true
  seats s t k r h =
      let (i, a, l, e) = listed_get T.txns t (read_count T t) k (read_row T t) r in
      and_put (ltb t T.txns) (votes T t s) (lt-ltb t T.txns a) (some_put T.txns t (read_count T t) k (site_keys T s) (read_row T t) r h)

  pub seat : (s t : ℕ) → voter_of s t ≡ true → (k : ℕ) × ((table_of T).reads t k ≡ true) × (holds T s k ≡ true)
  seat s t v =
      let (a, b) = and-true (ltb t T.txns) (votes T t s) v in
      let (i, l, m) = some-get t (read_count T t) (site_keys T s) (read_row T t) b in
      (read_key T t i, listed_put T.txns t (read_count T t) i (read_row T t) (ltb-true t T.txns a) l, m)

  pub kept : Taken T → Kept (table_of T) (local T) (λ _. true)
  kept g = record {
    reader = reader;
    holder = λ t k r.
        let (i, a, l, e) = listed_get T.txns t (read_count T t) k (read_row T t) r in
        let (f, h) = g.held k (subst (λ j. j < T.keys) e ((g.reads t a).low i l)) in (f, h, refl);
    whole = whole;
  }

  -- t's i-th read matches at s: s lacks the key, or x, what was recorded, has the version of y, what s has
  abbrev pub matching : (ℕ → ℕ × ℕ) → (ℕ → ℕ × ℕ) → ℕ → ℕ → ℕ → Bool
  matching x y s t i = not (holds T s (read_key T t i)) || eqb (y (read_key T t i)).0 (x (read_key T t i)).0

  unfoldable pub vote_by : (ℕ → ℕ × ℕ) → (ℕ → ℕ × ℕ) → ℕ → ℕ → ℕ
  vote_by x y s t = cond (voter_of s t) (cond (all_below (read_count T t) (matching x y s t)) 1 2) 0

  pub match : (x y : ℕ → ℕ × ℕ) (s k : ℕ) → (not (holds T s k) || eqb (y k).0 (x k).0) ≡ true → holds T s k ≡ true → (x k).0 ≡ (y k).0
  match x y s k o h = sym (eqb-true (y k).0 (x k).0 (rw h at o))

  pub differ : (x y : ℕ → ℕ × ℕ) (s k : ℕ) → (not (holds T s k) || eqb (y k).0 (x k).0) ≡ false → (holds T s k ≡ true) × ((x k).0 ≡ (y k).0 → ⊥)
  differ x y s k o =
      let (a, b) = or-false (not (holds T s k)) (eqb (y k).0 (x k).0) o in
      (not-false (holds T s k) a, λ e. eqb-false (y k).0 (x k).0 b (sym e))

  unfoldable pub certify_by : Certify (table_of T)
  unfolding vote_by
  certify_by = record {
    vote = vote_by;
    says = λ x y s t k r h. rw (seats s t k r h) (some (all_below (read_count T t) (matching x y s t)));
    yes = λ x y s t e k r h.
        let (i, a, l, d) = listed_get T.txns t (read_count T t) k (read_row T t) r in
        subst (λ j. (x j).0 ≡ (y j).0) d (match x y s (read_key T t i) (all_get (read_count T t) (matching x y s t) (all_yes (voter_of s t) (all_below (read_count T t) (matching x y s t)) e) i l) (subst (λ j. holds T s j ≡ true) (sym d) h));
    no = λ x y s t h.
        let (v, n) = one_no (voter_of s t) (all_below (read_count T t) (matching x y s t)) h in
        let (i, l, e) = all_none (read_count T t) (matching x y s t) n in
        let (a, b) = differ x y s (read_key T t i) e in
        (read_key T t i, listed_put T.txns t (read_count T t) i (read_row T t) (ltb-true t T.txns (and-true (ltb t T.txns) (votes T t s) v).0) l, a, b);
    seat = λ x y s t h. seat s t (votes_only (voter_of s t) (cond (all_below (read_count T t) (matching x y s t)) 1 2) h);
  }
    where
      some : (b : Bool) → 0 < cond b 1 2
      some true = omega arith
      some false = omega arith

      all_yes : (a b : Bool) → ◌≡◌ {A = ℕ} (cond a (cond b 1 2) 0) 1 → b ≡ true
      all_yes true true h = refl
      all_yes true false h = absurd (omega arith)
      all_yes false b h = absurd (omega arith)

      one_no : (a b : Bool) → 2 ≤ cond a (cond b 1 2) 0 → (a ≡ true) × (b ≡ false)
      one_no true true h = absurd (omega arith)
      one_no true false h = (refl, refl)
      one_no false b h = absurd (omega arith)

      votes_only : (a : Bool) (n : ℕ) → 0 < cond a n 0 → a ≡ true
      votes_only true n h = refl
      votes_only false n h = absurd (omega arith)

  -- one counter gives the places; DELIVER, verdict and vote by the base rules
  abbrev pub rules_of : Rules (table_of T)
  rules_of = record {
    admission = base_admission (table_of T);
    verdicts = base_verdicts (table_of T);
    certify = certify_by;
  }

  abbrev pub plan_of : Plan
  plan_of = record {
    table = table_of T;
    fit = fit;
    txns = T.txns;
    local = local T;
    voter = voter_of;
    order = counter (table_of T) T.txns;
    rules = rules_of;
    seats = seats;
    seat = seat;
  }

  -- where k stands among what t reads
  abbrev pub place : ℕ → ℕ → ℕ
  place t k = slot (read_row T t) (read_count T t) k

  abbrev pub view_of : State → View
  view_of st = record {
    order = record { place = place_of st; at = whose_in st.parts.places T.txns };
    seen = λ t k. ((cell 8 (version 0) st.parts.readversions t (place t k)).0, cell 8 0 st.parts.readvalues t (place t k));
    recorded = λ t k. cell 8 false st.parts.recorded t (place t k);
    delivered = λ s t. cell 16 false st.parts.delivered t s;
    closed = λ s t. cell 16 0 st.parts.closed t s;
    cast = λ s t. cell 16 0 st.parts.cast t s;
    held = λ t f a. holds_vote (cell 16 0 st.parts.cast t a) (cell 16 0 st.parts.carried t a) a f;
    store = λ s k. cond (holds T s k) (version_at st s k, value_at st s k) (1, get_or T.first k 0);
  }

  -- with the number submitted
  unfoldable pub world_of : State → World plan_of
  unfolding counter
  world_of st = record { view = view_of st; ord = submitted_in st.parts.places T.txns }

  -- what holds of a reached state, of its view
  pub inv_of : (st : State) → Holds plan_of (world_of st) → Inv (table_of T) (view_of st)
  unfolding world_of
  inv_of st h = h.inv

  pub voter_of_lem : (st : State) → Holds plan_of (world_of st) → (s t : ℕ) → 0 < (view_of st).cast s t → voter_of s t ≡ true
  unfolding world_of
  voter_of_lem st h = h.voter

  -- only transactions have places, and none is past the number submitted
  pub placed_of : (st : State) → Holds plan_of (world_of st) → (t : ℕ) → 0 < place_of st t → t < T.txns
  unfolding world_of counter
  placed_of st h = h.good.low

  pub most_of : (st : State) → Holds plan_of (world_of st) → (t : ℕ) → place_of st t ≤ submitted_in st.parts.places T.txns
  unfolding world_of counter
  most_of st h = h.good.most

-- what the theory knows of a state, by its own tables
abbrev pub Sound : State → Type 0
Sound st = Holds (plan_of st.tables) (world_of st.tables st)
