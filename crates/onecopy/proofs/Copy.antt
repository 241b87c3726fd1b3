-- The laws of the single copy: which transactions it depends on, what each place adds, and that a key's versions grow, each with one value.
-- Assumes nothing.
use mathlib.Core.Path.{◌≡◌, refl, sym, ap₂, ◌∙◌}
use mathlib.Core.Bool.{Bool, true, false, ◌&&◌}
use Prim.Native.Nat.{ℕ, zero, suc, ◌≤◌, ◌<◌}
use native.Mathlib.Omega.{arith}
use native.Mathlib.Decide.{le_ind}
use lib.Dec.{eqb}
use borrow.Author.Tests.{eqb-true, eq-eqb}
use Rattle.onecopy.specs.Copy.{Table, Order, bump, run, chosen, one_copy}
use Rattle.onecopy.proofs.Run.{hit, copy_up}
use Rattle.onecopy.proofs.Base.{and_unit}

module _ (T : Table) (o : Order) (k : ℕ) where
  -- two sets that agree on a writer of k at place p
  hit_same : (c d : ℕ → Bool) (p : ℕ) → (o.place (o.at p) ≡ p → T.writes (o.at p) k ≡ true → c (o.at p) ≡ d (o.at p)) → hit T o c p k ≡ hit T o d p k
  hit_same c d p h = go (eqb (o.place (o.at p)) p) (T.writes (o.at p) k) (λ e. h (eqb-true (o.place (o.at p)) p e))
    where
      go : (a b : Bool) → (a ≡ true → b ≡ true → c (o.at p) ≡ d (o.at p)) → (a && (b && c (o.at p))) ≡ (a && (b && d (o.at p)))
      go true true h = h refl refl
      go true false h = refl
      go false b h = refl

  -- no writer of k of the set stands at place p
  pub hit_none : (c : ℕ → Bool) (p : ℕ) → (o.place (o.at p) ≡ p → T.writes (o.at p) k ≡ true → c (o.at p) ≡ false) → hit T o c p k ≡ false
  hit_none c p h = hit_same c (λ _. false) p h ∙ go (eqb (o.place (o.at p)) p) (T.writes (o.at p) k)
    where
      go : (a b : Bool) → (a && (b && false)) ≡ false
      go true true = refl
      go true false = refl
      go false b = refl

  -- two sets that agree on the writers of k below p
  pub copy_ext : (c d : ℕ → Bool) (p : ℕ) → ((u : ℕ) → o.place u < p → T.writes u k ≡ true → c u ≡ d u) → one_copy T o c p k ≡ one_copy T o d p k
  unfolding run chosen
  copy_ext c d zero h = refl
  copy_ext c d (suc p) h =
      copy_up T o c p k
      ∙ ap₂ (λ b x. bump b x (T.gives (o.at p) k)) (hit_same c d p (λ e w. h (o.at p) (omega arith) w)) (copy_ext c d p (λ u l w. h u (omega arith) w))
      ∙ sym (copy_up T o d p k)

  -- a set with no writer of k at p or above it
  pub copy_gap : (c : ℕ → Bool) (p q : ℕ) → p ≤ q → ((u : ℕ) → p ≤ o.place u → T.writes u k ≡ true → c u ≡ false) → one_copy T o c q k ≡ one_copy T o c p k
  copy_gap c p q l h = le_ind (λ m. one_copy T o c m k ≡ one_copy T o c p k) refl up q l
    where
      up : (m : ℕ) → p ≤ m → one_copy T o c m k ≡ one_copy T o c p k → one_copy T o c (suc m) k ≡ one_copy T o c p k
      up m g e = copy_up T o c m k ∙ rw (hit_none c m (λ a w. h (o.at m) (omega arith) w)) e

  -- the place of a transaction of the set
  pub copy_at : (c : ℕ → Bool) (t : ℕ) → o.at (o.place t) ≡ t → c t ≡ true
      → one_copy T o c (suc (o.place t)) k ≡ bump (T.writes t k) (one_copy T o c (o.place t) k) (T.gives t k)
  copy_at c t e h = copy_up T o c (o.place t) k ∙ rw (e, eq-eqb (o.place t) (o.place t) refl, h, and_unit (T.writes t k))

  -- the versions of a key grow, and each has one value
  pub copy_chain : (c : ℕ → Bool) (p q : ℕ) → p ≤ q
      → ((one_copy T o c p k).0 ≤ (one_copy T o c q k).0) × ((one_copy T o c p k).0 ≡ (one_copy T o c q k).0 → (one_copy T o c p k).1 ≡ (one_copy T o c q k).1)
  copy_chain c p q l = le_ind P (omega arith, λ _. refl) up q l
    where
      P : ℕ → Type 0
      P m = ((one_copy T o c p k).0 ≤ (one_copy T o c m k).0) × ((one_copy T o c p k).0 ≡ (one_copy T o c m k).0 → (one_copy T o c p k).1 ≡ (one_copy T o c m k).1)

      add : (b : Bool) (x y : ℕ × ℕ) (z : ℕ) → (x.0 ≤ y.0) × (x.0 ≡ y.0 → x.1 ≡ y.1)
          → (x.0 ≤ (bump b y z).0) × (x.0 ≡ (bump b y z).0 → x.1 ≡ (bump b y z).1)
      add true x y z h = (omega arith, λ e. absurd (omega arith))
      add false x y z h = h

      up : (m : ℕ) → p ≤ m → P m → P (suc m)
      up m g h = rw (copy_up T o c m k) (add (hit T o c m k) (one_copy T o c p k) (one_copy T o c m k) (T.gives (o.at m) k) h)
