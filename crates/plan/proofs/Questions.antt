-- What the sets of a plan answer, and what the tables say.
-- Assumes nothing.
use Rattle.std.proofs.Common.{ℕ, ◌+◌, ◌^◌, ◌<◌, ◌≤◌, ◌≡◌, refl, sym, ap, ap₂, ◌∙◌, Bool, true, false, ◌&&◌, ◌||◌, not, inl, inr, get_or, arith, ltb, eqb, ltb-true, ltb-false, lt-ltb, le-ltb, eq-eqb, ne_eqb}
use Rattle.bounded.specs.Bounded.{all_below}
use Rattle.bounded.proofs.Laws.{all_same}
use Rattle.bounded.proofs.Truth.{bool, same, or_left, or_right}
use Rattle.keys.specs.Keys.{member, meeting, including}
use Rattle.keys.proofs.Laws.{low}
use Rattle.tables.specs.Lists.{read_row, read_count, write_row, write_count, meets}
use Rattle.tables.specs.Concern.{votes, touches, concerns, inside, holds_all, local}
use Rattle.plan.specs.Planned.{Planned}
use Rattle.plan.specs.declared.Plan.{Plan}
use Rattle.plan.proofs.Laws.{row_some, row_all, rows_meet, union_some, union_all}

module _ (p : Plan) (h : Planned p) (t : ℕ) (is : t < p.tables.txns) where
  -- the sets that t reads and writes
  abbrev reads : ℕ
  reads = get_or p.read_sets t 0

  abbrev writes : ℕ
  writes = get_or p.write_sets t 0

  module _ (width : reads < 2 ^ 64) where
    -- s is in V(t)
    pub plan_votes : (s : ℕ) → s < 16 → meeting reads (get_or p.site_sets s 0) ≡ votes p.tables t s
    plan_votes s l = rw (h.site_sets s l) (row_some reads (read_row p.tables t) (read_count p.tables t) (λ k. low 64 reads k width) (λ k. h.read_sets t k is) _)

    -- t reads what u writes
    pub plan_reads : (u : ℕ) → u < p.tables.txns
        → meeting reads (get_or p.write_sets u 0) ≡ meets (read_row p.tables t) (read_count p.tables t) (write_row p.tables u) (write_count p.tables u)
    plan_reads u l =
        rows_meet reads (read_row p.tables t) (read_count p.tables t) (λ k. low 64 reads k width) (λ k. h.read_sets t k is) (get_or p.write_sets u 0) (write_row p.tables u) (write_count p.tables u) (λ k. h.write_sets u k l)

  -- of u, the keys of t
  module _ (u : ℕ) (width : u < 2 ^ 64) (union : (k : ℕ) → member u k ≡ (member reads k || member writes k)) where
    low_read : (k : ℕ) → member reads k ≡ true → k < 64
    low_read k e = low 64 u k width (union k ∙ or_left (member reads k) (member writes k) e)

    low_write : (k : ℕ) → member writes k ≡ true → k < 64
    low_write k e = low 64 u k width (union k ∙ or_right (member reads k) (member writes k) e)

    -- s is in R(t)
    pub plan_concerns : (s : ℕ) → s < 16 → meeting u (get_or p.site_sets s 0) ≡ concerns p.tables t s
    unfolding touches
    plan_concerns s l =
        union_some reads writes u union _
        ∙ rw (h.site_sets s l) (ap₂ ◌||◌
        (row_some reads (read_row p.tables t) (read_count p.tables t) low_read (λ k. h.read_sets t k is) _)
        (row_some writes (write_row p.tables t) (write_count p.tables t) low_write (λ k. h.write_sets t k is) _))

    -- s holds all keys of t
    pub plan_holds : (s : ℕ) → s < 16 → including u (get_or p.site_sets s 0) ≡ holds_all p.tables t s
    unfolding inside
    plan_holds s l =
        union_all reads writes u union _
        ∙ rw (h.site_sets s l) (ap₂ ◌&&◌
        (row_all reads (read_row p.tables t) (read_count p.tables t) low_read (λ k. h.read_sets t k is) _)
        (row_all writes (write_row p.tables t) (write_count p.tables t) low_write (λ k. h.write_sets t k is) _))

    -- each site has all keys of t or none
    pub plan_local : all_below p.sites (λ s. not (meeting u (get_or p.site_sets s 0)) || including u (get_or p.site_sets s 0)) ≡ local p.tables t
    unfolding local
    plan_local =
        all_same p.sites _ (λ s. not (concerns p.tables t s) || holds_all p.tables t s)
        (λ s l. let few : s < 16 = omega (arith, h.laid.sites) in ap₂ (λ x y. not x || y) (plan_concerns s few) (plan_holds s few))
        ∙ rw h.sites

-- ---- the sites that hold a key, being worked out

-- one more number: it passes, or it stood below before
pub below_step : (s j : ℕ) (p : ℕ → Bool) → (ltb j (s + 1) && p j) ≡ ((p s && eqb s j) || (ltb j s && p j))
below_step s j p = elim (same s j) [
  | inl e ↦ rw (e, eq-eqb j j refl, lt-ltb j (j + 1) (omega arith), le-ltb j j (omega arith)) (whole (p j))
  | inr d ↦ rw (ne_eqb s j d) (none (p s) (p j) (elim (bool (ltb j s)) [
    | inl e ↦ lt-ltb j (s + 1) (omega (arith, ltb-true j s e)) ∙ sym e
    | inr e ↦ le-ltb j (s + 1) (omega (arith, ltb-false j s e)) ∙ sym e
  ]))
]
  where
    whole : (b : Bool) → b ≡ ((b && true) || false)
    whole true = refl
    whole false = refl

    none : (a b : Bool) → ltb j (s + 1) ≡ ltb j s → (ltb j (s + 1) && b) ≡ ((a && false) || (ltb j s && b))
    none true b e = ap (λ x. x && b) e
    none false b e = ap (λ x. x && b) e

-- where the sites have the same keys, the holders of a key are the same
pub holders_same : (n k : ℕ) (f g : ℕ → ℕ) → n ≤ 16 → ((s : ℕ) → s < 16 → g s ≡ f s) → (s : ℕ) → (ltb s n && member (g s) k) ≡ (ltb s n && member (f s) k)
holders_same n k f g l h s = elim (bool (ltb s n)) [ inl e ↦ rw (h s (omega (arith, ltb-true s n e))) | inr e ↦ rw e ]
