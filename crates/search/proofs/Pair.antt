-- The first pair of sites is the giver and the taker that the search for a CARRY finds.
-- Assumes nothing.
use Rattle.std.proofs.Common.{ℕ, ◌+◌, ◌*◌, ◌/◌, ◌%◌, ◌≤◌, ◌<◌, ◌≡◌, refl, sym, Bool, Option, Some, None, MatchOption, unwrap_or, true, false, List, inl, inr, arith, eqb, ltb, eq-eqb, eqb-true, lt-ltb, ltb-true, ltb-false}
use Rattle.parts.specs.Cells.{place_in, nobody}
use Rattle.bounded.specs.Bounded.{least_below}
use Rattle.bounded.proofs.Truth.{bool, clash, same}
use Rattle.bounded.proofs.Laws.{first-is, least_stop, first-none, first_has}
use Rattle.tables.specs.Sites.{site_count}
use Rattle.tables.specs.Concern.{local}
use Rattle.tables.specs.declared.Tables.{Tables}
use Rattle.steps.specs.declared.Place.{Place}
use Rattle.tables.specs.Fits.{Fits}
use Rattle.refusals.specs.Refusals.{carry_refusal_in}
use Rattle.search.specs.Search.{nowhere, first_to_in, first_from_in, first_carried_in}
use Rattle.search.specs.Known.{PassedTo, first_pair}
use Rattle.refusals.proofs.Passed.{carry_has}

module _ (T : Tables) (cast carried : List ℕ) (t : ℕ) where
  -- of the pairs in order
  abbrev pub open_pair : ℕ → Bool
  open_pair p = eqb (carry_refusal_in T cast carried t (p / 16) (p % 16)) 0

  -- between the first one a vote can be carried
  pub pair_carries : first_pair T cast carried t < 256 → carry_refusal_in T cast carried t (first_pair T cast carried t / 16) (first_pair T cast carried t % 16) ≡ 0
  unfolding first_pair
  pair_carries l = eqb-true _ _ (first_has 256 (λ i. 0) open_pair 256 (omega arith) l).passes

  -- and between none before it
  pub pair_passed : PassedTo T cast carried t (first_pair T cast carried t)
  unfolding first_pair
  pair_passed p l z = elim (first-is 256 (λ i. 0) open_pair 256 (omega arith)) [
    | inl g ↦ absurd (omega (arith, g.low, g.lower p (omega (arith, g.low)) (eq-eqb _ _ z) refl))
    | inr q ↦ clash (eq-eqb _ _ z) (q.1 p (omega (arith, q.0)))
  ]

  pair_before : (f s : ℕ) → s < 16 → f * 16 + s < first_pair T cast carried t → carry_refusal_in T cast carried t f s ≡ 0 → ⊥
  pair_before f s b l h =
      let q : (f * 16 + s) / 16 ≡ f = omega arith in
      let r : (f * 16 + s) % 16 ≡ s = omega arith in
      pair_passed (f * 16 + s) l (rw (q, r) h)

  -- the search for it: the first n pairs carry nothing, then one more, until one does or none is left
  pub pair_up : (q : ℕ) → PassedTo T cast carried t q → open_pair q ≡ false → PassedTo T cast carried t (q + 1)
  pair_up q k h p l z = elim (same p q) [ inl e ↦ clash (eq-eqb _ _ z) (rw e h) | inr d ↦ k p (omega arith) z ]

  pub pair_stop : (q : ℕ) → q < 256 → PassedTo T cast carried t q → open_pair q ≡ true → first_pair T cast carried t ≡ q
  unfolding first_pair
  pair_stop q l k h = least_stop 256 q open_pair 256 l (omega arith) (first-none q (λ i. 0) open_pair 256 (omega arith) (λ p m z. k p m (eqb-true _ _ z))) h

  pub pair_none : (q : ℕ) → 256 ≤ q → PassedTo T cast carried t q → first_pair T cast carried t ≡ 256
  unfolding first_pair
  pair_none q l k = first-none 256 (λ i. 0) open_pair 256 (omega arith) (λ p m z. k p (omega arith) (eqb-true _ _ z))

  -- so up to n, where none from p on does
  pair_on : (p n : ℕ) → PassedTo T cast carried t p → ((q : ℕ) → p ≤ q → q < n → open_pair q ≡ false) → PassedTo T cast carried t n
  pair_on p n k h q l z = elim (bool (ltb q p)) [ inl e ↦ k q (ltb-true q p e) z | inr e ↦ clash (eq-eqb _ _ z) (h q (ltb-false q p e) l) ]

  -- what a search from p on answers
  pub pair_search : (p : ℕ) (r : Option ℕ) → PassedTo T cast carried t p
      → MatchOption r ((q : ℕ) → p ≤ q → q < 256 → open_pair q ≡ false) (λ i. (p ≤ i) × (i < 256) × (open_pair i ≡ true) × ((q : ℕ) → p ≤ q → q < i → open_pair q ≡ false))
      → unwrap_or r 256 ≡ first_pair T cast carried t
  pair_search p None k h = sym (pair_none 256 (omega arith) (pair_on p 256 k h))
  pair_search p (Some i) k h = sym (pair_stop i h.1 (pair_on p i k h.3) h.2)

  -- of a local transaction there is none
  pub pair_local : local T t ≡ true → first_pair T cast carried t ≡ 256
  pair_local h = pair_none 256 (omega arith) (λ p l z. clash h (carry_has T cast carried t (p / 16) (p % 16) z).global)

  module _ (fits : site_count T ≤ 16) where
    -- the search for a taker, and for a giver, stops at the same pair
    to_carries : (f : ℕ) → first_to_in T cast carried t f < nowhere → carry_refusal_in T cast carried t f (first_to_in T cast carried t f) ≡ 0
    unfolding first_to_in
    to_carries f h = eqb-true _ _ (first_has (site_count T) (λ i. 0) (λ s. eqb (carry_refusal_in T cast carried t f s) 0) nowhere fits h).passes

    pub pair_to : first_pair T cast carried t < 256 → first_to_in T cast carried t (first_pair T cast carried t / 16) ≡ first_pair T cast carried t % 16
    unfolding first_to_in
    pair_to l =
        let p = first_pair T cast carried t in
        let c = carry_has T cast carried t (p / 16) (p % 16) (pair_carries l) in
        least_stop (site_count T) (p % 16) (λ s. eqb (carry_refusal_in T cast carried t (p / 16) s) 0) nowhere c.taker fits
        (first-none (p % 16) (λ i. 0) _ nowhere (omega arith) (λ s m h. pair_before (p / 16) s (omega arith) (omega arith) (eqb-true _ _ h)))
        (eq-eqb _ _ (pair_carries l))

    pub pair_from : first_pair T cast carried t < 256 → first_from_in T cast carried t ≡ first_pair T cast carried t / 16
    unfolding first_from_in
    pair_from l =
        let p = first_pair T cast carried t in
        let c = carry_has T cast carried t (p / 16) (p % 16) (pair_carries l) in
        least_stop (site_count T) (p / 16) (λ f. ltb (first_to_in T cast carried t f) nowhere) nowhere c.giver fits
        (first-none (p / 16) (λ i. 0) _ nowhere (omega arith) (λ f m h.
        let k = ltb-true (first_to_in T cast carried t f) nowhere h in
        pair_before f (first_to_in T cast carried t f) k (omega arith) (to_carries f k)))
        (lt-ltb (first_to_in T cast carried t (p / 16)) nowhere (rw (pair_to l) (omega arith)))

    -- where a vote can be carried there is a pair, and a giver
    pair_there : (f s : ℕ) → carry_refusal_in T cast carried t f s ≡ 0 → first_pair T cast carried t < 256
    pair_there f s h = let c = carry_has T cast carried t f s h in elim (bool (ltb (first_pair T cast carried t) 256)) [
      | inl e ↦ ltb-true _ _ e
      | inr e ↦ absurd (pair_before f s (omega (arith, c.taker)) (omega (arith, c.giver, c.taker, ltb-false (first_pair T cast carried t) 256 e)) h)
    ]

    pub pair_found : (f s : ℕ) → carry_refusal_in T cast carried t f s ≡ 0 → first_from_in T cast carried t < nowhere
    pair_found f s h = let l = pair_there f s h in rw (pair_from l) (omega arith)

    -- and where there is a giver, there is a pair
    pub from_pair : first_from_in T cast carried t < nowhere → first_pair T cast carried t < 256
    unfolding first_from_in
    from_pair l =
        let f = least_below (site_count T) (λ f. ltb (first_to_in T cast carried t f) nowhere) nowhere in
        let s = first_to_in T cast carried t f in
        pair_there f s (to_carries f (ltb-true s nowhere (first_has (site_count T) (λ i. 0) (λ f. ltb (first_to_in T cast carried t f) nowhere) nowhere fits l).passes))

-- a transaction that the search finds has a pair
pub carried_pair : (T : Tables) → Fits T → (places : List Place) (cast carried : List ℕ) (t : ℕ) → t ≡ first_carried_in T places cast carried → t < nobody → first_pair T cast carried t < 256
unfolding first_carried_in
carried_pair T fits places cast carried t e l = from_pair T cast carried t fits.sites
    (rw e (ltb-true _ _ (first_has T.txns (place_in places) (λ t. ltb (first_from_in T cast carried t) nowhere) nobody fits.txns (rw e at l)).passes))
