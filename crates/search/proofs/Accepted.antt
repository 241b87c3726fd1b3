-- What comes next is accepted, and where it is a CARRY, nothing else is.
-- Assumes nothing.
use Rattle.std.proofs.Common.{ℕ, ◌+◌, ◌*◌, ◌≤◌, ◌<◌, ◌≡◌, refl, Bool, true, false, cond, arith, eqb, ltb, inl, inr, eq-eqb, eqb-true, lt-ltb, ltb-true, ltb-false}
use Rattle.parts.specs.Cells.{place_in, nobody}
use Rattle.bounded.proofs.Truth.{bool}
use Rattle.bounded.proofs.Laws.{first_has, first_lacks}
use Rattle.tables.specs.Sites.{site_count}
use Rattle.tables.specs.Fits.{Fits}
use Rattle.tables.specs.declared.Tables.{Tables}
use Rattle.refusals.specs.Refusals.{deliver_refusal_in, carry_refusal_in}
use Rattle.search.specs.Search.{Seen, closing, nowhere, closes_first_in, first_closing_in, first_delivering_in, first_to_in, first_from_in, first_carried_in, todo_in}
use Rattle.search.specs.Known.{first_pair}
use Rattle.search.specs.Search.{Todo}
use Rattle.search.specs.Search.{Close, Deliver, Carry, Nothing}
use Rattle.refusals.proofs.Passed.{deliver_has, carry_has}
use Rattle.search.proofs.Closes.{close_has}
use Rattle.search.proofs.Tried.{none_closes}
use Rattle.search.proofs.Pair.{pair_found, pair_carries, pair_from, pair_to, carried_pair}

-- a CARRY that comes next: it is between the first pair of the first transaction that has a vote to carry, and there is no CLOSE and no DELIVER
pub record Hands (T : Tables) (w : Seen) (t from to : ℕ) : Type 0 where
  pub accepted : carry_refusal_in T w.cast w.carried t from to ≡ 0
  pub giver : from < 16
  pub taker : to < 16
  pub pair : first_pair T w.cast w.carried t ≡ from * 16 + to
  pub low : t < nobody
  pub first : t ≡ first_carried_in T w.places w.cast w.carried
  pub closes : nowhere ≤ first_closing_in T w
  pub delivers : nowhere ≤ first_delivering_in T w.places w.delivered w.closed

abbrev pub Says : Tables → Seen → Todo → Type 0
Says T w (Close t s) = (s < 16) × (closing T w t s ≡ 0)
Says T w (Deliver s) = (s < 16) × (deliver_refusal_in T w.places w.delivered w.closed s ≡ 0)
Says T w (Carry t from to) = Hands T w t from to
Says T w Nothing = (nowhere ≤ first_closing_in T w) × (nowhere ≤ first_delivering_in T w.places w.delivered w.closed) × (nobody ≤ first_carried_in T w.places w.cast w.carried)

module _ (T : Tables) (w : Seen) (fits : Fits T) where
  -- what the searches find can be taken
  one_closes : (s : ℕ) → closes_first_in T w s < nobody → closing T w (closes_first_in T w s) s ≡ 0
  unfolding closes_first_in
  one_closes s h = eqb-true _ _ (first_has T.txns (place_in w.places) (λ t. eqb (closing T w t s) 0) nobody fits.txns h).passes

  site_closes : first_closing_in T w < nowhere → closes_first_in T w (first_closing_in T w) < nobody
  unfolding first_closing_in
  site_closes h = ltb-true _ _ (first_has (site_count T) (λ i. 0) (λ s. ltb (closes_first_in T w s) nobody) nowhere fits.sites h).passes

  site_delivers : first_delivering_in T w.places w.delivered w.closed < nowhere
      → deliver_refusal_in T w.places w.delivered w.closed (first_delivering_in T w.places w.delivered w.closed) ≡ 0
  unfolding first_delivering_in
  site_delivers h = eqb-true _ _ (first_has (site_count T) (λ i. 0) (λ s. eqb (deliver_refusal_in T w.places w.delivered w.closed s) 0) nowhere fits.sites h).passes

  todo_says : Says T w (todo_in T w)
  unfolding todo_in
  todo_says = by (ltb c nowhere) (ltb d nowhere) (ltb t nobody) refl refl refl
    where
      c : ℕ
      c = first_closing_in T w

      d : ℕ
      d = first_delivering_in T w.places w.delivered w.closed

      t : ℕ
      t = first_carried_in T w.places w.cast w.carried

      f : ℕ
      f = first_from_in T w.cast w.carried t

      carries : nowhere ≤ c → nowhere ≤ d → t < nobody → Says T w (Carry t f (first_to_in T w.cast w.carried t f))
      carries a b l =
          let p = first_pair T w.cast w.carried t in
          let q : p < 256 = carried_pair T fits w.places w.cast w.carried t refl l in
          rw (pair_from T w.cast w.carried t fits.sites q, pair_to T w.cast w.carried t fits.sites q) (record {
            accepted = pair_carries T w.cast w.carried t q;
            giver = omega arith;
            taker = omega arith;
            pair = omega arith;
            low = l;
            first = refl;
            closes = a;
            delivers = b;
          })

      by : (x y z : Bool) → ltb c nowhere ≡ x → ltb d nowhere ≡ y → ltb t nobody ≡ z
          → Says T w (cond x (Close (closes_first_in T w c) c) (cond y (Deliver d) (cond z (Carry t f (first_to_in T w.cast w.carried t f)) Nothing)))
      by true y z p q r = (ltb-true _ _ p, one_closes c (site_closes (ltb-true _ _ p)))
      by false true z p q r = (ltb-true _ _ q, site_delivers (ltb-true _ _ q))
      by false false true p q r = carries (ltb-false _ _ p) (ltb-false _ _ q) (ltb-true _ _ r)
      by false false false p q r = (ltb-false _ _ p, ltb-false _ _ q, ltb-false _ _ r)

  pub next_says : (x : Todo) → todo_in T w ≡ x → Says T w x
  next_says x e = rw e at todo_says

  -- where a search finds none, there is none
  pub nothing_closes : nowhere ≤ first_closing_in T w → (t s : ℕ) → closing T w t s ≡ 0 → ⊥
  unfolding first_closing_in
  nothing_closes h t s z = elim (bool (ltb (closes_first_in T w s) nobody)) [
    | inl e ↦ first_lacks (site_count T) (λ i. 0) (λ s. ltb (closes_first_in T w s) nobody) nowhere fits.sites h s (close_has T w t s z).site e
    | inr e ↦ none_closes T fits w s (ltb-false _ _ e) t z
  ]

  pub nothing_delivers : nowhere ≤ first_delivering_in T w.places w.delivered w.closed → (s : ℕ) → deliver_refusal_in T w.places w.delivered w.closed s ≡ 0 → ⊥
  unfolding first_delivering_in
  nothing_delivers h s z =
      first_lacks (site_count T) (λ i. 0) (λ s. eqb (deliver_refusal_in T w.places w.delivered w.closed s) 0) nowhere fits.sites h s
      (deliver_has T w.places w.delivered w.closed s fits z).0 (eq-eqb _ _ z)

  pub nothing_carries : nobody ≤ first_carried_in T w.places w.cast w.carried → (t from to : ℕ) → carry_refusal_in T w.cast w.carried t from to ≡ 0 → ⊥
  unfolding first_carried_in
  nothing_carries h t from to z =
      let c = carry_has T w.cast w.carried t from to z in
      first_lacks T.txns (place_in w.places) (λ t. ltb (first_from_in T w.cast w.carried t) nowhere) nobody fits.txns h t c.txn
      (lt-ltb _ _ (pair_found T w.cast w.carried t fits.sites from to z))
