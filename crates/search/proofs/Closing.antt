-- What can be closed at a site, where the transactions in its queue stand between two positions of the order.
-- Assumes nothing.
use Rattle.std.proofs.Common.{ℕ, ◌≤◌, ◌<◌, ◌≡◌, refl, sym, ◌∙◌, true, false, cond, List, Option, Some, None, unwrap_or, Result, Ok, Err, is_ok, inl, inr, arith, eqb, ltb, get_or, set, length, eq-eqb, ne_eqb, eqb-true, lt-ltb, ltb-true, ltb-false}
use borrow.Author.Tests.{lt-leb}
use Rattle.std.specs.Option.{option_eq}
use Rattle.numbers.specs.Numbers.{step_answer, step_number}
use Rattle.numbers.specs.declared.StepRefusal.{StepRefusal}
use Rattle.numbers.proofs.Laws.{step_refuses}
use Rattle.queues.specs.Queue.{queued_in}
use Rattle.order.specs.Order.{Ordered, queued_at}
use Rattle.order.proofs.Order.{order_first, order_none}
use Rattle.order.proofs.Positions.{head_is}
use Rattle.bounded.specs.Bounded.{first_below, least_below}
use Rattle.bounded.proofs.Truth.{and-true, and_put, bool, clash}
use Rattle.bounded.proofs.Laws.{least_stop}
use Rattle.tables.specs.Sites.{site_count}
use Rattle.tables.specs.Concern.{concerns}
use Rattle.tables.specs.Fits.{Fits}
use Rattle.tables.specs.declared.Tables.{Tables}
use Rattle.plan.specs.Planned.{Planned}
use Rattle.plan.specs.declared.Plan.{Plan}
use Rattle.parts.specs.declared.Parts.{Parts}
use Rattle.parts.specs.Cells.{place_in, cell, nobody}
use Rattle.refusals.specs.Refusals.{verdict_refusal_in, close_refusal_in}
use Rattle.search.specs.Search.{Seen, closing, nowhere, closes_first_in, first_closing_in}
use Rattle.search.specs.Known.{any, KnowsAt, closable_code, Knows}
use Rattle.search.specs.declared.Known.{Known}
use Rattle.search.specs.declared.Closable.TheVariants.{Nobody, Only}
use Rattle.search.proofs.Closes.{close_has}
use Rattle.search.proofs.Tried.{code_shut, none_closes}
use Rattle.search.proofs.Stored.{knows_code}

-- ---- one transaction

-- what is not in the queue of s cannot be closed there
pub only_queued : (T : Tables) (w : Seen) (t s : ℕ) → queued_in w.delivered w.closed s t ≡ false → eqb (closing T w t s) 0 ≡ false
only_queued T w t s h = ne_eqb _ _ (λ z. let g = close_has T w t s z in clash (and_put _ _ g.delivered (eq-eqb _ _ g.unclosed)) h)

-- nor what doesn't concern s
pub only_concerned : (T : Tables) (w : Seen) (t s : ℕ) → concerns T t s ≡ false → eqb (closing T w t s) 0 ≡ false
only_concerned T w t s h = ne_eqb _ _ (λ z. clash (close_has T w t s z).concerned h)

-- what is in it and concerns s is judged by its verdict
pub by_verdict : (T : Tables) (w : Seen) (t s : ℕ) → t < T.txns → s < site_count T → concerns T t s ≡ true → queued_in w.delivered w.closed s t ≡ true
    → closing T w t s ≡ verdict_refusal_in T w.versions w.places w.delivered w.closed w.cast w.carried t s
unfolding close_refusal_in
by_verdict T w t s l k concerned queued =
    let (d, o) = and-true (cell false w.delivered t s) (eqb (cell 0 w.closed t s) 0) queued in
    let z : cell 0 w.closed t s ≡ 0 = eqb-true _ _ o in
    rw (lt-leb _ _ l, lt-leb _ _ k, concerned, z, d)

-- an answer without a refusal is 0
pub accepts : (r : Result (Unit {0}) StepRefusal) → is_ok r ≡ eqb (step_answer r) 0
accepts (Ok u) = refl
accepts (Err e) = sym (ne_eqb (step_number e) 0 (step_refuses e))

-- ---- the transactions of a queue between the positions p and q of the order

module _ (T : Tables) (w : Seen) (order : List ℕ) (s p q : ℕ) (fits : T.txns ≤ nobody) (o : Ordered w.places T.txns order)
    (below : (i : ℕ) → i < p → queued_at w.delivered w.closed order s i ≡ false)
    (above : (i : ℕ) → q ≤ i → queued_at w.delivered w.closed order s i ≡ false) where
  -- none that stands before i can be closed, where those from p on were tried
  tried : (i : ℕ) → ((j : ℕ) → p ≤ j → j < i → get_or order j nobody < nobody → eqb (closing T w (get_or order j nobody) s) 0 ≡ false)
      → (j : ℕ) → j < i → get_or order j nobody < nobody → eqb (closing T w (get_or order j nobody) s) 0 ≡ false
  tried i h j l low = elim (bool (ltb j p)) [
    | inl e ↦ only_queued T w (get_or order j nobody) s (below j (ltb-true j p e))
    | inr e ↦ h j (ltb-false j p e) l low
  ]

  -- the first that can be closed
  pub first_closes : (i : ℕ) → ((j : ℕ) → p ≤ j → j < i → get_or order j nobody < nobody → eqb (closing T w (get_or order j nobody) s) 0 ≡ false)
      → get_or order i nobody < nobody → eqb (closing T w (get_or order i nobody) s) 0 ≡ true → closes_first_in T w s ≡ get_or order i nobody
  unfolding closes_first_in
  first_closes i h low z = order_first w.places T.txns order fits o (λ t. eqb (closing T w t s) 0) i (tried i h) low z

  -- none can
  pub none_first : ((j : ℕ) → p ≤ j → j < q → get_or order j nobody < nobody → eqb (closing T w (get_or order j nobody) s) 0 ≡ false) → closes_first_in T w s ≡ nobody
  unfolding closes_first_in
  none_first h = order_none w.places T.txns order fits o (λ t. eqb (closing T w t s) 0) (λ j low. elim (bool (ltb j q)) [
    | inl e ↦ tried q h j (ltb-true j q e) low
    | inr e ↦ only_queued T w (get_or order j nobody) s (above j (ltb-false j q e))
  ])

-- ---- the head of a queue

-- t is the one found
pub found_is : (h : Option ℕ) (t : ℕ) → t < nobody → option_eq eqb h (Some t) ≡ eqb (unwrap_or h nobody) t
found_is None t l = sym (ne_eqb nobody t (λ e. absurd (omega arith)))
found_is (Some u) t l = refl

-- it stands at p
pub head_stands : (p : Plan) (w : Parts) (order : List ℕ) (s a b : ℕ) (head : Option ℕ) → Planned p → length w.delivered ≡ 2048 → Ordered w.places p.tables.txns order
    → ((i : ℕ) → i < a → queued_at w.delivered w.closed order s i ≡ false)
    → ((i : ℕ) → b ≤ i → queued_at w.delivered w.closed order s i ≡ false)
    → (a < b → queued_at w.delivered w.closed order s a ≡ true)
    → unwrap_or head nobody ≡ cond (ltb a b) (get_or order a nobody) nobody
    → unwrap_or head nobody ≡ first_below p.tables.txns (place_in w.places) (queued_in w.delivered w.closed s) nobody
head_stands p w order s a b head planned long o below above starts at =
    at ∙ head_is w.places p.tables.txns order w.delivered w.closed s a b planned.fits.txns o long below above starts

-- ---- what is known

-- a code that names no transaction says that none can be closed
pub code_past : (T : Tables) → Fits T → (w : Seen) (s c : ℕ) → T.txns ≤ c → (c ≡ any → ⊥) → KnowsAt T w s c → closes_first_in T w s ≡ nobody
code_past T fits w s c l one k = code_shut T fits w s c one k (ne_eqb (closing T w c s) 0 (λ z. absurd (omega (arith, (close_has T w c s z).txn))))

-- so does one that remembers a number that is no transaction's
pub only_past : (T : Tables) → Fits T → (w : Seen) (s t : ℕ) → T.txns ≤ t → KnowsAt T w s (closable_code (Only t)) → closes_first_in T w s ≡ nobody
only_past T fits w s t l k = elim (bool (ltb t nobody)) [
  | inl e ↦ code_past T fits w s t l (λ q. absurd (omega (arith, q, ltb-true t nobody e))) (rw e at k)
  | inr e ↦ code_past T fits w s nobody fits.txns (λ q. absurd (omega (arith, q))) (rw e at k)
]

-- where none was found that can be closed, that is known too
pub knows_none : (T : Tables) (w : Seen) (order : List ℕ) (l : Known) → Knows T w order l → (s : ℕ) → Fits T → nobody ≤ closes_first_in T w s → Knows T w order (record l { closable = set l.closable s Nobody })
knows_none T w order l k s fits h = knows_code T w order l k s Nobody (λ t _ z. none_closes T fits w s h t z)

-- ---- the first site

-- where none before s has one to close and s has, s is the first
pub first_site : (T : Tables) → Fits T → (w : Seen) (s t : ℕ) → s < site_count T → least_below s (λ z. ltb (closes_first_in T w z) nobody) nowhere ≡ nowhere
    → t ≡ closes_first_in T w s → t < nobody → s ≡ first_closing_in T w
unfolding first_closing_in
first_site T fits w s t l none e low =
    let has : closes_first_in T w s < nobody = omega arith in
    sym (least_stop (site_count T) s (λ z. ltb (closes_first_in T w z) nobody) nowhere l fits.sites none (lt-ltb _ _ has))
