-- SETTLE's fuel is enough: each step takes one off what is left to do, no state has more than 34,816 left, so at the end nothing is accepted.
-- Assumes nothing.
use Rattle.std.proofs.Common.{ℕ, zero, suc, ◌+◌, ◌*◌, ◌%◌, ◌≤◌, ◌<◌, ◌≡◌, refl, ◌∙◌, Bool, true, false, ◌&&◌, not, cond, ◌⊎◌, inl, inr, List, arith, sub-one, eqb, ltb, length, get_or, set, length-set, get_or-set_same, get_or-set_other, eq-eqb, ne_eqb}
use Rattle.std.proofs.lemmas.Bool.{not-true}
use Rattle.queues.specs.Queue.{waits, next_in}
use Rattle.parts.specs.Cells.{place_in, nobody}
use Rattle.bounded.specs.Bounded.{sum_below}
use Rattle.bounded.proofs.Truth.{and-true}
use Rattle.bounded.proofs.Laws.{first-is, sum_same, sum_less, sum_most}
use Rattle.keys.specs.Keys.{member, adding}
use Rattle.keys.proofs.Laws.{adding_same, adding_other}
use Rattle.tables.specs.Concern.{concerns}
use Rattle.machine.specs.Parts.{place_of, delivered_at, with_closed}
use Rattle.machine.specs.Rules.{next_at, verdict}
use Rattle.machine.specs.Usable.{usable}
use Rattle.machine.specs.Effects.{deliver_done, carry_done, committed, close_done}
use Rattle.machine.specs.Refusals.{deliver_refusal, carry_refusal, close_refusal}
use Rattle.machine.specs.Settle.{parts_of, todo, after, most, settle_for, settle_done}
use Rattle.machine.specs.declared.State.{State}
use Rattle.refusals.proofs.Passed.{deliver_has, carry_has}
use Rattle.search.proofs.Closes.{close_has}
use Rattle.search.proofs.Accepted.{next_says, nothing_closes, nothing_delivers, nothing_carries}
use Rattle.search.specs.Search.{Todo}
use Rattle.search.specs.Search.{Close, Deliver, Carry, Nothing}
use Rattle.machine.proofs.Laws.{usable_has, usable_fits}
use Rattle.machine.proofs.Settle.{Accepted, todo_accepted, after_usable, settle_stops, settle_goes, settle_ends}

-- the arrays are as long as they are declared
pub record Sized (st : State) : Type 0 where
  pub delivered : length st.parts.delivered ≡ 2048
  pub closed : length st.parts.closed ≡ 2048
  pub carried : length st.parts.carried ≡ 2048

-- left at cell i: a delivery, a closing, the votes of the other sites
abbrev undelivered : List Bool → ℕ → ℕ
undelivered l i = cond (get_or l i false) 0 1

abbrev unclosed : List ℕ → ℕ → ℕ
unclosed l i = cond (eqb (get_or l i 0) 0) 1 0

abbrev lacking : List ℕ → ℕ → ℕ → ℕ
lacking l i f = cond (eqb f (i % 16)) 0 (cond (member (get_or l i 0) f) 0 1)

abbrev uncarried : List ℕ → ℕ → ℕ
uncarried l i = sum_below 16 (lacking l i)

unfoldable left : State → ℕ
left st = sum_below 2048 (undelivered st.parts.delivered) + sum_below 2048 (unclosed st.parts.closed) + sum_below 2048 (uncarried st.parts.carried)

few : (a b : ℕ) (c : Bool) → a ≤ 1 → b ≤ 1 → cond c a b ≤ 1
few a b true h k = h
few a b false h k = k

one : (c : Bool) → cond c 0 1 ≤ 1
one c = few 0 1 c (omega arith) (omega arith)

-- of sixteen sites all but the cell's own
others : (l : List ℕ) (i : ℕ) → uncarried l i ≤ 15
others l i =
    let g : ℕ → ℕ = λ f. cond (eqb f (i % 16)) 1 (cond (member (get_or l i 0) f) 0 1) in
    let most_g = sum_most 16 1 g (λ f k. few 1 (cond (member (get_or l i 0) f) 0 1) (eqb f (i % 16)) (omega arith) (one (member (get_or l i 0) f))) in
    omega (arith, most_g, sum_less 16 (i % 16) (lacking l i) g (omega arith) (λ f k d. rw (ne_eqb f (i % 16) d)) (rw (eq-eqb (i % 16) (i % 16) refl)))

-- no state has more left than SETTLE's fuel
left_most : (st : State) → left st ≤ most
unfolding left
left_most st = omega (
  arith,
  sum_most 2048 1 (undelivered st.parts.delivered) (λ i l. one (get_or st.parts.delivered i false)),
  sum_most 2048 1 (unclosed st.parts.closed) (λ i l. few 1 0 (eqb (get_or st.parts.closed i 0) 0) (omega arith) (omega arith)),
  sum_most 2048 15 (uncarried st.parts.carried) (λ i l. others st.parts.carried i),
)

-- what waits is not delivered
next_waits : (st : State) (s : ℕ) → st.tables.txns ≤ 128 → next_at st s < st.tables.txns → delivered_at st (next_at st s) s ≡ false
unfolding next_in
next_waits st s l low =
    elim (first-is st.tables.txns (place_in st.parts.places) (λ t. waits (place_of st t) (delivered_at st t s) (concerns st.tables t s)) nobody l) [
      | inl f ↦
          let t = next_at st s in
          let w = (and-true (ltb 0 (place_of st t)) (not (delivered_at st t s) && concerns st.tables t s) f.passes).1 in
          not-true _ (and-true (not (delivered_at st t s)) (concerns st.tables t s) w).0
      | inr q ↦ absurd (omega (arith, q.0))
    ]

-- a cell that is set is one less
delivered_less : (l : List Bool) (i : ℕ) → length l ≡ 2048 → i < 2048 → get_or l i false ≡ false
    → suc (sum_below 2048 (undelivered (set l i true))) ≡ sum_below 2048 (undelivered l)
delivered_less l i z k e = sum_less 2048 i (undelivered (set l i true)) (undelivered l) k
    (λ j m d. rw (get_or-set_other l i j true false d))
    (rw (get_or-set_same l i true false (omega arith), e))

closed_less : (l : List ℕ) (i c : ℕ) → length l ≡ 2048 → i < 2048 → get_or l i 0 ≡ 0 → (c ≡ 0 → ⊥)
    → suc (sum_below 2048 (unclosed (set l i c))) ≡ sum_below 2048 (unclosed l)
closed_less l i c z k e d = sum_less 2048 i (unclosed (set l i c)) (unclosed l) k
    (λ j m n. rw (get_or-set_other l i j c 0 n))
    (rw (get_or-set_same l i c 0 (omega arith), e, ne_eqb c 0 d))

carried_less : (l : List ℕ) (i f : ℕ) → length l ≡ 2048 → i < 2048 → f < 16 → (f ≡ i % 16 → ⊥) → member (get_or l i 0) f ≡ false
    → suc (sum_below 2048 (uncarried (set l i (adding (get_or l i 0) f)))) ≡ sum_below 2048 (uncarried l)
carried_less l i f z k b d e = sum_less 2048 i (uncarried (set l i m)) (uncarried l) k
    (λ j h n. sum_same 16 (lacking (set l i m) j) (lacking l j) (λ g q. rw (get_or-set_other l i j m 0 n)))
    (sum_less 16 f (lacking (set l i m) i) (lacking l i) b
    (λ g q n. rw (get_or-set_same l i m 0 (omega arith), adding_other (get_or l i 0) f g n e))
    (rw (get_or-set_same l i m 0 (omega arith), ne_eqb f (i % 16) d, adding_same (get_or l i 0) f e, e)))
  where
    m : ℕ
    m = adding (get_or l i 0) f

-- each step that SETTLE takes is one less to do
left_less : (st : State) (x : Todo) → Sized st → usable st ≡ true → Accepted st x → (x ≡ Nothing → ⊥) → suc (left (after st x)) ≡ left st
unfolding left deliver_done carry_done close_done committed
left_less st (Deliver s) z h a d =
    let u = usable_has st h in
    let (q, l) = deliver_has st.tables st.parts.places st.parts.delivered st.parts.closed s (usable_fits st h) a in
    omega (arith, delivered_less st.parts.delivered (next_at st s * 16 + s) z.delivered (omega (arith, u.txns, u.sites)) (next_waits st s u.txns l))
left_less st (Close t s) z h a d =
    let u = usable_has st h in
    let g = close_has st.tables (parts_of st) t s a in
    let e = closed_less st.parts.closed (t * 16 + s) (verdict st t s) z.closed (omega (arith, u.txns, u.sites, g.txn, g.site)) g.unclosed g.known in
    stored (eqb (verdict st t s) 1) e
  where
    stored : (b : Bool) → suc (sum_below 2048 (unclosed (set st.parts.closed (t * 16 + s) (verdict st t s)))) ≡ sum_below 2048 (unclosed st.parts.closed)
        → suc (left (with_closed (cond b (committed st t s) st) t s (verdict st t s))) ≡ left st
    stored true e = omega arith
    stored false e = omega arith
left_less st (Carry t from to) z h a d =
    let u = usable_has st h in
    let g = carry_has st.tables st.parts.cast st.parts.carried t from to a in
    let r : (t * 16 + to) % 16 ≡ to = omega (arith, u.sites, g.taker) in
    omega (arith, carried_less st.parts.carried (t * 16 + to) from z.carried (omega (arith, u.txns, u.sites, g.txn, g.taker)) (omega (arith, u.sites, g.giver)) (λ e. g.differ (e ∙ r)) g.lacks)
left_less st Nothing z h a d = absurd (d refl)

after_sized : (st : State) (x : Todo) → Sized st → Sized (after st x)
unfolding deliver_done carry_done close_done committed
after_sized st (Close t s) z = stored (eqb (verdict st t s) 1)
  where
    stored : (b : Bool) → Sized (with_closed (cond b (committed st t s) st) t s (verdict st t s))
    stored true = record { delivered = z.delivered; closed = length-set st.parts.closed _ _ ∙ z.closed; carried = z.carried }
    stored false = record { delivered = z.delivered; closed = length-set st.parts.closed _ _ ∙ z.closed; carried = z.carried }
after_sized st (Deliver s) z = record { delivered = length-set st.parts.delivered _ _ ∙ z.delivered; closed = z.closed; carried = z.carried }
after_sized st (Carry t from to) z = record { delivered = z.delivered; closed = z.closed; carried = length-set st.parts.carried _ _ ∙ z.carried }
after_sized st Nothing z = z

pub is_nothing : (x : Todo) → (x ≡ Nothing) ⊎ (x ≡ Nothing → ⊥)
is_nothing (Close t s) = inr (λ e. absurd (let q : ◌≡◌ {A = ℕ} 0 1 = cc in omega arith))
is_nothing (Deliver s) = inr (λ e. absurd (let q : ◌≡◌ {A = ℕ} 0 1 = cc in omega arith))
is_nothing (Carry t from to) = inr (λ e. absurd (let q : ◌≡◌ {A = ℕ} 0 1 = cc in omega arith))
is_nothing Nothing = inl refl

settled : (f n : ℕ) (st : State) → Sized st → usable st ≡ true → left st ≤ f → todo (settle_for f n st).next ≡ Nothing
settled zero n st z h l = rw (settle_ends 0 n st refl) (elim (is_nothing (todo st)) [
  | inl e ↦ e
  | inr d ↦ absurd (omega (arith, left_less st (todo st) z h (todo_accepted st h) d))
])
settled (suc f) n st z h l = turn (is_nothing (todo st)) (settled f (n + 1) (after st (todo st)))
  where
    turn : (todo st ≡ Nothing) ⊎ (todo st ≡ Nothing → ⊥)
        → (Sized (after st (todo st)) → usable (after st (todo st)) ≡ true → left (after st (todo st)) ≤ f → todo (settle_for f (n + 1) (after st (todo st))).next ≡ Nothing)
        → todo (settle_for (suc f) n st).next ≡ Nothing
    turn (inl e) more = rw (settle_stops (suc f) n st (omega arith) e) e
    turn (inr d) more = rw (settle_goes (suc f) n st (todo st) (omega arith) refl d, sub-one)
        (more (after_sized st (todo st) z) (after_usable st (todo st) h) (omega (arith, left_less st (todo st) z h (todo_accepted st h) d)))

-- none of CLOSE, DELIVER and CARRY is accepted
pub record Finished (st : State) : Type 0 where
  pub closes : (t s : ℕ) → close_refusal st t s ≡ 0 → ⊥
  pub delivers : (s : ℕ) → deliver_refusal st s ≡ 0 → ⊥
  pub carries : (t from to : ℕ) → carry_refusal st t from to ≡ 0 → ⊥

-- where SETTLE has nothing to do
pub nothing_left : (st : State) → usable st ≡ true → todo st ≡ Nothing → Finished st
nothing_left st h e =
    let (a, b, c) = next_says st.tables (parts_of st) (usable_fits st h) Nothing e in
    record {
      closes = nothing_closes st.tables (parts_of st) (usable_fits st h) a;
      delivers = nothing_delivers st.tables (parts_of st) (usable_fits st h) b;
      carries = nothing_carries st.tables (parts_of st) (usable_fits st h) c;
    }

pub settle_usable : (f n : ℕ) (st : State) → usable st ≡ true → usable (settle_for f n st).next ≡ true
settle_usable zero n st h = rw (settle_ends 0 n st refl) h
settle_usable (suc f) n st h = turn (is_nothing (todo st)) (settle_usable f (n + 1) (after st (todo st)))
  where
    turn : (todo st ≡ Nothing) ⊎ (todo st ≡ Nothing → ⊥)
        → (usable (after st (todo st)) ≡ true → usable (settle_for f (n + 1) (after st (todo st))).next ≡ true)
        → usable (settle_for (suc f) n st).next ≡ true
    turn (inl e) more = rw (settle_stops (suc f) n st (omega arith) e) h
    turn (inr d) more = rw (settle_goes (suc f) n st (todo st) (omega arith) refl d, sub-one) (more (after_usable st (todo st) h))

-- at the end of SETTLE none of CLOSE, DELIVER and CARRY is accepted, on any usable state
pub settle_finishes : (st : State) → Sized st → usable st ≡ true → Finished (settle_done st).next
unfolding settle_done
settle_finishes st z h = nothing_left (settle_for most 0 st).next (settle_usable most 0 st h) (settled most 0 st z h (left_most st))
