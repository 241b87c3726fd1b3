-- Searches for a DELIVER and a CARRY by positions of the order, given what is known, and what is known once they have looked.
-- Assumes nothing.
use Rattle.std.proofs.Common.{ℕ, ◌+◌, ◌-◌, ◌≤◌, ◌<◌, ◌≡◌, refl, sym, ◌∙◌, Bool, true, false, not, cond, List, inl, inr, arith, eqb, ltb, length, get_or, set, get_or-set_same, ne_eqb, le-ltb, lt-ltb, ltb-true, ltb-false}
use borrow.Author.Tests.{lt-leb}
use Rattle.queues.specs.Queue.{next_in, next_of, blocked_of}
use Rattle.order.specs.Order.{Ordered, waits_in, waits_at, queued_at}
use Rattle.order.proofs.Order.{order_first, order_none, rank_below}
use Rattle.bounded.specs.Bounded.{least_below}
use Rattle.bounded.proofs.Truth.{bool, same}
use Rattle.tables.specs.Sites.{site_count}
use Rattle.tables.specs.Fits.{Fits}
use Rattle.tables.specs.declared.Tables.{Tables}
use Rattle.parts.specs.Cells.{nobody}
use Rattle.steps.specs.declared.Place.{Place}
use Rattle.refusals.specs.Refusals.{deliver_refusal_in}
use Rattle.search.specs.Search.{Seen, nowhere, first_from_in, first_carried_in}
use Rattle.search.specs.Within.{Within}
use Rattle.search.specs.Known.{first_pair, next_at, top_at, Knows}
use Rattle.search.specs.declared.Known.{Known}
use Rattle.search.proofs.Pair.{pair_passed, pair_none, pair_from, from_pair}
use Rattle.search.proofs.Stored.{knows_next, knows_low, knows_top, knows_passed, knows_open}

-- ---- positions

-- what holds below a, and from a on, below b
up_to : (P : ℕ → Type 0) (a b : ℕ) → ((i : ℕ) → i < a → P i) → ((i : ℕ) → a ≤ i → i < b → P i) → (i : ℕ) → i < b → P i
up_to P a b f g i h = elim (bool (ltb i a)) [ inl e ↦ f i (ltb-true i a e) | inr e ↦ g i (ltb-false i a e) h ]

-- there are no more than 128 positions
within_order : (places : List Place) (n : ℕ) (order : List ℕ) → n ≤ nobody → Ordered places n order → (i : ℕ) → get_or order i nobody < nobody → i < 128
within_order places n order fits o i h = omega (arith, fits, (o.is i h).1, rank_below places n (get_or order i nobody) (o.is i h).0)

-- ---- DELIVER

module _ (T : Tables) (w : Seen) (order : List ℕ) (l : Known) (g : Knows T w order l) (s v : ℕ) (low : s < 16) where
  -- none before v waits at s, if none does from the position on that was stored last
  pub waits_to : ((i : ℕ) → next_at l s ≤ i → i < v → waits_at T w.places w.delivered order s i ≡ false) → (i : ℕ) → i < v → waits_at T w.places w.delivered order s i ≡ false
  waits_to f = up_to (λ i. waits_at T w.places w.delivered order s i ≡ false) (next_at l s) v (λ i h. g.next s i low h) f

  -- none from v on is in the queue of s, if none is below its head p, nor from there on
  pub queue_ends : (p : ℕ) → ((i : ℕ) → i < p → queued_at w.delivered w.closed order s i ≡ false)
      → ((i : ℕ) → v ≤ i → i < top_at l s → p ≤ i → queued_at w.delivered w.closed order s i ≡ false) → (i : ℕ) → v ≤ i → queued_at w.delivered w.closed order s i ≡ false
  queue_ends p below f i q = elim (bool (ltb i p)) [
    | inl a ↦ below i (ltb-true i p a)
    | inr a ↦ elim (bool (ltb i (top_at l s))) [
      | inl b ↦ f i q (ltb-true i (top_at l s) b) (ltb-false i p a)
      | inr b ↦ g.top s i low (ltb-false i (top_at l s) b)
    ]
  ]

  -- the three positions of s stored
  pub knows_looked : (p q : ℕ) (b : Within (set l.next.at s v)) (h : Within (set l.top.at s q)) → s < length l.top.at
      → ((i : ℕ) → i < v → waits_at T w.places w.delivered order s i ≡ false)
      → ((i : ℕ) → i < p → queued_at w.delivered w.closed order s i ≡ false)
      → ((i : ℕ) → q ≤ i → queued_at w.delivered w.closed order s i ≡ false)
      → Knows T w order (record l { next = record { at = set l.next.at s v; within = b }; low = set l.low s p; top = record { at = set l.top.at s q; within = h } })
  knows_looked p q b h long waits below above =
      let k : Knows T w order (record l { next = record { at = set l.next.at s v; within = b }; low = set l.low s p }) = knows_low T w order (record l { next = record { at = set l.next.at s v; within = b } }) (knows_next T w order l g s v b waits) s p below in
      knows_top T w order (record l { next = record { at = set l.next.at s v; within = b }; low = set l.low s p }) k s q h long above

module _ (T : Tables) (fits : Fits T) (w : Seen) (order : List ℕ) (o : Ordered w.places T.txns order) (s : ℕ) where
  -- the first position that waits has the next to deliver
  pub next_found : (i : ℕ) → ((j : ℕ) → j < i → waits_at T w.places w.delivered order s j ≡ false) → get_or order i nobody < nobody → waits_at T w.places w.delivered order s i ≡ true
      → next_of T w.places w.delivered s ≡ get_or order i nobody
  unfolding next_in
  next_found i f l h = order_first w.places T.txns order fits.txns o (waits_in T w.places w.delivered s) i (λ j b _. f j b) l h

  -- where none waits, there is none
  pub next-none : ((j : ℕ) → j < 128 → waits_at T w.places w.delivered order s j ≡ false) → next_of T w.places w.delivered s ≡ nobody
  unfolding next_in
  next-none f = order_none w.places T.txns order fits.txns o (waits_in T w.places w.delivered s) (λ j l. f j (within_order w.places T.txns order fits.txns o j l))

module _ (T : Tables) (w : Seen) (s : ℕ) (l : s < site_count T) where
  -- it can be delivered unless it is blocked
  pub deliver_answers : (t : ℕ) (b : Bool) → next_of T w.places w.delivered s ≡ t → t < nobody → b ≡ blocked_of T w.delivered w.closed t s
      → not b ≡ eqb (deliver_refusal_in T w.places w.delivered w.closed s) 0
  unfolding deliver_refusal_in
  deliver_answers t b e h q = rw (lt-leb (site_count T) s l, e, ne_eqb t nobody (λ z. absurd (omega arith)), ← q) (tested b)
    where
      tested : (b : Bool) → not b ≡ eqb (cond b 27 0) 0
      tested true = refl
      tested false = refl

  -- where there is none, nothing can
  pub deliver_none : next_of T w.places w.delivered s ≡ nobody → eqb (deliver_refusal_in T w.places w.delivered w.closed s) 0 ≡ false
  unfolding deliver_refusal_in
  deliver_none e = rw (lt-leb (site_count T) s l, e)

-- no site below s can deliver
abbrev pub NoneBelow : Tables → Seen → ℕ → Type 0
NoneBelow T w s = least_below s (λ z. eqb (deliver_refusal_in T w.places w.delivered w.closed z) 0) nowhere ≡ nowhere

-- ---- CARRY by positions

-- the transaction at position i has no pairs left
abbrev pub Done : List ℕ → Known → ℕ → Type 0
Done order l i = get_or order i nobody < nobody → 256 ≤ get_or l.passed (get_or order i nobody) 0

module _ (T : Tables) (w : Seen) (order : List ℕ) (l : Known) (k : Knows T w order l) (i : ℕ) (f : (j : ℕ) → l.open ≤ j → j < i → Done order l j) where
  -- before position i nobody has pairs left
  sought : (j : ℕ) → j < i → Done order l j
  sought = up_to (λ j. Done order l j) l.open i (λ j h. k.opened j h) f

  -- that position stored
  pub knows_sought : Knows T w order (record l { «open» = i })
  knows_sought = knows_open T w order l k i sought

  module _ (fits : Fits T) where
    -- who has no pairs left has no vote to carry
    shut : (t : ℕ) → 256 ≤ get_or l.passed t 0 → ltb (first_from_in T w.cast w.carried t) nowhere ≡ false
    shut t h = elim (bool (ltb (first_from_in T w.cast w.carried t) nowhere)) [
      | inr e ↦ e
      | inl e ↦ absurd (omega (
        arith,
        from_pair T w.cast w.carried t fits.sites (ltb-true (first_from_in T w.cast w.carried t) nowhere e),
        pair_none T w.cast w.carried t (get_or l.passed t 0) h (k.passed t),
      ))
    ]

    -- so where i is past the last position, nobody has
    pub none_open : 128 ≤ i → first_carried_in T w.places w.cast w.carried ≡ nobody
    unfolding first_carried_in
    none_open b = order_none w.places T.txns order fits.txns k.ordered (λ t. ltb (first_from_in T w.cast w.carried t) nowhere)
        (λ j h. let q : j < 128 = within_order w.places T.txns order fits.txns k.ordered j h in shut (get_or order j nobody) (sought j (omega arith) h))

    -- and the transaction there is the one, if it has a vote to carry
    pub open_carries : (t : ℕ) → t ≡ get_or order i nobody → t < nobody → first_pair T w.cast w.carried t < 256 → t ≡ first_carried_in T w.places w.cast w.carried
    unfolding first_carried_in
    open_carries t e h p = e ∙ sym (order_first w.places T.txns order fits.txns k.ordered (λ t. ltb (first_from_in T w.cast w.carried t) nowhere) i
        (λ j b q. shut (get_or order j nobody) (sought j b q))
        (rw e at h)
        (rw e at carries))
      where
        carries : ltb (first_from_in T w.cast w.carried t) nowhere ≡ true
        carries = lt-ltb (first_from_in T w.cast w.carried t) nowhere (rw (pair_from T w.cast w.carried t fits.sites p) (omega arith))

-- the first pair of one that had some left stored
pub knows_tried : (T : Tables) (w : Seen) (order : List ℕ) (l : Known) (t pair : ℕ) → Knows T w order l → t < nobody → t < length l.passed → get_or l.passed t 0 < 256
    → pair ≡ first_pair T w.cast w.carried t → Knows T w order (record l { passed = set l.passed t pair })
knows_tried T w order l t pair k low b left e =
    knows_passed T w order l k t pair b
    (rw e (pair_passed T w.cast w.carried t))
    (λ j h q. let x : 256 ≤ get_or l.passed t 0 = rw q at (k.opened j h (rw q low)) in absurd (omega (arith, left, x)))

-- the tries left: the positions from the one stored on, and that one by itself
abbrev pub tries : List ℕ → Known → ℕ
tries order l = (128 - l.open) + cond (ltb (get_or l.passed (get_or order l.open nobody) 0) 256) 1 0

-- fewer, once the pairs of the first that has some left are all tried
pub tries_less : (order : List ℕ) (l : Known) (i t pair : ℕ) → l.open ≤ i → i < 128 → t ≡ get_or order i nobody → t < length l.passed → get_or l.passed t 0 < 256 → 256 ≤ pair
    → tries order (record l { «open» = i; passed = set l.passed t pair }) < tries order l
tries_less order l i t pair a b e low h u =
    let y : get_or (set l.passed t pair) t 0 ≡ pair = get_or-set_same l.passed t pair 0 low in
    elim (same l.open i) [
      | inl d ↦ rw (d, ← e, y, le-ltb pair 256 u, lt-ltb (get_or l.passed t 0) 256 h) (omega arith)
      | inr d ↦ rw (← e, y, le-ltb pair 256 u) (omega arith)
    ]
