-- What is known with one more entry stored, of the same state.
-- Assumes nothing.
use Rattle.std.proofs.Common.{ℕ, ◌≡◌, ◌≤◌, ◌<◌, Bool, true, false, List, inl, inr, refl, length, get_or, set, get_or-set_same, get_or-set_other, ltb, ltb-true, ltb-false, arith}
use Rattle.order.specs.Order.{waits_at, queued_at}
use Rattle.bounded.proofs.Truth.{bool, clash, same}
use Rattle.bounded.proofs.Lists.{stored}
use Rattle.tables.specs.declared.Tables.{Tables}
use Rattle.parts.specs.Cells.{nobody}
use Rattle.refusals.specs.Refusals.{deliver_refusal_in}
use Rattle.search.specs.Search.{Seen}
use Rattle.search.specs.Known.{any, KnowsAt, PassedTo, closable_code, low_at, Knows}
use Rattle.search.specs.Within.{Within}
use Rattle.search.specs.declared.Closable.{Closable}
use Rattle.search.specs.declared.Known.{Known}
use Rattle.search.proofs.Entries.{codes_set}
use Rattle.search.proofs.Tried.{excludes_none}

-- an entry after a store is what was stored, or past the end; else it is what it was
after : {A : Type 0} (l : List A) (k : ℕ) (v d : A) (i : ℕ) (P : A → Type 0) → (i ≡ k → P v) → P d → P (get_or l i d) → P (get_or (set l k v) i d)
after l k v d i P new past old = elim (same i k) [
  | inl e ↦ rw e (elim (stored l k v d) [ inl q ↦ rw q (new e) | inr q ↦ rw q past ])
  | inr n ↦ rw (get_or-set_other l k i v d n) old
]

-- inside the list
after_in : {A : Type 0} (l : List A) (k : ℕ) (v d : A) → k < length l → (i : ℕ) (P : A → Type 0) → (i ≡ k → P v) → P (get_or l i d) → P (get_or (set l k v) i d)
after_in l k v d b i P new old = elim (same i k) [
  | inl e ↦ rw (e, get_or-set_same l k v d b) (new e)
  | inr n ↦ rw (get_or-set_other l k i v d n) old
]

-- of site s: whom it can close, whether it is stuck, and its three positions
module _ (T : Tables) (w : Seen) (order : List ℕ) (l : Known) (k : Knows T w order l) (s : ℕ) where
  pub knows_code : (c : Closable) → KnowsAt T w s (closable_code c) → Knows T w order (record l { closable = set l.closable s c })
  knows_code c new = record {
    ordered = k.ordered;
    closing = rw (codes_set l.closable s c) (λ r. after _ s (closable_code c) any r (KnowsAt T w r) (λ e. rw e new) (λ t h. absurd (excludes_none any t refl h)) (k.closing r));
    stuck = k.stuck;
    passed = k.passed;
    next = k.next;
    low = k.low;
    top = k.top;
    opened = k.opened;
  }

  pub knows_stuck : (b : Bool) → (b ≡ true → deliver_refusal_in T w.places w.delivered w.closed s ≡ 0 → ⊥) → Knows T w order (record l { stuck = set l.stuck s b })
  knows_stuck b new = record {
    ordered = k.ordered;
    closing = k.closing;
    stuck = λ r. after l.stuck s b false r (λ x. x ≡ true → deliver_refusal_in T w.places w.delivered w.closed r ≡ 0 → ⊥) (λ e. rw e new) (λ h. clash h refl) (k.stuck r);
    passed = k.passed;
    next = k.next;
    low = k.low;
    top = k.top;
    opened = k.opened;
  }

  pub knows_next : (v : ℕ) (b : Within (set l.next.at s v)) → ((i : ℕ) → i < v → waits_at T w.places w.delivered order s i ≡ false) → Knows T w order (record l { next = record { at = set l.next.at s v; within = b } })
  knows_next v b new = record {
    ordered = k.ordered;
    closing = k.closing;
    stuck = k.stuck;
    passed = k.passed;
    next = λ r i h. after l.next.at s v 0 r (λ x. i < x → waits_at T w.places w.delivered order r i ≡ false) (λ e. rw e (new i)) (λ q. absurd (omega arith)) (k.next r i h);
    low = k.low;
    top = k.top;
    opened = k.opened;
  }

  pub knows_low : (v : ℕ) → ((i : ℕ) → i < v → queued_at w.delivered w.closed order s i ≡ false) → Knows T w order (record l { low = set l.low s v })
  knows_low v new = record {
    ordered = k.ordered;
    closing = k.closing;
    stuck = k.stuck;
    passed = k.passed;
    next = k.next;
    low = λ r i h. after l.low s v 0 r (λ x. i < x → queued_at w.delivered w.closed order r i ≡ false) (λ e. rw e (new i)) (λ q. absurd (omega arith)) (k.low r i h);
    top = k.top;
    opened = k.opened;
  }

  pub knows_top : (v : ℕ) (b : Within (set l.top.at s v)) → s < length l.top.at → ((i : ℕ) → v ≤ i → queued_at w.delivered w.closed order s i ≡ false) → Knows T w order (record l { top = record { at = set l.top.at s v; within = b } })
  knows_top v within b new = record {
    ordered = k.ordered;
    closing = k.closing;
    stuck = k.stuck;
    passed = k.passed;
    next = k.next;
    low = k.low;
    top = λ r i h. after_in l.top.at s v 0 b r (λ x. x ≤ i → queued_at w.delivered w.closed order r i ≡ false) (λ e. rw e (new i)) (k.top r i h);
    opened = k.opened;
  }

-- where the queue of s was looked for from where it was known to start
module _ (T : Tables) (w : Seen) (order : List ℕ) (l : Known) (k : Knows T w order l) (s : ℕ) (low : s < 16) (p : ℕ)
    (none : (i : ℕ) → low_at l s ≤ i → i < p → queued_at w.delivered w.closed order s i ≡ false) where
  -- it starts no sooner than at p
  pub knows_below : (i : ℕ) → i < p → queued_at w.delivered w.closed order s i ≡ false
  knows_below i b = elim (bool (ltb i (low_at l s))) [
    | inl e ↦ k.low s i low (ltb-true i (low_at l s) e)
    | inr e ↦ none i (ltb-false i (low_at l s) e) b
  ]

  -- that is known too
  pub knows_moved : Knows T w order (record l { low = set l.low s p })
  knows_moved = knows_low T w order l k s p knows_below

-- of transaction t the pairs passed, and the first position that may have pairs left
module _ (T : Tables) (w : Seen) (order : List ℕ) (l : Known) (k : Knows T w order l) where
  pub knows_passed : (t v : ℕ) → t < length l.passed → PassedTo T w.cast w.carried t v → ((i : ℕ) → i < l.open → get_or order i nobody ≡ t → 256 ≤ v) → Knows T w order (record l { passed = set l.passed t v })
  knows_passed t v b new opened = record {
    ordered = k.ordered;
    closing = k.closing;
    stuck = k.stuck;
    passed = λ u. after_in l.passed t v 0 b u (PassedTo T w.cast w.carried u) (λ e. rw e new) (k.passed u);
    next = k.next;
    low = k.low;
    top = k.top;
    opened = λ i h c. after_in l.passed t v 0 b (get_or order i nobody) (λ x. 256 ≤ x) (opened i h) (k.opened i h c);
  }

  pub knows_open : (v : ℕ) → ((i : ℕ) → i < v → get_or order i nobody < nobody → 256 ≤ get_or l.passed (get_or order i nobody) 0) → Knows T w order (record l { «open» = v })
  knows_open v new = record {
    ordered = k.ordered;
    closing = k.closing;
    stuck = k.stuck;
    passed = k.passed;
    next = k.next;
    low = k.low;
    top = k.top;
    opened = new;
  }
