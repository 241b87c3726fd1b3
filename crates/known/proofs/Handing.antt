-- CARRY after CARRY of votes on one transaction: what comes next, and what is known after it.
-- Assumes nothing.
use Rattle.std.proofs.Common.{ℕ, zero, suc, ◌+◌, ◌*◌, ◌/◌, ◌%◌, ◌≤◌, ◌<◌, ◌≡◌, refl, sym, ap, ◌∙◌, true, false, not, cond, List, inl, inr, arith, add-one, eqb, ltb, length, get_or, set, map, get_or-set_same, eq-eqb, eqb-true, lt-ltb, ltb-true, le-ltb}
use borrow.Author.Tests.{eqb-false}
use Rattle.queues.specs.Queue.{queued_in}
use Rattle.order.specs.Order.{queued_at}
use Rattle.order.proofs.Positions.{head_is}
use Rattle.bounded.specs.Bounded.{first_below}
use Rattle.bounded.proofs.Truth.{or_right, clash, same}
use Rattle.bounded.proofs.Laws.{first-same, first_only, first-none, first_has}
use Rattle.keys.specs.Keys.{member, adding}
use Rattle.keys.proofs.Laws.{adding_same, adding_other}
use Rattle.tables.specs.Sites.{site_count}
use Rattle.tables.specs.Fits.{Fits}
use Rattle.tables.specs.declared.Tables.{Tables}
use Rattle.parts.specs.Cells.{place_in, cell, nobody}
use Rattle.refusals.specs.Refusals.{carry_refusal_in}
use Rattle.search.specs.Search.{Seen, closing, nowhere, closes_first_in, first_closing_in, first_delivering_in, first_to_in, first_from_in, first_carried_in, todo_in}
use Rattle.search.specs.Known.{any, PassedTo, first_pair, closable_code, low_at, top_at, Knows}
use Rattle.search.specs.declared.Closable.TheVariants.{Nobody, Only, Anyone}
use Rattle.search.specs.declared.Known.{Known}
use Rattle.search.proofs.Entries.{code_at}
use Rattle.known.specs.After.{carried_parts, Carried}
use Rattle.search.specs.Search.{Carry}
use Rattle.refusals.proofs.Passed.{Carries, carry_has}
use Rattle.search.proofs.Closes.{close_has}
use Rattle.known.proofs.Frames.{cell_other, close_back, verdict_same, carry_same}
use Rattle.search.proofs.Pair.{pair_stop, pair_none, pair_up, pair_to, pair_from}
use Rattle.search.proofs.Accepted.{Hands, next_says, nothing_closes}
use Rattle.search.proofs.Stored.{knows_code, knows_below, knows_passed}

-- ---- the head of a queue

-- where none is in the queue of s from the first position that may be up to r: if one is there, it is the first by place
pub head_found : (T : Tables) → Fits T → (w : Seen) (order : List ℕ) (l : Known) → Knows T w order l → (s r : ℕ) → s < 16 → length w.delivered ≡ 2048
    → ((i : ℕ) → low_at l s ≤ i → i < r → queued_at w.delivered w.closed order s i ≡ false)
    → (r < top_at l s → queued_at w.delivered w.closed order s r ≡ true)
    → cond (ltb r (top_at l s)) (get_or order r nobody) nobody ≡ first_below T.txns (place_in w.places) (queued_in w.delivered w.closed s) nobody
head_found T fits w order l k s r low long none here =
    head_is w.places T.txns order w.delivered w.closed s r (top_at l s) fits.txns k.ordered long (knows_below T w order l k s low r none) (λ i h. k.top s i low h) here

-- ---- only votes on t are to be carried

-- nothing can be closed or delivered, and no transaction before t has a vote to carry
pub record Handing (T : Tables) (w : Seen) (t : ℕ) : Type 0 where
  pub txn : t < T.txns
  pub closes : (u s : ℕ) → closing T w u s ≡ 0 → ⊥
  pub delivers : nowhere ≤ first_delivering_in T w.places w.delivered w.closed
  pub least : (u : ℕ) → u < T.txns → ltb (first_from_in T w.cast w.carried u) nowhere ≡ true → place_in w.places t ≤ place_in w.places u
  pub lower : (u : ℕ) → u < T.txns → ltb (first_from_in T w.cast w.carried u) nowhere ≡ true → place_in w.places u ≡ place_in w.places t → t ≤ u

module _ (T : Tables) (fits : Fits T) (w : Seen) where
  -- where nothing can be closed, the search for a CLOSE finds no site
  closes_nothing : ((u s : ℕ) → closing T w u s ≡ 0 → ⊥) → first_closing_in T w ≡ nowhere
  unfolding first_closing_in closes_first_in
  closes_nothing h = first-none (site_count T) (λ i. 0) (λ s. ltb (closes_first_in T w s) nobody) nowhere fits.sites (λ s l e.
      let g = first_has T.txns (place_in w.places) (λ t. eqb (closing T w t s) 0) nobody fits.txns (ltb-true _ _ e) in
      h (closes_first_in T w s) s (eqb-true _ _ g.passes))

  module _ (t from to : ℕ) (next : todo_in T w ≡ Carry t from to) where
    says : Hands T w t from to
    says = next_says T w fits (Carry t from to) next

    -- where CARRY of a vote on t comes next, that vote can be carried
    pub next_carries : Carries T w.cast w.carried t from to
    next_carries = carry_has T w.cast w.carried t from to says.accepted

    -- and only votes on t are to be carried
    pub next_hands : Handing T w t
    unfolding first_carried_in
    next_hands =
        let e = says.first in
        let g = first_has T.txns (place_in w.places) (λ u. ltb (first_from_in T w.cast w.carried u) nowhere) nobody fits.txns (rw e at says.low) in
        record {
          txn = next_carries.txn;
          closes = nothing_closes T w fits says.closes;
          delivers = says.delivers;
          least = λ u m h. rw e (g.least u m h);
          lower = λ u m h q. rw e (g.lower u m h (rw e at q));
        }

    -- so not all pairs are passed
    pub next-left : (q : ℕ) → 256 ≤ q → PassedTo T w.cast w.carried t q → ⊥
    next-left q l k = omega (arith, says.giver, says.taker, says.pair, pair_none T w.cast w.carried t q l k)

  -- and the first pair that can carry is what comes next
  pub hands_next : (t q : ℕ) → Handing T w t → q < 256 → PassedTo T w.cast w.carried t q → carry_refusal_in T w.cast w.carried t (q / 16) (q % 16) ≡ 0 → todo_in T w ≡ Carry t (q / 16) (q % 16)
  unfolding todo_in
  hands_next t q g l k h = rw (closes_nothing g.closes, le-ltb _ _ g.delivers, who, lt-ltb t nobody (omega (arith, g.txn, fits.txns)), giver, taker)
    where
      pair : first_pair T w.cast w.carried t ≡ q
      pair = pair_stop T w.cast w.carried t q l k (eq-eqb _ _ h)

      giver : first_from_in T w.cast w.carried t ≡ q / 16
      giver = rw pair at (pair_from T w.cast w.carried t fits.sites (rw pair l))

      taker : first_to_in T w.cast w.carried t (q / 16) ≡ q % 16
      taker = rw pair at (pair_to T w.cast w.carried t fits.sites (rw pair l))

      who : first_carried_in T w.places w.cast w.carried ≡ t
      who = unfold first_carried_in in first_only T.txns (place_in w.places) (λ u. ltb (first_from_in T w.cast w.carried u) nowhere) nobody fits.txns t (record {
        low = g.txn;
        passes = rw giver (lt-ltb (q / 16) nowhere (omega arith));
        least = g.least;
        lower = g.lower;
      })

-- ---- after one CARRY

-- the vote of f on t handed to s
abbrev pub handed : List ℕ → ℕ → ℕ → ℕ → List ℕ
handed carried t f s = set carried (t * 16 + s) (adding (cell 0 carried t s) f)

module _ (T : Tables) (fits : Fits T) (w : Seen) (t f s : ℕ) (was : Carries T w.cast w.carried t f s) (long : t * 16 + s < length w.carried) where
  -- what others hold, and what s holds now
  other : (u r : ℕ) → r < site_count T → (u ≡ t → r ≡ s → ⊥) → cell 0 (handed w.carried t f s) u r ≡ cell 0 w.carried u r
  other u r m h = cell_other 0 w.carried t s u r (adding (cell 0 w.carried t s) f) (omega (arith, fits.sites, was.taker)) (omega (arith, fits.sites)) h

  here : cell 0 (handed w.carried t f s) t s ≡ adding (cell 0 w.carried t s) f
  here = get_or-set_same w.carried (t * 16 + s) (adding (cell 0 w.carried t s) f) 0 long

  -- who is not f was handed to s before, if now
  members : (a b : ℕ) → b < site_count T → (a ≡ f → b ≡ s → ⊥) → member (cell 0 (handed w.carried t f s) t b) a ≡ member (cell 0 w.carried t b) a
  members a b l d = elim (same b s) [
    | inl e ↦ rw (e, here) (adding_other (cell 0 w.carried t s) f a (λ q. d q e) was.lacks)
    | inr q ↦ rw (other t b l (λ _ e. q e))
  ]

  -- a vote that can be carried now could be before, and is not this one
  carries_back : (u a b : ℕ) → carry_refusal_in T w.cast (handed w.carried t f s) u a b ≡ 0 → (carry_refusal_in T w.cast w.carried u a b ≡ 0) × (u ≡ t → a ≡ f → b ≡ s → ⊥)
  carries_back u a b z =
      let c = carry_has T w.cast (handed w.carried t f s) u a b z in
      let no : u ≡ t → a ≡ f → b ≡ s → ⊥ = λ x y v. clash (adding_same (cell 0 w.carried t s) f was.lacks) (rw (x, y, v, here) at c.lacks) in (
        sym (carry_same T w.cast w.cast w.carried (handed w.carried t f s) u a b refl refl (elim (same u t) [
          | inl e ↦ rw e (members a b c.taker (no e))
          | inr d ↦ ap (λ m. member m a) (other u b c.taker (λ e _. d e))
        ]))
            ∙ z,
        no,
      )

  -- so pairs that are passed stay so
  pub handed_passed : (u n : ℕ) → PassedTo T w.cast w.carried u n → PassedTo T w.cast (handed w.carried t f s) u n
  handed_passed u n k p l z = k p l (carries_back u (p / 16) (p % 16) z).0

  -- its pair is passed too
  pub handed_up : (q : ℕ) → q / 16 ≡ f → q % 16 ≡ s → PassedTo T w.cast w.carried t q → PassedTo T w.cast (handed w.carried t f s) t (q + 1)
  handed_up q x y k p l z = elim (same p q) [
    | inl e ↦ (carries_back t (p / 16) (p % 16) z).1 refl (rw e x) (rw e y)
    | inr d ↦ handed_passed t q k p (omega arith) z
  ]

  -- of others no vote more or less can be carried
  from_same : (u : ℕ) → (u ≡ t → ⊥) → first_from_in T w.cast (handed w.carried t f s) u ≡ first_from_in T w.cast w.carried u
  unfolding first_from_in first_to_in
  from_same u d = first-same (site_count T) (λ i. 0) _ _ nowhere (λ a l. ap (λ x. ltb x nowhere) (first-same (site_count T) (λ i. 0) _ _ nowhere (λ b m.
      ap (λ x. eqb x 0) (carry_same T w.cast w.cast w.carried (handed w.carried t f s) u a b refl refl (ap (λ m. member m a) (other u b m (λ e _. d e)))))))

  module _ (g : Handing T w t) where
    -- nothing but t at s can be closed
    handed_closes : (u r : ℕ) → closing T (carried_parts w (handed w.carried t f s)) u r ≡ 0 → (u ≡ t) × (r ≡ s)
    handed_closes u r z = elim (same u t) [
      | inr d ↦ absurd (g.closes u r (back (λ e _. d e)))
      | inl e ↦ elim (same r s) [ inl q ↦ (e, q) | inr d ↦ absurd (g.closes u r (back (λ _ q. d q))) ]
    ]
      where
        w' : Seen
        w' = carried_parts w (handed w.carried t f s)

        back : (u ≡ t → r ≡ s → ⊥) → closing T w u r ≡ 0
        back d = close_back T w w' u r refl refl refl (λ x m q. q)
            (verdict_same T w.cast w.cast w.carried w'.carried u r refl (other u r (close_has T w' u r z).site d) (λ f l q. refl))
            (λ m. refl)
            z

    -- if t cannot either, only votes on t are to be carried still
    pub handed_hands : (closing T (carried_parts w (handed w.carried t f s)) t s ≡ 0 → ⊥) → Handing T (carried_parts w (handed w.carried t f s)) t
    handed_hands shut = record {
      txn = g.txn;
      closes = λ u r z. let (e, q) = handed_closes u r z in shut (rw (e, q) at z);
      delivers = g.delivers;
      least = λ u m h. elim (same u t) [ inl e ↦ rw e (omega arith) | inr d ↦ g.least u m (rw (from_same u d) at h) ];
      lower = λ u m h q. elim (same u t) [ inl e ↦ omega arith | inr d ↦ g.lower u m (rw (from_same u d) at h) q ];
    }

    -- what is known stays known where t may be closed at s
    pub handed_knows : (order : List ℕ) (l : Known) → Knows T w order l → s < length l.closable → Knows T (carried_parts w (handed w.carried t f s)) order (record l { closable = set l.closable s (Only t) })
    handed_knows order l k b = record {
      ordered = k.ordered;
      closing = λ r u h z.
          let (e, q) = handed_closes u r z in
          clash (rw (e, q, code) at h) (ap not (or_right (eqb t any) (eqb t t) (eq-eqb t t refl)));
      stuck = k.stuck;
      passed = λ u. handed_passed u (get_or l.passed u 0) (k.passed u);
      next = k.next;
      low = k.low;
      top = k.top;
      opened = k.opened;
    }
      where
        code : get_or (map closable_code (set l.closable s (Only t))) s any ≡ t
        code = code_at (set l.closable s (Only t)) s ∙ ap closable_code (get_or-set_same l.closable s (Only t) Anyone b) ∙ rw (lt-ltb t nobody (omega (arith, g.txn, fits.txns)))

-- ---- after k times CARRY

-- from w on, the votes carried are now c, what is known is l, and the first q pairs of t are passed
pub record Goes (T : Tables) (w : Seen) (order : List ℕ) (l : Known) (t k q : ℕ) (c : List ℕ) : Type 0 where
  pub carried : Carried T w k c
  pub handing : Handing T (carried_parts w c) t
  pub knows : Knows T (carried_parts w c) order l
  pub passed : PassedTo T w.cast c t q

-- and the pair q has carried once more, from the k times before
pub record Handed (T : Tables) (w : Seen) (order : List ℕ) (l : Known) (t k q : ℕ) (c : List ℕ) : Type 0 where
  pub txn : t < T.txns
  pub carried : Carried T w (k + 1) c
  pub knows : Knows T (carried_parts w c) order l
  pub passed : PassedTo T w.cast c t (q + 1)
  pub handing : (closing T (carried_parts w c) t (q % 16) ≡ 0 → ⊥) → Handing T (carried_parts w c) t

module _ (T : Tables) (fits : Fits T) (w : Seen) (order : List ℕ) (l : Known) (t from to : ℕ) (k : Knows T w order l) (next : todo_in T w ≡ Carry t from to) where
  -- at first
  pub goes_first : Goes T w order l t 0 (get_or l.passed t 0) w.carried
  unfolding Carried
  goes_first = record {
    carried = refl;
    handing = next_hands T fits w t from to next;
    knows = k;
    passed = k.passed t;
  }

  -- t is not among those whose pairs are all passed
  pub goes_opened : (i : ℕ) → i < l.open → get_or order i nobody ≡ t → ⊥
  goes_opened i h e = next-left T fits w t from to next (get_or l.passed t 0) (rw e at (k.opened i h (rw e (omega (arith, (next_carries T fits w t from to next).txn, fits.txns))))) (k.passed t)

  -- with all pairs passed one was carried
  pub goes_some : (m : Known) (n q : ℕ) (c : List ℕ) → 256 ≤ q → Goes T w order m t n q c → 0 < n
  unfolding Carried
  goes_some m n q c h g = some n g.carried
    where
      some : (n : ℕ) → Carried T w n c → 0 < n
      some zero e = absurd (next-left T fits w t from to next q h (rw e at g.passed))
      some (suc n) e = omega arith

module _ (T : Tables) (fits : Fits T) (w : Seen) (order : List ℕ) (l : Known) (t k q : ℕ) (c : List ℕ) (g : Goes T w order l t k q c) where
  -- the pair q cannot carry
  pub goes_by : eqb (carry_refusal_in T w.cast c t (q / 16) (q % 16)) 0 ≡ false → Goes T w order l t k (q + 1) c
  goes_by h = record {
    carried = g.carried;
    handing = g.handing;
    knows = g.knows;
    passed = pair_up T w.cast c t q g.passed h;
  }

  -- the pairs passed are known
  pub goes_known : t < length l.passed → ((i : ℕ) → i < l.open → get_or order i nobody ≡ t → ⊥) → Knows T (carried_parts w c) order (record l { passed = set l.passed t q })
  goes_known b none = knows_passed T (carried_parts w c) order l g.knows t q b g.passed (λ i x y. absurd (none i x y))

  -- it can, and does: the votes carried are then c'
  module _ (h : q < 256) (z : eqb (carry_refusal_in T w.cast c t (q / 16) (q % 16)) 0 ≡ true) (long : t * 16 + q % 16 < length c) (c' : List ℕ)
      (hand : c' ≡ set c (t * 16 + q % 16) (cond (member (cell 0 c t (q % 16)) (q / 16)) (cell 0 c t (q % 16)) (adding (cell 0 c t (q % 16)) (q / 16)))) where
    was : Carries T w.cast c t (q / 16) (q % 16)
    was = carry_has T w.cast c t (q / 16) (q % 16) (eqb-true _ _ z)

    gives : c' ≡ handed c t (q / 16) (q % 16)
    gives = rw was.lacks at hand

    -- it is taken by a site
    pub on_taker : q % 16 < site_count T
    on_taker = was.taker

    -- where t may be closed by it, what is known stays known
    pub on_knows : q % 16 < length l.closable → Knows T (carried_parts w c') order (record l { closable = set l.closable (q % 16) (Only t) })
    on_knows b = rw gives (handed_knows T fits (carried_parts w c) t (q / 16) (q % 16) was long g.handing order l g.knows b)

    -- and one more was carried
    pub on_handed : (m : Known) → Knows T (carried_parts w c') order m → Handed T w order m t k q c'
    unfolding Carried
    on_handed m known = record {
      txn = g.handing.txn;
      carried = rw add-one (
        c,
        g.carried,
        record {
          t = t;
          from = q / 16;
          to = q % 16;
          next = hands_next T fits (carried_parts w c) t q g.handing h g.passed (eqb-true _ _ z);
          leaves = gives;
        },
      );
      knows = known;
      passed = rw gives (handed_up T fits (carried_parts w c) t (q / 16) (q % 16) was long q refl refl g.passed);
      handing = λ shut. rw gives (handed_hands T fits (carried_parts w c) t (q / 16) (q % 16) was long g.handing (rw gives at shut));
    }

module _ (T : Tables) (fits : Fits T) (w : Seen) (order : List ℕ) (m : Known) (t k q : ℕ) (c : List ℕ) (g : Handed T w order m t k q c) where
  -- it ends: the pairs passed are known
  pub handed_ends : t < length m.passed → ((i : ℕ) → i < m.open → get_or order i nobody ≡ t → ⊥) → Knows T (carried_parts w c) order (record m { passed = set m.passed t (q + 1) })
  handed_ends b none = knows_passed T (carried_parts w c) order m g.knows t (q + 1) b g.passed (λ i x y. absurd (none i x y))

  -- it goes on: t cannot be closed at the site that was handed the vote, so nobody can
  pub handed_goes : eqb (closing T (carried_parts w c) t (q % 16)) 0 ≡ false → Goes T w order (record m { closable = set m.closable (q % 16) Nobody }) t (k + 1) (q + 1) c
  handed_goes shut =
      let hands = g.handing (eqb-false _ _ shut) in
      record {
        carried = g.carried;
        handing = hands;
        knows = knows_code T (carried_parts w c) order m g.knows (q % 16) Nobody (λ u _. hands.closes u (q % 16));
        passed = g.passed;
      }
