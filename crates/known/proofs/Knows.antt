-- What is known stays known: at first nothing, after CLOSE and after DELIVER what is left by the entries that each of them changes.
-- Assumes nothing.
use Rattle.std.proofs.Common.{ℕ, ◌+◌, ◌*◌, ◌/◌, ◌%◌, ◌≤◌, ◌<◌, ◌≡◌, refl, sym, ap, ◌∙◌, Bool, true, false, ◌||◌, cond, List, inl, inr, arith, eqb, ltb, length, get_or, set, map, replicate, length-set, get_or-set_same, get_or-set_other, eq-eqb, ne_eqb, eqb-true, ltb-true, ltb-false}
use lib.ListN.{get_or-eq_default}
use borrow.Author.Tests.{eqb-false, not-true}
use Rattle.queues.specs.Queue.{queued_in, waits}
use Rattle.parts.specs.Cells.{place_in, cell, version_in, nobody}
use Rattle.order.specs.Order.{rank_of, queued_at}
use Rattle.order.proofs.Order.{head_first}
use Rattle.order.proofs.Positions.{head_is}
use Rattle.bounded.specs.Bounded.{first_below}
use Rattle.bounded.proofs.Truth.{or-true, or-false, and-true, and_put, bool, clash, same}
use Rattle.bounded.proofs.Laws.{any_none}
use Rattle.bounded.proofs.Lists.{within, stored_true, replicated}
use Rattle.keys.specs.Keys.{member}
use Rattle.tables.specs.Lists.{write_row, write_count, write_key}
use Rattle.tables.specs.Sites.{site_count, site_keys}
use Rattle.tables.specs.Concern.{concerns}
use Rattle.tables.specs.Fits.{Fits}
use Rattle.tables.specs.declared.Tables.{Tables}
use Rattle.rules.specs.Votes.{holds_vote}
use Rattle.rules.specs.Asked.{verdict_at}
use Rattle.steps.specs.declared.Version.{Version}
use Rattle.refusals.specs.Refusals.{deliver_refusal_in, carry_refusal_in}
use Rattle.search.specs.Search.{Seen, closing, todo_in}
use Rattle.search.specs.Within.{Within}
use Rattle.search.specs.Known.{any, excludes, KnowsClosing, KnowsAt, PassedTo, closable_code, low_at, top_at, Knows}
use Rattle.search.specs.declared.Closable.{Closable}
use Rattle.search.specs.declared.Closable.TheVariants.{Nobody, Only, Anyone}
use Rattle.search.specs.declared.Known.{Known}
use Rattle.known.specs.After.{shared, joined, closed_parts, delivered_parts}
use Rattle.search.specs.Search.{Close, Deliver}
use Rattle.refusals.proofs.Passed.{deliver_has, carry_has}
use Rattle.search.proofs.Closes.{close_has}
use Rattle.known.proofs.Frames.{cell_other, close_put, verdict_same, room_same, close_back, deliver_same, carry_same}
use Rattle.search.proofs.Accepted.{next_says}
use Rattle.search.proofs.Tried.{excludes_none}
use Rattle.search.proofs.Entries.{code_at, closing_get, codes_set}

-- an entry after a store: what was stored where it was stored, and elsewhere what it was
after_store : {A : Type 0} (l : List A) (k : ℕ) (v d : A) (i : ℕ) (P : A → Type 0) → (i ≡ k → P v) → (length l ≤ k → P d) → ((i ≡ k → ⊥) → P (get_or l i d)) → P (get_or (set l k v) i d)
after_store l k v d i P new past old = elim (same i k) [
  | inr n ↦ rw (get_or-set_other l k i v d n) (old n)
  | inl e ↦ elim (bool (ltb k (length l))) [
    | inl b ↦ let h = ltb-true k (length l) b in rw (e, get_or-set_same l k v d h) (new e)
    | inr b ↦ rw (get_or-eq_default (set l k v) d {n = i} (omega (arith, e, length-set l k v, ltb-false k (length l) b))) (past (ltb-false k (length l) b))
  ]
]

-- where any can be closed at each site, nothing is said
pub codes_any : (T : Tables) (w : Seen) (n : ℕ) → KnowsClosing T w (map closable_code (replicate n Anyone))
codes_any T w n s t x z = excludes_none _ t (code_at (replicate n Anyone) s ∙ ap closable_code (replicated n s Anyone)) x

any_code : (c : Closable) → closable_code c ≡ any → c ≡ Anyone
any_code Anyone e = refl
any_code Nobody e = absurd (omega arith)
any_code (Only t) e = elim (bool (ltb t nobody)) [ inl b ↦ absurd (omega (arith, rw b at e, ltb-true t nobody b)) | inr b ↦ absurd (omega (arith, rw b at e)) ]

-- ---- after CLOSE

-- CLOSE of t at s changes what s has closed and stores: its queue loses t, other sites' judgements and every CARRY's stay
module _ (T : Tables) (fits : Fits T) (w : Seen) (versions : List Version) (t s c : ℕ) (next : todo_in T w ≡ Close t s) (new : 0 < c) (long : length (set w.closed (t * 16 + s) c) ≡ 2048) where
  site : s < 16
  site = (next_says T w fits (Close t s) next).0

  same_closed : (u r : ℕ) → r < 16 → (u ≡ t → r ≡ s → ⊥) → cell 0 (set w.closed (t * 16 + s) c) u r ≡ cell 0 w.closed u r
  same_closed u r l d = cell_other 0 w.closed t s u r c site l d

  now_closed : cell 0 (set w.closed (t * 16 + s) c) t s ≡ c
  now_closed = get_or-set_same w.closed (t * 16 + s) c 0
      (omega (arith, fits.txns, site, length-set w.closed (t * 16 + s) c, (close_has T w t s (next_says T w fits (Close t s) next).1).txn))

  -- who is in a queue now was there before
  left : (u r : ℕ) → r < 16 → queued_in w.delivered w.closed r u ≡ false → queued_in w.delivered (set w.closed (t * 16 + s) c) r u ≡ false
  left u r l h = elim (bool (queued_in w.delivered (set w.closed (t * 16 + s) c) r u)) [
    | inr e ↦ e
    | inl e ↦
        let (a, b) = and-true (cell false w.delivered u r) (eqb (cell 0 (set w.closed (t * 16 + s) c) u r) 0) e in
        let d : u ≡ t → r ≡ s → ⊥ = λ x y. absurd (omega (arith, now_closed, rw (x, y) at (eqb-true (cell 0 (set w.closed (t * 16 + s) c) u r) 0 b))) in
        clash (and_put _ _ a (rw (same_closed u r l d) at b)) h
  ]

  -- where s could close but one, which was t, it can close its head
  pub head_knows : (code : ℕ) → (code ≡ any → ⊥) → KnowsAt T w s code
      → KnowsAt T (closed_parts w versions t s c) s (first_below T.txns (place_in w.places) (queued_in w.delivered (set w.closed (t * 16 + s) c) s) nobody)
  head_knows code one k u h z =
      let w' = closed_parts w versions t s c in
      let g = close_has T w' u s z in
      let d : u ≡ t → ⊥ = λ x. absurd (omega (arith, now_closed, rw x at g.unclosed)) in
      let only : (x : ℕ) → closing T w x s ≡ 0 → x ≡ code = λ x y. elim (same code x) [ inl e ↦ sym e | inr q ↦ absurd (k x (rw (ne_eqb code any one, ne_eqb code x q)) y) ] in
      elim (same (verdict_at T w.cast w.carried u s) 1) [
        | inl e ↦
            let f = first_below T.txns (place_in w.places) (queued_in w.delivered w'.closed s) nobody in
            let q = sym (head_first w.places w.delivered w'.closed T.txns u s fits.txns g.txn (and_put _ _ g.delivered (eq-eqb _ _ g.unclosed))) ∙ g.head e in
            clash q (or-false (eqb f any) (eqb f u) (not-true _ h)).1
        | inr e ↦ d (only u (close_put T w u s (record {
          txn = g.txn;
          site = g.site;
          concerned = g.concerned;
          unclosed = sym (same_closed u s site (λ x _. d x)) ∙ g.unclosed;
          delivered = g.delivered;
          known = g.known;
          head = λ x. absurd (e x);
          room = λ x. absurd (e x);
        })) ∙ sym (only t (next_says T w fits (Close t s) next).1))
      ]

  module _ (written : (u i : ℕ) → u < T.txns → i < write_count T u → write_key T u i < 64)
      (kept : (r x : ℕ) → (r ≡ s → ⊥) → x < 64 → version_in versions r x ≡ version_in w.versions r x) where
    abbrev pub w' : Seen
    w' = closed_parts w versions t s c

    closes : (u r : ℕ) → (r ≡ s → ⊥) → closing T w' u r ≡ 0 → closing T w u r ≡ 0
    closes u r d z =
        let b : r < 16 = omega (arith, (close_has T w' u r z).site, fits.sites) in
        close_back T w w' u r refl (same_closed u r b (λ _ e. d e)) refl
        (λ x m q. rw (same_closed x r b (λ _ e. d e)) q)
        refl
        (λ m. room_same w.versions versions (write_row T u) (write_count T u) r (site_keys T r) (λ i n. kept r (write_key T u i) d (written u i m n)))
        z

    delivers : (r : ℕ) → (r ≡ s → ⊥) → deliver_refusal_in T w.places w.delivered w'.closed r ≡ 0 → deliver_refusal_in T w.places w.delivered w.closed r ≡ 0
    delivers r d z =
        let b : r < 16 = omega (arith, (deliver_has T w.places w.delivered w'.closed r fits z).0, fits.sites) in
        sym (deliver_same T w.places w.delivered w.delivered w.closed w'.closed r (λ u m. refl) (λ u m. same_closed u r b (λ _ e. d e))) ∙ z

    module _ (order : List ℕ) (l : Known) (k : Knows T w order l) (b : s < length l.closable) where
      -- whom s can close stays where that is any
      codes_stay : get_or l.closable s Nobody ≡ Anyone → KnowsClosing T w' (map closable_code l.closable)
      codes_stay e r u x z = elim (same r s) [
        | inl q ↦ excludes_none _ u (code_at l.closable r ∙ rw (q, within l.closable s Anyone Nobody b, e)) x
        | inr d ↦ k.closing r u x (closes u r d z)
      ]

      module _ (p : ℕ) (wide : length w.delivered ≡ 2048)
          (passes : (i : ℕ) → low_at l s ≤ i → i < p → queued_in w.delivered w'.closed s (get_or order i nobody) ≡ false) where
        lowest : (i : ℕ) → i < p → queued_in w.delivered w'.closed s (get_or order i nobody) ≡ false
        lowest i m = elim (bool (ltb i (low_at l s))) [
          | inl q ↦ left (get_or order i nobody) s site (k.low s i site (ltb-true _ _ q))
          | inr q ↦ passes i (ltb-false _ _ q) m
        ]

        -- and where it is one, it is the head of the queue then
        codes_head : (v : Closable) → (get_or l.closable s Nobody ≡ Anyone → ⊥)
            → (p < top_at l s → queued_in w.delivered w'.closed s (get_or order p nobody) ≡ true)
            → closable_code v ≡ cond (ltb p (top_at l s)) (get_or order p nobody) nobody
            → KnowsClosing T w' (map closable_code (set l.closable s v))
        codes_head v one head e = rw (codes_set l.closable s v) (λ r. after_store (map closable_code l.closable) s (closable_code v) any r (KnowsAt T w' r)
            (λ q. rw (q, e, at) (head_knows (closable_code (get_or l.closable s Nobody)) (λ a. one (any_code _ a)) (closing_get T w l.closable k.closing s b)))
            (λ _ u x. absurd (excludes_none any u refl x))
            (λ d u x z. k.closing r u x (closes u r d z)))
          where
            at : cond (ltb p (top_at l s)) (get_or order p nobody) nobody ≡ first_below T.txns (place_in w.places) (queued_in w.delivered w'.closed s) nobody
            at = head_is w.places T.txns order w.delivered w'.closed s p (top_at l s) fits.txns k.ordered wide lowest (λ i m. left (get_or order i nobody) s site (k.top s i site m)) head

        knows_closed : (codes : List Closable) → KnowsClosing T w' (map closable_code codes)
            → Knows T w' order (record l { closable = codes; stuck = set l.stuck s false; low = set l.low s p })
        knows_closed codes closing = record {
          ordered = k.ordered;
          closing = closing;
          stuck = λ r. after_store l.stuck s false false r (λ x. x ≡ true → deliver_refusal_in T w.places w.delivered w'.closed r ≡ 0 → ⊥)
              (λ _ x. clash x refl) (λ _ x. clash x refl) (λ d x z. k.stuck r x (delivers r d z));
          passed = k.passed;
          next = k.next;
          low = λ r i h. after_store l.low s p 0 r (λ x. i < x → queued_at w.delivered w'.closed order r i ≡ false)
              (λ e. rw e (lowest i)) (λ _ m. absurd (omega arith)) (λ _ m. left (get_or order i nobody) r h (k.low r i h m));
          top = λ r i h m. left (get_or order i nobody) r h (k.top r i h m);
          opened = k.opened;
        }

        pub closed_any : get_or l.closable s Nobody ≡ Anyone → Knows T w' order (record l { stuck = set l.stuck s false; low = set l.low s p })
        closed_any e = knows_closed l.closable (codes_stay e)

        pub closed_one : (v : Closable) → (get_or l.closable s Nobody ≡ Anyone → ⊥)
            → (p < top_at l s → queued_in w.delivered w'.closed s (get_or order p nobody) ≡ true)
            → closable_code v ≡ cond (ltb p (top_at l s)) (get_or order p nobody) nobody
            → Knows T w' order (record l { closable = set l.closable s v; stuck = set l.stuck s false; low = set l.low s p })
        closed_one v one head e = knows_closed (set l.closable s v) (codes_head v one head e)

-- ---- after DELIVER

-- whom a code excludes once t has joined it excluded before, and it is not t
joined_excludes : (c t u : ℕ) → u < nobody → excludes (joined c t) u ≡ true → (excludes c u ≡ true) × (u ≡ t → ⊥)
unfolding joined
joined_excludes c t u l h = elim (bool (eqb c nobody || eqb c t)) [
  | inr e ↦ clash (rw e at h) refl
  | inl e ↦
      let (x, y) = or-false (eqb t any) (eqb t u) (not-true _ (rw e at h)) in
      let d : u ≡ t → ⊥ = λ z. eqb-false t u y (sym z) in
      elim (or-true (eqb c nobody) (eqb c t) e) [
        | inl q ↦ let z : c ≡ nobody = eqb-true c nobody q in (rw (ne_eqb c any (λ a. absurd (omega arith)), ne_eqb c u (λ a. absurd (omega arith))), d)
        | inr q ↦ (rw (eqb-true c t q, x, y), d)
      ]
]

-- who waits where more was delivered waited before
waits_kept : (p : ℕ) (d d' c : Bool) → (d ≡ true → d' ≡ true) → waits p d c ≡ false → waits p d' c ≡ false
waits_kept p false false c g h = h
waits_kept p true true c g h = h
waits_kept p true false c g h = clash (g refl) refl
waits_kept p false true c g h = elim (bool (ltb 0 p)) [ inl e ↦ rw e | inr e ↦ rw e ]

-- DELIVER of t at s changes the queue of s, which grows, and the vote of s on t: those who hold it may judge t anew
module _ (T : Tables) (fits : Fits T) (w : Seen) (t s v : ℕ) (next : todo_in T w ≡ Deliver s) where
  other : {A : Type 0} (d : A) (l : List A) (x : A) (u r : ℕ) → r < 16 → (u ≡ t → r ≡ s → ⊥) → cell d (set l (t * 16 + s) x) u r ≡ cell d l u r
  other d l x u r m h = cell_other d l t s u r x (next_says T w fits (Deliver s) next).0 m h

  -- nobody holds the vote of s on t yet
  votes : shared w.carried (site_count T) t s ≡ false → (u r : ℕ) → r < site_count T → (u ≡ t → r ≡ s → ⊥)
      → (f : ℕ) → f < site_count T → holds_vote (cell 0 w.cast u r) (cell 0 w.carried u r) r f ≡ true → cell 0 (set w.cast (t * 16 + s) v) u f ≡ cell 0 w.cast u f
  votes e u r l d f m q = other 0 w.cast v u f (omega (arith, fits.sites)) (λ x y.
      clash (rw (ne_eqb f r (λ a. d x (sym a ∙ y)), x, y) at q) (unfold shared in any_none (site_count T) (λ a. member (cell 0 w.carried t a) s) e r l))

  votes_close : shared w.carried (site_count T) t s ≡ false → (u r : ℕ) → (u ≡ t → r ≡ s → ⊥) → closing T (delivered_parts w t s v) u r ≡ 0 → closing T w u r ≡ 0
  votes_close e u r d z =
      let w' = delivered_parts w t s v in
      let l = (close_has T w' u r z).site in
      let b : r < 16 = omega (arith, fits.sites) in
      close_back T w w' u r refl refl (other false w.delivered true u r b d)
      (λ x m q. let (a, b) = and-true (cell false w.delivered x r) (eqb (cell 0 w.closed x r) 0) q in and_put _ _ (stored_true w.delivered (t * 16 + s) (x * 16 + r) a) b)
      (verdict_same T w.cast w'.cast w.carried w.carried u r (other 0 w.cast v u r b d) refl (votes e u r l d))
      (λ m. refl)
      z

  module _ (order : List ℕ) (l : Known) (k : Knows T w order l) where
    -- so t joins those that s can close
    pub codes_joined : (c : Closable) → s < length l.closable → shared w.carried (site_count T) t s ≡ false → closable_code c ≡ joined (closable_code (get_or l.closable s Nobody)) t
        → KnowsClosing T (delivered_parts w t s v) (map closable_code (set l.closable s c))
    codes_joined c h e here = rw (codes_set l.closable s c) (λ r. after_store (map closable_code l.closable) s (closable_code c) any r (KnowsAt T (delivered_parts w t s v) r)
        (λ q u x z.
        let (a, b) = joined_excludes (closable_code (get_or l.closable s Nobody)) t u (omega (arith, (close_has T (delivered_parts w t s v) u r z).txn, fits.txns)) (rw here at x) in
        closing_get T w l.closable k.closing s h u a (votes_close e u s (λ p _. b p) (rw q at z)))
        (λ _ u x. absurd (excludes_none any u refl x))
        (λ d u x z. k.closing r u x (votes_close e u r (λ _ q. d q) z)))

    pub knows_delivered : (codes : List Closable) (p lower upper opener : ℕ) (within : Within (set l.top.at s upper)) → get_or order p nobody ≡ t → t < T.txns → s < length l.top.at
        → (lower ≤ low_at l s) × (lower ≤ p)
        → (top_at l s ≤ upper) × (p < upper)
        → (opener ≤ l.open) × (opener ≤ p)
        → KnowsClosing T (delivered_parts w t s v) (map closable_code codes)
        → Knows T (delivered_parts w t s v) order (record l { closable = codes; stuck = set l.stuck s false; low = set l.low s lower; top = record { at = set l.top.at s upper; within = within }; passed = set l.passed t 0; «open» = opener })
    knows_delivered codes p lower upper opener within here txn b low top first closing = record {
      ordered = k.ordered;
      closing = closing;
      stuck = λ r. after_store l.stuck s false false r (λ x. x ≡ true → deliver_refusal_in T w.places w'.delivered w.closed r ≡ 0 → ⊥)
          (λ _ x. clash x refl) (λ _ x. clash x refl) (λ d x z. k.stuck r x (delivers r d z));
      passed = λ u. after_store l.passed t 0 0 u (PassedTo T w'.cast w.carried u)
          (λ _ q m. absurd (omega arith)) (λ _ q m. absurd (omega arith)) (λ d q m z. k.passed u q m (carries u (q / 16) (q % 16) d z));
      next = λ r i h m.
          let u = get_or order i nobody in
          waits_kept (place_in w.places u) (cell false w.delivered u r) (cell false w'.delivered u r) (concerns T u r) (stored_true w.delivered (t * 16 + s) (u * 16 + r)) (k.next r i h m);
      low = λ r i h. after_store l.low s lower 0 r (λ x. i < x → queued_at w'.delivered w.closed order r i ≡ false)
          (λ e m. queue (get_or order i nobody) r h (λ q _. apart i (λ a. absurd (omega (arith, low))) q) (k.low r i h (rw e (omega (arith, low)))))
          (λ _ m. absurd (omega arith))
          (λ d m. queue (get_or order i nobody) r h (λ _ e. d e) (k.low r i h m));
      top = λ r i h. after_store l.top.at s upper 0 r (λ x. x ≤ i → queued_at w'.delivered w.closed order r i ≡ false)
          (λ e m. queue (get_or order i nobody) r h (λ q _. apart i (λ a. absurd (omega (arith, top))) q) (k.top r i h (rw e (omega (arith, top)))))
          (λ m. absurd (omega arith))
          (λ d m. queue (get_or order i nobody) r h (λ _ e. d e) (k.top r i h m));
      opened = λ i m h. rw (get_or-set_other l.passed t (get_or order i nobody) 0 0 (apart i (λ a. absurd (omega (arith, first))))) (k.opened i (omega (arith, first)) h);
    }
      where
        w' : Seen
        w' = delivered_parts w t s v

        site : s < 16
        site = (next_says T w fits (Deliver s) next).0

        -- t stands nowhere else
        apart : (i : ℕ) → (i ≡ p → ⊥) → get_or order i nobody ≡ t → ⊥
        apart i d e =
            let a = (k.ordered.is i (omega (arith, fits.txns))).1 in
            let b = (k.ordered.is p (omega (arith, fits.txns))).1 in
            d (sym a ∙ ap (rank_of w.places T.txns) (e ∙ sym here) ∙ b)

        queue : (u r : ℕ) → r < 16 → (u ≡ t → r ≡ s → ⊥) → queued_in w.delivered w.closed r u ≡ false → queued_in w'.delivered w.closed r u ≡ false
        queue u r h d x = rw (other false w.delivered true u r h d) x

        delivers : (r : ℕ) → (r ≡ s → ⊥) → deliver_refusal_in T w.places w'.delivered w.closed r ≡ 0 → deliver_refusal_in T w.places w.delivered w.closed r ≡ 0
        delivers r d z =
            let b : r < 16 = omega (arith, (deliver_has T w.places w'.delivered w.closed r fits z).0, fits.sites) in
            sym (deliver_same T w.places w.delivered w'.delivered w.closed w.closed r (λ u m. other false w.delivered true u r b (λ _ e. d e)) (λ u m. refl)) ∙ z

        carries : (u f r : ℕ) → (u ≡ t → ⊥) → carry_refusal_in T w'.cast w.carried u f r ≡ 0 → carry_refusal_in T w.cast w.carried u f r ≡ 0
        carries u f r d z =
            let c = carry_has T w'.cast w.carried u f r z in
            sym (carry_same T w.cast w'.cast w.carried w.carried u f r
            (other 0 w.cast v u f (omega (arith, c.giver, fits.sites)) (λ e _. d e)) (other 0 w.cast v u r (omega (arith, c.taker, fits.sites)) (λ e _. d e)) refl) ∙ z
