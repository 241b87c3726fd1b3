-- CLOSE, DELIVER and CARRY are judged as before where the cells that they look at are as before.
-- Assumes nothing.
use Rattle.std.proofs.Common.{ℕ, ◌+◌, ◌*◌, ◌<◌, ◌≡◌, sym, ◌∙◌, Bool, true, false, ◌&&◌, not, cond, List, inl, inr, arith, eqb, set, get_or-set_other, eq-eqb, ne_eqb}
use borrow.Author.Tests.{lt-leb, not-true}
use Rattle.queues.specs.Queue.{queued_in, precedes, head_in, blocked_in, next_in, next_of, blocked_of}
use Rattle.parts.specs.Cells.{place_in, cell, version_in}
use Rattle.bounded.specs.Bounded.{any_below}
use Rattle.bounded.proofs.Truth.{and-true, and_put, bool, clash, same}
use Rattle.bounded.proofs.Laws.{any_get, any_put, all_same, any_same, first-same}
use Rattle.keys.specs.Keys.{member}
use Rattle.tables.specs.Lists.{row_at}
use Rattle.tables.specs.Sites.{site_count}
use Rattle.tables.specs.declared.Tables.{Tables}
use Rattle.rules.specs.Votes.{holds_vote, all_yes_in, room_in}
use Rattle.steps.specs.declared.Place.{Place}
use Rattle.steps.specs.declared.Version.{Version}
use Rattle.rules.specs.Asked.{verdict_at, room_of}
use Rattle.refusals.specs.Refusals.{deliver_refusal_in, vote_refusal_in, carry_refusal_in, verdict_refusal_in, close_refusal_in}
use Rattle.search.specs.Search.{Seen, closing}
use Rattle.search.proofs.Closes.{Closes, close_has}

-- a store at one transaction and site leaves every other
pub cell_other : {A : Type 0} (d : A) (l : List A) (t s u r : ℕ) (v : A) → s < 16 → r < 16 → (u ≡ t → r ≡ s → ⊥) → cell d (set l (t * 16 + s) v) u r ≡ cell d l u r
cell_other d l t s u r v a b h = get_or-set_other l (t * 16 + s) (u * 16 + r) v d (λ e. h (omega arith) (omega arith))

-- ---- CLOSE

-- what passes each test is accepted
pub close_put : (T : Tables) (w : Seen) (t s : ℕ) → Closes T w t s → closing T w t s ≡ 0
unfolding close_refusal_in verdict_refusal_in
close_put T w t s g =
    let z : cell 0 w.closed t s ≡ 0 = g.unclosed in
    rw (lt-leb _ _ g.txn, lt-leb _ _ g.site, g.concerned, z, g.delivered)
    (judged (verdict_at T w.cast w.carried t s) (head_in w.places w.delivered w.closed T.txns t s) (room_of T w.versions t s) g.known g.head g.room)
  where
    judged : (v : ℕ) (head room : Bool) → (v ≡ 0 → ⊥) → (v ≡ 1 → head ≡ true) → (v ≡ 1 → room ≡ true)
        → ◌≡◌ {A = ℕ} (cond (eqb v 0) 30 (cond (eqb v 1 && not head) 31 (cond (eqb v 1 && not room) 32 0))) 0
    judged v head room k h r = rw (ne_eqb v 0 k) (elim (same v 1) [ inl e ↦ rw (eq-eqb v 1 e, h e, r e) | inr d ↦ rw (ne_eqb v 1 d) ])

-- the verdict looks at what s cast and was handed, and at the votes that it holds
pub verdict_same : (T : Tables) (cast cast' carried carried' : List ℕ) (t s : ℕ) → cell 0 cast' t s ≡ cell 0 cast t s → cell 0 carried' t s ≡ cell 0 carried t s
    → ((f : ℕ) → f < site_count T → holds_vote (cell 0 cast t s) (cell 0 carried t s) s f ≡ true → cell 0 cast' t f ≡ cell 0 cast t f)
    → verdict_at T cast' carried' t s ≡ verdict_at T cast carried t s
verdict_same T cast cast' carried carried' t s e g h = rw (agreed, e, g)
  where
    agreed : all_yes_in cast' (cell 0 carried' t s) (site_count T) t s ≡ all_yes_in cast (cell 0 carried t s) (site_count T) t s
    agreed = unfold all_yes_in in rw (e, g) (all_same (site_count T) _ _ (λ f l. elim (bool (holds_vote (cell 0 cast t s) (cell 0 carried t s) s f)) [ inl q ↦ rw (q, h f l q) | inr q ↦ rw q ]))

-- where the queue has grown, one at the head was there before
pub head_back : (places : List Place) (delivered delivered' : List Bool) (closed closed' : List ℕ) (n t s : ℕ)
    → ((u : ℕ) → u < n → queued_in delivered closed s u ≡ true → queued_in delivered' closed' s u ≡ true)
    → head_in places delivered' closed' n t s ≡ true → head_in places delivered closed n t s ≡ true
unfolding head_in
head_back places delivered delivered' closed closed' n t s h e =
    let ahead : List Bool → List ℕ → ℕ → Bool = λ d c u. queued_in d c s u && precedes u (place_in places u) t (place_in places t) in
    elim (bool (any_below n (ahead delivered closed))) [
      | inl q ↦
          let (u, l, b) = any_get n (ahead delivered closed) q in
          let (i, j) = and-true (queued_in delivered closed s u) (precedes u (place_in places u) t (place_in places t)) b in
          clash (any_put n (ahead delivered' closed') u l (and_put _ _ (h u l i) j)) (not-true _ e)
      | inr q ↦ rw q
    ]

-- room looks at the versions of the keys that t writes
pub room_same : (versions versions' : List Version) (writes : List ℕ) (w s m : ℕ)
    → ((i : ℕ) → i < w → version_in versions' s (row_at writes i) ≡ version_in versions s (row_at writes i))
    → room_in versions' writes w s m ≡ room_in versions writes w s m
unfolding room_in
room_same versions versions' writes w s m h = all_same w _ _ (λ i l. rw (h i l))

-- so what is closed after a change could be closed before it
pub close_back : (T : Tables) (w w' : Seen) (t s : ℕ)
    → w'.places ≡ w.places
    → cell 0 w'.closed t s ≡ cell 0 w.closed t s
    → cell false w'.delivered t s ≡ cell false w.delivered t s
    → ((u : ℕ) → u < T.txns → queued_in w.delivered w.closed s u ≡ true → queued_in w'.delivered w'.closed s u ≡ true)
    → verdict_at T w'.cast w'.carried t s ≡ verdict_at T w.cast w.carried t s
    → (t < T.txns → room_of T w'.versions t s ≡ room_of T w.versions t s)
    → closing T w' t s ≡ 0 → closing T w t s ≡ 0
close_back T w w' t s p c d q v r h =
    let g = close_has T w' t s h in
    close_put T w t s (record {
      txn = g.txn;
      site = g.site;
      concerned = g.concerned;
      unclosed = sym c ∙ g.unclosed;
      delivered = sym d ∙ g.delivered;
      known = λ e. g.known (v ∙ e);
      head = λ e. head_back w.places w.delivered w'.delivered w.closed w'.closed T.txns t s q (rw p at (g.head (v ∙ e)));
      room = λ e. sym (r g.txn) ∙ g.room (v ∙ e);
    })

-- ---- DELIVER

-- it looks at what s has delivered and closed
pub deliver_same : (T : Tables) (places : List Place) (delivered delivered' : List Bool) (closed closed' : List ℕ) (s : ℕ)
    → ((u : ℕ) → u < T.txns → cell false delivered' u s ≡ cell false delivered u s)
    → ((u : ℕ) → u < T.txns → cell 0 closed' u s ≡ cell 0 closed u s)
    → deliver_refusal_in T places delivered' closed' s ≡ deliver_refusal_in T places delivered closed s
unfolding deliver_refusal_in
deliver_same T places delivered delivered' closed closed' s d c = rw (next, blocked (next_of T places delivered s))
  where
    next : next_of T places delivered' s ≡ next_of T places delivered s
    next = unfold next_in in first-same T.txns (place_in places) _ _ _ (λ u l. rw (d u l))

    blocked : (t : ℕ) → blocked_of T delivered' closed' t s ≡ blocked_of T delivered closed t s
    blocked t = unfold blocked_in in any_same T.txns _ _ (λ u l. rw (d u l, c u l))

-- ---- CARRY

-- it looks at what from cast, and at what to cast and was handed of from
pub carry_same : (T : Tables) (cast cast' carried carried' : List ℕ) (t from to : ℕ)
    → cell 0 cast' t from ≡ cell 0 cast t from → cell 0 cast' t to ≡ cell 0 cast t to
    → member (cell 0 carried' t to) from ≡ member (cell 0 carried t to) from
    → carry_refusal_in T cast' carried' t from to ≡ carry_refusal_in T cast carried t from to
unfolding carry_refusal_in vote_refusal_in
carry_same T cast cast' carried carried' t from to a b c = rw (a, b, c)
