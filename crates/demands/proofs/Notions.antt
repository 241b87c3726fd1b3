-- Each notion of the protocol is what the machine's test for it says.
-- Assumes nothing.
use Prim.Native.Nat.{ℕ, ◌+◌, ◌*◌, ◌≤◌, ◌<◌}
use mathlib.Core.Path.{◌≡◌, refl, sym, subst, ◌∙◌}
use mathlib.Core.Bool.{Bool, true, false, ◌&&◌, ◌||◌, not, cond}
use mathlib.Core.Logic.Iff
use mathlib.Core.Logic.{◌⊎◌, inl, inr, ◌↔◌}
use mathlib.Core.List.{List}
use native.Mathlib.Omega.{arith}
use lib.Dec.{eqb, ltb}
use lib.ListN.{get_or}
use borrow.Author.Tests.{eqb-true, eqb-false, eq-eqb, ne_eqb, ltb-true, lt-ltb}
use Rattle.queues.specs.Queue.{precedes, head_in, blocked_in, waits, next_in}
use Rattle.parts.specs.Cells.{place_in, nobody}
use Rattle.bounded.specs.Bounded.{any_below, all_below}
use Rattle.bounded.proofs.Truth.{bool}
use Rattle.keys.specs.Keys.{member}
use Rattle.tables.specs.Lists.{row_at, in_row, meets, read_count, read_key, write_count, write_key, conflict_in, conflict, read_row, write_row}
use Rattle.tables.specs.Sites.{site_count, site_keys, holds}
use Rattle.tables.specs.Concern.{some_in, all_in, votes, touches, concerns, inside, holds_all, local}
use Rattle.tables.specs.declared.Tables.{Tables}
use Rattle.steps.specs.Kinds.{version}
use Rattle.rules.specs.Votes.{current, certify_in, covers_key, covered_in, all_yes_in, verdict_by, room_in}
use Rattle.machine.specs.Parts.{place_of, version_at, delivered_at, closed_at, cast_by, carried_to}
use Rattle.machine.specs.Rules.{queued, at_head, next_at, blocked, vote_of, holds_vote_of, verdict, room_at}
use Rattle.machine.specs.declared.State.{State}
use Rattle.demands.specs.Protocol.{Holds, InR, InV, Local, Conflict, IsTxn, IsSite, Queued, Before, AtHead, Waits, Next, Certifies, Votes, HasVote, Covered, AllYes, Commits, Aborts, Room}
use Rattle.demands.proofs.Tables.{holds_site}
use Rattle.demands.proofs.Says.{Says, eq_says, lt_says, and_says, or_says, fails, not_says, implies_says, any_says, all_says, finds, foremost}

-- ---- rows

-- k is among the first n of a list
abbrev pub In : List ℕ → ℕ → ℕ → Type 0
In row n k = (i : ℕ) × (i < n) × (row_at row i ≡ k)

module _ (row : List ℕ) (n : ℕ) (P : ℕ → Type 0) where
  some_key : ((i : ℕ) × (i < n) × P (row_at row i)) ↔ ((k : ℕ) × In row n k × P k)
  some_key = (λ x. (row_at row x.0, (x.0, x.1, refl), x.2), λ x. (x.1.0, x.1.1, subst P (sym x.1.2) x.2))

  each_key : ((i : ℕ) → i < n → P (row_at row i)) ↔ ((k : ℕ) → In row n k → P k)
  each_key = (λ h k x. subst P x.2 (h x.0 x.1), λ h i l. h (row_at row i) (i, l, refl))

pub row_says : (row : List ℕ) (n k : ℕ) → Says (in_row row n k) (In row n k)
unfolding in_row
row_says row n k = any_says n (λ i. eqb (row_at row i) k) (λ i l. eq_says (row_at row i) k)

some_says : (row : List ℕ) (n m : ℕ) → Says (some_in row n m) ((k : ℕ) × In row n k × (member m k ≡ true))
unfolding some_in
some_says row n m = Iff.trans (any_says n (λ i. member m (row_at row i)) (λ i l. Iff.rfl)) (some_key row n (λ k. member m k ≡ true))

all_in_says : (row : List ℕ) (n m : ℕ) → Says (all_in row n m) ((k : ℕ) → In row n k → member m k ≡ true)
unfolding all_in
all_in_says row n m = Iff.trans (all_says n (λ i. member m (row_at row i)) (λ i l. Iff.rfl)) (each_key row n (λ k. member m k ≡ true))

meets_says : (row other : List ℕ) (n m : ℕ) → Says (meets row n other m) ((k : ℕ) × In row n k × In other m k)
unfolding meets
meets_says row other n m =
    Iff.trans (any_says n (λ i. in_row other m (row_at row i)) (λ i l. row_says other m (row_at row i))) (some_key row n (λ k. In other m k))

-- ---- tables

module _ (T : Tables) where
  pub voter_says : (t s : ℕ) → Says (votes T t s) (InV T t s)
  voter_says t s = some_says (read_row T t) (read_count T t) (site_keys T s)

  pub concerns_says : (t s : ℕ) → Says (concerns T t s) (InR T t s)
  unfolding touches
  concerns_says t s = Iff.trans (or_says (voter_says t s) (some_says (write_row T t) (write_count T t) (site_keys T s))) (
    λ x. elim x [ inl y ↦ (y.0, inl y.1, y.2) | inr y ↦ (y.0, inr y.1, y.2) ],
    λ x. elim x.1 [ inl y ↦ inl (x.0, y, x.2) | inr y ↦ inr (x.0, y, x.2) ],
  )

  -- who holds a key is a site
  site_of_lem : (t s : ℕ) → InR T t s → s < site_count T
  site_of_lem t s x = holds_site T s x.0 x.2

  pub local_says : (t : ℕ) → Says (local T t) (Local T t)
  unfolding local inside
  local_says t = Iff.trans
      (all_says (site_count T) (λ s. not (concerns T t s) || holds_all T t s) (λ s l. implies_says (concerns_says t s) (and_says (all_in_says (read_row T t) (read_count T t) (site_keys T s)) (all_in_says (write_row T t) (write_count T t) (site_keys T s))))) (
        λ h s r k y. elim y [ inl x ↦ (h s (site_of_lem t s r) r).0 k x | inr x ↦ (h s (site_of_lem t s r) r).1 k x ],
        λ h s l r. (λ k x. h s r k (inl x), λ k x. h s r k (inr x)),
      )

  pub conflict_says : (t u : ℕ) → Says (conflict T t u) (Conflict T t u)
  unfolding conflict_in
  conflict_says t u = Iff.trans (or_says (meets_says (read_row T t) (write_row T u) (read_count T t) (write_count T u)) (meets_says (read_row T u) (write_row T t) (read_count T u) (write_count T t))) (
    λ x. elim x [ inl y ↦ (y.0, inl (y.1, y.2)) | inr y ↦ (y.0, inr (y.2, y.1)) ],
    λ x. elim x.1 [ inl y ↦ inl (x.0, y.0, y.1) | inr y ↦ inr (x.0, y.1, y.0) ],
  )

module _ (st : State) where
  abbrev T : Tables
  T = st.tables

  -- ---- the queue

  pub queued_says : (s t : ℕ) → IsTxn st t → Says (queued st s t) (Queued st s t)
  queued_says s t l = Iff.trans (and_says Iff.rfl (eq_says (closed_at st t s) 0)) (λ x. (l, x.0, x.1), λ x. (x.1, x.2))

  pub before_says : (u t : ℕ) → Says (precedes u (place_of st u) t (place_of st t)) (Before st u t)
  before_says u t = or_says (lt_says (place_of st u) (place_of st t)) (and_says (eq_says (place_of st u) (place_of st t)) (lt_says u t))

  pub head_says : (s t : ℕ) → Says (at_head st t s) (AtHead st s t)
  unfolding head_in
  head_says s t = Iff.trans
      (not_says (any_says T.txns (λ u. queued st s u && precedes u (place_of st u) t (place_of st t)) (λ u l. and_says (queued_says s u l) (before_says u t))))
      (λ h u q b. h (u, q.0, (q, b)), λ h x. h x.0 x.2.0 x.2.1)

  pub blocked_says : (s t : ℕ) → Says (blocked st t s) ((u : ℕ) × Queued st s u × Conflict T t u)
  unfolding blocked_in
  blocked_says s t = Iff.trans
      (any_says T.txns (λ u. queued st s u && conflict T t u) (λ u l. and_says (queued_says s u l) (conflict_says T t u)))
      (λ x. (x.0, x.2.0, x.2.1), λ x. (x.0, x.1.0, (x.1, x.2)))

  abbrev pub pending : ℕ → ℕ → Bool
  pending s t = waits (place_of st t) (delivered_at st t s) (concerns T t s)

  pub waits_says : (s t : ℕ) → IsTxn st t → Says (pending s t) (Waits st s t)
  waits_says s t l = Iff.trans (and_says (lt_says 0 (place_of st t)) (and_says (not_says Iff.rfl) (concerns_says T t s)))
      (λ x. (l, x.0, (fails Iff.rfl).1 x.1.0, x.1.1), λ x. (x.1, ((fails Iff.rfl).0 x.2, x.3)))

  -- the next is found, and found it is the next
  pub next_says : T.txns ≤ 128 → (s t : ℕ) → ((next_at st s ≡ t) × (t ≡ nobody → ⊥)) ↔ Next st s t
  unfolding next_in
  next_says b s t = (
    λ h. subst (Next st s) h.0 (let f = finds n rank (pending s) nobody (waits_says s) b (λ e. h.1 (sym h.0 ∙ e)) in (f.has, λ u w. f.none u w.0 w)),
    λ h. (foremost n rank (pending s) nobody (waits_says s) b t (record { low = h.0.0; has = h.0; none = λ u l. h.1 u }), λ e. omega (arith, h.0.0)),
  )
    where
      n : ℕ
      n = T.txns

      rank : ℕ → ℕ
      rank = place_in st.parts.places

  -- ---- votes and verdicts

  -- t's i-th read does not keep s from a yes
  abbrev certified : ℕ → ℕ → ℕ → Bool
  certified s t i = not (holds T s (read_key T t i)) || current st.parts.versions st.parts.readversions st.parts.recorded (read_row T t) t s i

  pub certifies_says : (s t : ℕ) → (certify_in st.parts.versions st.parts.readversions st.parts.recorded (read_row T t) (read_count T t) t s (site_keys T s) ≡ 1) ↔ Certifies st s t
  unfolding certify_in
  certifies_says s t = by (all_says (read_count T t) (certified s t)
      (λ i l. implies_says Iff.rfl (and_says Iff.rfl (eq_says (version_at st s (read_key T t i)) (get_or st.parts.readversions (t * 8 + i) (version 0)).0))))
    where
      by : {b : Bool} {P : Type 0} → Says b P → (◌≡◌ {A = ℕ} (cond b 1 2) 1) ↔ P
      by {b} p = (λ h. p.0 (one b h), λ x. rw (p.1 x))
        where
          one : (b : Bool) → ◌≡◌ {A = ℕ} (cond b 1 2) 1 → b ≡ true
          one true h = refl
          one false h = absurd (omega arith)

  -- the vote that s casts
  pub votes_is : (s t : ℕ) → Votes st s t (vote_of st t s)
  unfolding certify_in
  votes_is s t = record {
    some = λ v. rw ((voter_says T t s).1 v) (either (all_below (read_count T t) (certified s t)));
    yes = λ v. rw ((voter_says T t s).1 v) (certifies_says s t);
    none = λ n. rw ((fails (voter_says T t s)).1 n);
  }
    where
      either : (b : Bool) → (◌≡◌ {A = ℕ} (cond b 1 2) 1) ⊎ (◌≡◌ {A = ℕ} (cond b 1 2) 2)
      either true = inl refl
      either false = inr refl

  pub holds_says : (s t f : ℕ) → Says (holds_vote_of st t s f) (HasVote st s t f)
  holds_says s t f = (
    λ h. elim (bool (eqb f s)) [ inl e ↦ inl (eqb-true f s e, ltb-true 0 (cast_by st t s) (rw e at h)) | inr e ↦ inr (eqb-false f s e, rw e at h) ],
    λ x. elim x [ inl y ↦ rw (eq-eqb f s y.0, lt-ltb 0 (cast_by st t s) y.1) | inr y ↦ rw (ne_eqb f s y.0, y.1) ],
  )

  abbrev pub covered_at : ℕ → ℕ → Bool
  covered_at s t = covered_in (cast_by st t s) (carried_to st t s) T.group T.groups (read_row T t) (read_count T t) (site_count T) s

  abbrev pub agreed : ℕ → ℕ → Bool
  agreed s t = all_yes_in st.parts.cast (carried_to st t s) (site_count T) t s

  pub covered_says : (s t : ℕ) → Says (covered_at s t) (Covered st s t)
  unfolding covered_in covers_key
  covered_says s t = Iff.trans
      (all_says (read_count T t) (λ i. any_below (site_count T) (λ f. holds_vote_of st t s f && holds T f (read_key T t i)))
      (λ i l. Iff.trans (any_says (site_count T) (λ f. holds_vote_of st t s f && holds T f (read_key T t i)) (λ f m. and_says (holds_says s t f) Iff.rfl))
      (λ x. (x.0, x.1, x.2.0, x.2.1), λ x. (x.0, x.1, (x.2, x.3)))))
      (each_key (read_row T t) (read_count T t) (λ k. (f : ℕ) × IsSite st f × HasVote st s t f × Holds T f k))

  pub yes_says : (s t : ℕ) → Says (agreed s t) (AllYes st s t)
  unfolding all_yes_in
  yes_says s t = all_says (site_count T) (λ f. not (holds_vote_of st t s f) || eqb (cast_by st t f) 1) (λ f l. implies_says (holds_says s t f) (eq_says (cast_by st t f) 1))

  pub commits_says : (s t : ℕ) → (verdict st t s ≡ 1) ↔ Commits st s t
  unfolding verdict_by
  commits_says s t = by (eq_says (read_count T t) 0) (covered_says s t) (yes_says s t)
    where
      by : {a b c : Bool} {P Q R : Type 0} → Says a P → Says b Q → Says c R → (◌≡◌ {A = ℕ} (cond a 1 (cond b (cond c 1 2) 0)) 1) ↔ (P ⊎ (Q × R))
      by {a} {b} {c} p q r = (to a b c p q r, λ x. elim x [ inl y ↦ rw (p.1 y) | inr y ↦ rw (q.1 y.0, r.1 y.1) (known a) ])
        where
          known : (a : Bool) → ◌≡◌ {A = ℕ} (cond a 1 1) 1
          known true = refl
          known false = refl

          to : {P Q R : Type 0} (a b c : Bool) → Says a P → Says b Q → Says c R → ◌≡◌ {A = ℕ} (cond a 1 (cond b (cond c 1 2) 0)) 1 → P ⊎ (Q × R)
          to true b c p q r h = inl (p.0 refl)
          to false true true p q r h = inr (q.0 refl, r.0 refl)
          to false true false p q r h = absurd (omega arith)
          to false false c p q r h = absurd (omega arith)

  pub aborts_says : (s t : ℕ) → (verdict st t s ≡ 2) ↔ Aborts st s t
  unfolding verdict_by
  aborts_says s t = by (eq_says (read_count T t) 0) (covered_says s t) (yes_says s t)
    where
      by : {a b c : Bool} {Q R : Type 0} → Says a (read_count T t ≡ 0) → Says b Q → Says c R → (◌≡◌ {A = ℕ} (cond a 1 (cond b (cond c 1 2) 0)) 2) ↔ ((0 < read_count T t) × Q × (R → ⊥))
      by {a} {b} {c} p q r = (to a b c p q r, λ y. rw ((fails p).1 (λ e. omega (arith, y.0)), q.1 y.1, (fails r).1 y.2))
        where
          to : {Q R : Type 0} (a b c : Bool) → Says a (read_count T t ≡ 0) → Says b Q → Says c R → ◌≡◌ {A = ℕ} (cond a 1 (cond b (cond c 1 2) 0)) 2 → (0 < read_count T t) × Q × (R → ⊥)
          to true b c p q r h = absurd (omega arith)
          to false true true p q r h = absurd (omega arith)
          to false true false p q r h = (let d = (fails p).0 refl in omega arith, q.0 refl, (fails r).0 refl)
          to false false c p q r h = absurd (omega arith)

  -- not known, commit or abort
  pub verdict_some : (s t : ℕ) → (verdict st t s ≡ 0) ⊎ ((verdict st t s ≡ 1) ⊎ (verdict st t s ≡ 2))
  unfolding verdict_by
  verdict_some s t = by (eqb (read_count T t) 0) (covered_at s t) (agreed s t)
    where
      by : (a b c : Bool) → let v : ℕ = cond a 1 (cond b (cond c 1 2) 0) in (v ≡ 0) ⊎ ((v ≡ 1) ⊎ (v ≡ 2))
      by true b c = inr (inl refl)
      by false true true = inr (inl refl)
      by false true false = inr (inr refl)
      by false false c = inl refl

  pub room_says : (s t : ℕ) → Says (room_at st t s) (Room st s t)
  unfolding room_in
  room_says s t = Iff.trans
      (all_says (write_count T t) (λ i. not (holds T s (write_key T t i)) || ltb (version_at st s (write_key T t i)) 4294967295)
      (λ i l. implies_says Iff.rfl (lt_says (version_at st s (write_key T t i)) 4294967295)))
      (each_key (write_row T t) (write_count T t) (λ k. Holds T s k → version_at st s k < 4294967295))
