-- The protocol determines a step completely: any two results that it allows coincide.
-- Assumes nothing.
use Prim.Native.Nat.{ℕ, zero, suc, ◌+◌, ◌*◌, ◌/◌, ◌%◌, ◌^◌, ◌≤◌, ◌<◌}
use mathlib.Core.Path.{◌≡◌, refl, sym, ap, subst, ◌∙◌}
use mathlib.Core.Bool.{true, ◌&&◌}
use mathlib.Core.Logic.Iff
use mathlib.Core.Logic.{◌⊎◌, inl, inr}
use mathlib.Core.List.{List}
use native.Mathlib.Omega.{arith}
use native.Mathlib.Numerals.{add-one}
use native.Mathlib.Nat.{add-zero, pow-zero, pow-succ', div-one, div-div-eq-div-mul}
use lib.Dec.{eqb}
use lib.ListN.{get_or}
use lib.Seq.{ext_get_or}
use borrow.Author.Tests.{eqb-true, eqb-false, lt-ltb}
use Rattle.std.specs.Prelude.{Ok}
use Rattle.queues.specs.Queue.{submitted_in}
use Rattle.bounded.specs.Bounded.{sum_below}
use Rattle.bounded.proofs.Truth.{bool, same}
use Rattle.keys.specs.Keys.{member}
use Rattle.tables.specs.Lists.{in_row, write_count, write_row}
use Rattle.tables.specs.Sites.{holds}
use Rattle.tables.specs.Concern.{votes}
use Rattle.tables.specs.declared.Tables.{Tables}
use Rattle.steps.specs.Kinds.{version, place}
use Rattle.steps.specs.declared.Step.{Step}
use Rattle.steps.specs.declared.Step.TheVariants as step
use Rattle.steps.specs.Answers.{Answered}
use Rattle.steps.specs.declared.Answer.TheVariants as answer
use Rattle.machine.specs.Parts.{place_of, version_at, value_at}
use Rattle.machine.specs.Rules.{verdict}
use Rattle.machine.specs.Usable.{usable}
use Rattle.machine.specs.Effects.{answering}
use Rattle.machine.specs.Steps.{done}
use Rattle.machine.specs.declared.State.{State}
use Rattle.machine.specs.declared.Stepped.{Stepped}
use Rattle.search.specs.Search as todo
use Rattle.machine.proofs.Laws.{usable_has}
use Rattle.machine.proofs.Settle.{after_usable}
use Rattle.demands.specs.Protocol.{Writes, Holds, Only, Votes, Aborts, MayCommit, Permits, NoClose, NoDeliver, NoCarry, SameStores, Stores, SameReads, SameQueues, SameVotes, DoesRead, Submitted, none, placed, other, DoesSubmit, DoesDeliver, DoesCarry, DoesClose, First, close, deliver, carry, Does, Settling, over, go, Protocol}
use Rattle.demands.proofs.Says.{Says, eq_says, and_says, fails, lower, sooner}
use Rattle.demands.proofs.Notions.{row_says, voter_says, next_says, commits_says, aborts_says}
use Rattle.demands.proofs.Permits.{permitted}
use Rattle.demands.proofs.Sized.{Arrays, after_arrays}
use Rattle.demands.proofs.Does.{differ, does}

via : {A : Type 0} {x y z : A} → x ≡ z → y ≡ z → x ≡ y
via p q = p ∙ sym q

-- ---- a set is its members

half : (m k : ℕ) → member m (suc k) ≡ member (m / 2) k
unfolding member
half m k = let e : m / 2 ^ suc k ≡ m / 2 / 2 ^ k = rw pow-succ' (sym (div-div-eq-div-mul m 2 (2 ^ k))) in ap (λ n. eqb (n % 2) 1) e

odd_same : (a b : ℕ) → member a 0 ≡ member b 0 → a % 2 ≡ b % 2
unfolding member
odd_same a b h = by (rw (pow-zero, div-one, div-one) at h)
  where
    by : eqb (a % 2) 1 ≡ eqb (b % 2) 1 → a % 2 ≡ b % 2
    by h = elim (bool (eqb (a % 2) 1)) [
      | inl e ↦ omega (arith, eqb-true (a % 2) 1 e, eqb-true (b % 2) 1 (sym h ∙ e))
      | inr e ↦ let x = eqb-false (a % 2) 1 e in let y = eqb-false (b % 2) 1 (sym h ∙ e) in omega arith
    ]

members : (w a b : ℕ) → a ≤ w → b ≤ w → ((k : ℕ) → member a k ≡ member b k) → a ≡ b
members zero a b l m h = omega arith
members (suc w) a b l m h =
    let e = members w (a / 2) (b / 2) (omega arith) (omega arith) (λ k. sym (half a k) ∙ h (suc k) ∙ half b k) in
    let d = odd_same a b (h 0) in
    omega arith

-- ---- lists

only_same : {A : Type 0} {d x y : A} {l m o : List A} {i j : ℕ} → i ≡ j → x ≡ y → Only d l m i x → Only d l o j y → m ≡ o
only_same {d = d} {m = m} {o = o} {i = i} e f p q = ext_get_or d m o (via p.long q.long) (λ k b. elim (same k i) [
  | inl c ↦ ap (λ k. get_or m k d) c ∙ p.there ∙ f ∙ sym q.there ∙ sym (ap (λ k. get_or o k d) (c ∙ e))
  | inr n ↦ via (p.others k n) (q.others k (λ c. n (c ∙ sym e)))
])

-- ---- the parts of a state that a step leaves

module _ {st x y : State} where
  stores_left : SameStores st x → SameStores st y → SameStores y x
  stores_left p q = record { versions = via p.versions q.versions; values = via p.values q.values }

  reads_left : SameReads st x → SameReads st y → SameReads y x
  reads_left p q = record { recorded = via p.recorded q.recorded; readversions = via p.readversions q.readversions; readvalues = via p.readvalues q.readvalues }

  queues_left : SameQueues st x → SameQueues st y → SameQueues y x
  queues_left p q = record { places = via p.places q.places; delivered = via p.delivered q.delivered; closed = via p.closed q.closed }

  votes_left : SameVotes st x → SameVotes st y → SameVotes y x
  votes_left p q = record { cast = via p.cast q.cast; carried = via p.carried q.carried }

-- results equal in every part are equal
made : {a b : Answered} {x y : State} → a ≡ b → x.tables ≡ y.tables → SameStores y x → SameReads y x → SameQueues y x → SameVotes y x → answering a x ≡ answering b y
made e t p r q v = λ j. record {
  answer = e j;
  next = record {
    tables = t j;
    parts = record {
      versions = p.versions j;
      values = p.values j;
      recorded = r.recorded j;
      readversions = r.readversions j;
      readvalues = r.readvalues j;
      places = q.places j;
      delivered = q.delivered j;
      closed = q.closed j;
      cast = v.cast j;
      carried = v.carried j;
    };
  };
}

-- ---- step by step

-- how many were submitted
counted_is : {st : State} {n m : ℕ} → Submitted st n m → m ≡ submitted_in st.parts.places n
unfolding submitted_in sum_below
counted_is none = refl
counted_is {st = st} (placed {n = n} r l) = rw (lt-ltb 0 (place_of st n) l, add-one) (ap suc (counted_is r))
counted_is {st = st} (other {n = n} r e) = rw (e, add-zero) (counted_is r)

module _ (st : State) (h : usable st ≡ true) where
  abbrev T : Tables
  T = st.tables

  -- the vote of s on t
  vote_same : {s t v w : ℕ} → Votes st s t v → Votes st s t w → v ≡ w
  vote_same {s} {t} p q = elim (bool (votes T t s)) [
    | inr e ↦ let n = (fails (voter_says T t s)).0 e in via (p.none n) (q.none n)
    | inl e ↦
        let i = (voter_says T t s).0 e in
        elim (p.some i) [
          | inl a ↦ via a ((q.yes i).1 ((p.yes i).0 a))
          | inr a ↦ elim (q.some i) [ inl b ↦ via ((p.yes i).1 ((q.yes i).0 b)) b | inr b ↦ via a b ]
        ]
  ]

  -- the stores of a commit
  stored_same : {x y : State} {s t : ℕ} → Stores st x s t → Stores st y s t → SameStores y x
  stored_same {x} {y} {s} {t} p q = record {
    versions = ext_get_or (version 0) x.parts.versions y.parts.versions (via p.long.0 q.long.0) (λ j b. let e : j ≡ j / 64 * 64 + j % 64 = omega arith in
        rw e (λ i. record { 0 = (cells (j / 64) (j % 64) (omega arith)).0 i }));
    values = ext_get_or 0 x.parts.values y.parts.values (via p.long.1 q.long.1) (λ j b. let e : j ≡ j / 64 * 64 + j % 64 = omega arith in rw e (cells (j / 64) (j % 64) (omega arith)).1);
  }
    where
      cells : (r k : ℕ) → k < 64 → (version_at x r k ≡ version_at y r k) × (value_at x r k ≡ value_at y r k)
      cells r k b = elim (bool (eqb r s && (in_row (write_row T t) (write_count T t) k && holds T s k))) [
        | inl e ↦
            let (c, w) = changed.0 e in
            let (i, l, d) = w.0 in
            let o = subst (λ k. holds T s k ≡ true) (sym d) w.1 in
            subst (λ r. (version_at x r k ≡ version_at y r k) × (value_at x r k ≡ value_at y r k)) (sym c)
            (subst (λ k. (version_at x s k ≡ version_at y s k) × (value_at x s k ≡ value_at y s k)) d
            (via (p.raised i l o).0 (q.raised i l o).0, via (p.raised i l o).1 (q.raised i l o).1))
        | inr e ↦
            let n : (r ≡ s) × Writes T t k × Holds T s k → ⊥ = λ w. (fails changed).0 e (w.0, (w.1, w.2)) in
            (via (p.others r k b n).0 (q.others r k b n).0, via (p.others r k b n).1 (q.others r k b n).1)
      ]
        where
          changed : Says (eqb r s && (in_row (write_row T t) (write_count T t) k && holds T s k)) ((r ≡ s) × (Writes T t k × Holds T s k))
          changed = and_says (eq_says r s) (and_says (row_says (write_row T t) (write_count T t) k) Iff.rfl)

  read_same : {t i s : ℕ} {a b : Answered} {n o : State} → n.tables ≡ o.tables → DoesRead st t i s a n → DoesRead st t i s b o → answering a n ≡ answering b o
  read_same e p q = made (via p.answered q.answered) e (stores_left p.stores q.stores) (record {
    recorded = only_same refl refl p.recorded q.recorded;
    readversions = only_same refl refl p.readversions q.readversions;
    readvalues = only_same refl refl p.readvalues q.readvalues;
  }) (queues_left p.queues q.queues) (votes_left p.votes q.votes)

  submit_same : {t : ℕ} {a b : Answered} {n o : State} → n.tables ≡ o.tables → DoesSubmit st t a n → DoesSubmit st t b o → answering a n ≡ answering b o
  submit_same e p q =
      let c : p.count ≡ q.count = via (counted_is p.counted) (counted_is q.counted) in
      made (p.answered ∙ ap (λ c. Ok (answer.Submitted (place (suc c)))) c ∙ sym q.answered) e (stores_left p.stores q.stores) (reads_left p.reads q.reads) (record {
        places = only_same refl (ap (λ c. place (suc c)) c) p.places q.places;
        delivered = via p.delivered q.delivered;
        closed = via p.closed q.closed;
      }) (votes_left p.votes q.votes)

  deliver_same : {s : ℕ} {a b : Answered} {n o : State} → n.tables ≡ o.tables → DoesDeliver st s a n → DoesDeliver st s b o → answering a n ≡ answering b o
  deliver_same {s} e p q =
      let low = (usable_has st h).txns in
      let t : p.txn ≡ q.txn = sym ((next_says st low s p.txn).1 p.may.0).0 ∙ ((next_says st low s q.txn).1 q.may.0).0 in
      let v : p.vote ≡ q.vote = vote_same p.votes (subst (λ t. Votes st s t q.vote) (sym t) q.votes) in
      let i : p.txn * 16 + s ≡ q.txn * 16 + s = ap (λ t. t * 16 + s) t in
      made (p.answered ∙ (λ j. Ok (answer.Delivered (t j) (v j))) ∙ sym q.answered) e (stores_left p.stores q.stores) (reads_left p.reads q.reads) (record {
        places = via p.places q.places;
        delivered = only_same i refl p.delivered q.delivered;
        closed = via p.closed q.closed;
      }) (record { cast = only_same i v p.cast q.cast; carried = via p.carried q.carried })

  carry_same : {t from to : ℕ} {a b : Answered} {n o : State} → n.tables ≡ o.tables → DoesCarry st t from to a n → DoesCarry st t from to b o → answering a n ≡ answering b o
  carry_same {t} {from} e p q = made (via p.answered q.answered) e (stores_left p.stores q.stores) (reads_left p.reads q.reads) (queues_left p.queues q.queues) (record {
    cast = via p.cast q.cast;
    carried = only_same refl (members (p.held + q.held) p.held q.held (omega arith) (omega arith) (λ f. elim (same f from) [
      | inl d ↦ rw d (via p.given q.given)
      | inr d ↦ via (p.others f d) (q.others f d)
    ])) p.carried q.carried;
  })

  close_same : {t s : ℕ} {a b : Answered} {n o : State} → n.tables ≡ o.tables → DoesClose st t s a n → DoesClose st t s b o → answering a n ≡ answering b o
  close_same {t} {s} {n = n} {o} e p q =
      let v : p.verdict ≡ q.verdict = via (known p.does) (known q.does) in
      made (p.answered ∙ ap (λ c. Ok (answer.Closed c)) v ∙ sym q.answered) e (left p.does q.does) (reads_left p.reads q.reads) (record {
        places = via p.places q.places;
        delivered = via p.delivered q.delivered;
        closed = only_same refl v p.closed q.closed;
      }) (votes_left p.votes q.votes)
    where
      Either : ℕ → State → Type 0
      Either v x = ((v ≡ 1) × MayCommit st s t × Stores st x s t) ⊎ ((v ≡ 2) × Aborts st s t × SameStores st x)

      known : {v : ℕ} {x : State} → Either v x → v ≡ verdict st t s
      known (inl w) = via w.0 ((commits_says st s t).1 w.1.0)
      known (inr w) = via w.0 ((aborts_says st s t).1 w.1)

      left : {v w : ℕ} → Either v n → Either w o → SameStores o n
      left (inl a) (inl b) = stored_same a.2 b.2
      left (inl a) (inr b) = absurd (omega (arith, (commits_says st s t).1 a.1.0, (aborts_says st s t).1 b.1))
      left (inr a) (inl b) = absurd (omega (arith, (commits_says st s t).1 b.1.0, (aborts_says st s t).1 a.1))
      left (inr a) (inr b) = stores_left a.2 b.2

  -- what a step other than SETTLE does
  does_same : (x : Step) {a b : Answered} {n o : State} → Does st x a n → Does st x b o → answering a n ≡ answering b o
  does_same (step.Read t i s) p q = read_same (via p.0 q.0) p.1 q.1
  does_same (step.Submit t) p q = submit_same (via p.0 q.0) p.1 q.1
  does_same (step.Deliver s) p q = deliver_same (via p.0 q.0) p.1 q.1
  does_same (step.Carry t from to) p q = carry_same (via p.0 q.0) p.1 q.1
  does_same (step.Close t s) p q = close_same (via p.0 q.0) p.1 q.1
  does_same step.Settle p q = absurd p.1

-- ---- SETTLE

-- there is one first step
first-same : {st : State} {x y : Step} → First st x → First st y → x ≡ y
first-same {st} (close t s p a b) (close u r q c d) = elim (lower s r) [
  | inl l ↦ absurd (c t s l p)
  | inr (inr l) ↦ absurd (a u r l q)
  | inr (inl e) ↦ elim (sooner (place_of st) t u) [
    | inl l ↦ absurd (d t l (subst (λ s. Permits st (step.Close t s)) e p))
    | inr (inl f) ↦ λ j. step.Close (f j) (e j)
    | inr (inr l) ↦ absurd (b u l (subst (λ s. Permits st (step.Close u s)) (sym e) q))
  ]
]
first-same (close t s p a b) (deliver r n q c) = absurd (n t s p)
first-same (close t s p a b) (carry u g r n m q c) = absurd (n t s p)
first-same (deliver s n p a) (close u r q c d) = absurd (n u r q)
first-same (deliver s n p a) (deliver r m q c) = elim (lower s r) [ inl l ↦ absurd (c s l p) | inr (inl e) ↦ ap step.Deliver e | inr (inr l) ↦ absurd (a r l q) ]
first-same (deliver s n p a) (carry u g r k m q c) = absurd (m s p)
first-same (carry t f s n m p a) (close u r q c d) = absurd (n u r q)
first-same (carry t f s n m p a) (deliver r k q c) = absurd (m r q)
first-same {st} (carry t f s n m p a) (carry u g r k l q c) = elim (sooner (place_of st) t u) [
  | inl i ↦ absurd (c t f s (inl i) p)
  | inr (inr i) ↦ absurd (a u g r (inl i) q)
  | inr (inl e) ↦ elim (lower f g) [
    | inl i ↦ absurd (c t f s (inr (e, inl i)) p)
    | inr (inr i) ↦ absurd (a u g r (inr (sym e, inl i)) q)
    | inr (inl d) ↦ elim (lower s r) [
      | inl i ↦ absurd (c t f s (inr (e, inr (d, i))) p)
      | inr (inr i) ↦ absurd (a u g r (inr (sym e, inr (sym d, i))) q)
      | inr (inl b) ↦ λ j. step.Carry (e j) (d j) (b j)
    ]
  ]
]

-- it is permitted, and none is where SETTLE is over
first_permits : {st : State} {x : Step} → First st x → Permits st x
first_permits (close t s p a b) = p
first_permits (deliver s n p a) = p
first_permits (carry t f s n m p a) = p

none_first : {st : State} {x : Step} → NoClose st → NoDeliver st → NoCarry st → First st x → ⊥
none_first n m k (close t s p a b) = n t s p
none_first n m k (deliver s c p a) = m s p
none_first n m k (carry t f s c d p a) = k t f s p

-- and leaves a usable state with the same arrays
first_keeps : {st : State} {x : Step} → First st x → Arrays st → usable st ≡ true → Arrays (done st x).next × (usable (done st x).next ≡ true)
unfolding done
first_keeps {st} (close t s p a b) z h = (after_arrays st (todo.Close t s) z, after_usable st (todo.Close t s) h)
first_keeps {st} (deliver s n p a) z h = (after_arrays st (todo.Deliver s) z, after_usable st (todo.Deliver s) h)
first_keeps {st} (carry t f s n m p a) z h = (after_arrays st (todo.Carry t f s) z, after_usable st (todo.Carry t f s) h)

first_other : {st : State} {x : Step} → First st x → x ≡ step.Settle → ⊥
first_other (close t s p a b) e = differ (cc)
first_other (deliver s n p a) e = differ (cc)
first_other (carry t f s n m p a) e = differ (cc)

settling_same : {st n_end : State} {n : ℕ} → Settling st n n_end → Arrays st → usable st ≡ true → {m : ℕ} {m_end : State} → Settling st m m_end → (n ≡ m) × (n_end ≡ m_end)
settling_same (over a b c) z h (over d e f) = (refl, refl)
settling_same (over a b c) z h (go k f d r) = absurd (none_first a b c f)
settling_same (go k f d r) z h (over a b c) = absurd (none_first a b c f)
settling_same {st} (go {next = next} {x = x} a f d r) z h (go {next = onward} {end = end} {x = y} {n = m} b g e q) =
    let c = does_same st h x d (subst (λ x. Does st x b onward) (first-same g f) e) in
    let w = does_same st h x d (does st z h x ((permitted st h x).1 (first_permits f)) (first_other f)) in
    let (k, u) = first_keeps f z h in
    let back : (done st x).next ≡ next = sym (ap (λ (r : Stepped). r.next) w) in
    let (i, l) = settling_same r (subst (λ (s : State). Arrays s) back k) (subst (λ (s : State). usable s ≡ true) back u)
    (subst (λ (s : State). Settling s m end) (sym (ap (λ (r : Stepped). r.next) c)) q) in
    (ap suc i, l)

-- any two results that the protocol allows coincide, in the answer and in every part of the next state
pub determined : (st : State) → Arrays st → usable st ≡ true → (x : Step) (a b : Answered) (n o : State)
    → Protocol st x a n → Protocol st x b o → answering a n ≡ answering b o
determined st z h (step.Read t i s) a b n o p q = does_same st h (step.Read t i s) p q
determined st z h (step.Submit t) a b n o p q = does_same st h (step.Submit t) p q
determined st z h (step.Deliver s) a b n o p q = does_same st h (step.Deliver s) p q
determined st z h (step.Carry t from to) a b n o p q = does_same st h (step.Carry t from to) p q
determined st z h (step.Close t s) a b n o p q = does_same st h (step.Close t s) p q
determined st z h step.Settle a b n o p q =
    let (e, d) = settling_same p.2 z h q.2 in
    λ j. record { answer = (p.1 ∙ ap (λ c. Ok (answer.Settled c)) e ∙ sym q.1) j; next = d j }
