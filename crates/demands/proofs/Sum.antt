-- SETTLE's sum: from a state reached from fresh it closes all submitted transactions at all their sites, in exactly the steps of document 01.
-- Assumes nothing.
use Prim.Native.Nat.{ℕ, ◌+◌, ◌*◌, ◌-◌, ◌≤◌, ◌<◌}
use mathlib.Core.Path.{◌≡◌, refl, sym, ap, subst, ◌∙◌}
use mathlib.Core.Bool.{Bool, true, false, ◌&&◌, not, cond}
use mathlib.Core.Logic.{inl, inr}
use mathlib.Core.List.{List}
use native.Mathlib.Omega.{arith}
use native.Mathlib.Nat.{mul-le-mul_right}
use lib.Dec.{eqb, ltb}
use borrow.Author.Tests.{eq-eqb, ne_eqb, ltb-false, lt-ltb}
use Rattle.bounded.specs.Bounded.{sum_below, count_below}
use Rattle.bounded.proofs.Truth.{bool, clash, same, and-false}
use Rattle.bounded.proofs.Laws.{sum_same, sum_most}
use Rattle.keys.specs.Keys.{member}
use Rattle.tables.specs.Sites.{site_count}
use Rattle.tables.specs.Concern.{concerns, votes, local}
use Rattle.tables.specs.Judge.{judge}
use Rattle.tables.specs.declared.Tables.{Tables}
use Rattle.steps.specs.declared.Step.{Step}
use Rattle.steps.specs.declared.Step.TheVariants as step
use Rattle.refusals.specs.Refusals.{refusal_in}
use Rattle.machine.specs.Parts.{place_of, delivered_at, closed_at, carried_to}
use Rattle.machine.specs.Usable.{usable}
use Rattle.machine.specs.Settle.{settle_done}
use Rattle.machine.specs.Steps.{done, decided, step_of}
use Rattle.machine.specs.Fresh.{fresh_of}
use Rattle.machine.specs.declared.State.{State}
use Rattle.machine.specs.declared.Stepped.{Stepped}
use Rattle.listing.specs.Run.{end_of}
use Rattle.onecopy.specs.View.{View}
use Rattle.onecopy.proofs.Base.{sum-zero}
use Rattle.onecopy.proofs.Count.{tick, Count, todo}
use Rattle.onecopy.proofs.Formula.{sum-add, size_r, size_v, part_done, hand_done, row_done, whole, formula}
use Rattle.onecopy.proofs.Counter.{counter}
use Rattle.onecopy.proofs.World.{count, Reached, Holds, holds}
use Rattle.onecopy.proofs.Settle as Theory
use Rattle.demands.specs.View.{table_of}
use Rattle.demands.specs.Settle.{steps_on, done_on, steps_in_all, steps_done, Settles}
use Rattle.demands.proofs.Tables.{Taken, taken}
use Rattle.demands.proofs.Cells.{cell_in}
use Rattle.demands.proofs.View.{fit, known, reader, seat, kept, voter_of, inv_of, voter_of_lem, view_of, plan_of, world_of}
use Rattle.demands.proofs.Handed.{Handed, carried}
use Rattle.demands.proofs.Settle.{Stands, settle_run, settle_over}
use Rattle.demands.proofs.Reached.{stands}

module _ (st : State) (g : Taken st.tables) (k : Handed st.tables st) (r : Reached (plan_of st.tables) (world_of st.tables st)) where
  abbrev T : Tables
  T = st.tables

  abbrev v : View
  v = view_of T st

  abbrev n : Count
  n = count (plan_of T) (world_of T st)

  w : Holds (plan_of T) (world_of T st)
  w = holds (plan_of T) r

  abbrev N : ℕ
  N = site_count T

  -- |R| and |V| are the theory's
  whole_is : (t : ℕ) → t < T.txns → whole (table_of T) n t ≡ steps_on T t
  unfolding steps_on size_r size_v
  whole_is t l = rw (lt-ltb t T.txns l)

  -- what is done is counted by the flags
  near : (s : ℕ) → s < N → s < 16
  near s l = omega (arith, g.sites)

  delivered_is : (t s : ℕ) → s < N → tick (concerns T t s && v.delivered s t) ≡ cond (delivered_at st t s) 1 0
  delivered_is t s l = elim (bool (v.delivered s t)) [
    | inl e ↦ rw (e, (inv_of T st w).delivered_concerns s t e, sym (cell_in 16 false st.parts.delivered t s (near s l)) ∙ e)
    | inr e ↦ rw (e, and-false (concerns T t s), sym (cell_in 16 false st.parts.delivered t s (near s l)) ∙ e)
  ]

  closed_is : (t s : ℕ) → s < N → tick (concerns T t s && not (eqb (v.closed s t) 0)) ≡ cond (ltb 0 (closed_at st t s)) 1 0
  closed_is t s l = rw (cell_in 16 0 st.parts.closed t s (near s l)) (elim (same (closed_at st t s) 0) [
    | inl e ↦ rw (e, and-false (concerns T t s))
    | inr e ↦
        let i = inv_of T st w in
        let c : concerns T t s ≡ true = i.delivered_concerns s t (i.closed_delivered s t (rw (cell_in 16 0 st.parts.closed t s (near s l)) (omega arith))) in
        rw (c, ne_eqb (closed_at st t s) 0 e, lt-ltb 0 (closed_at st t s) (omega arith))
  ])

  -- a vote that was carried is held
  carried_held : (t f a : ℕ) → carried st t f a ≡ true → v.held t f a ≡ true
  carried_held t f a c = rw (ne_eqb f a (k.differ t f a c)) c

  is_carried : (t f a : ℕ) → a < N → carried st t f a ≡ member (carried_to st t a) f
  is_carried t f a l = ap (λ m. member m f) (cell_in 16 0 st.parts.carried t a (near a l))

  hand_is : (t f a : ℕ) → a < N → hand_done (table_of T) n v t f a ≡ cond (member (carried_to st t a) f) 1 0
  hand_is t f a l = elim (bool (carried st t f a)) [
    | inl c ↦ rw (
      voter_of_lem T st w f t ((inv_of T st w).held_cast t f a (carried_held t f a c)),
      k.concerned t f a c,
      ne_eqb f a (k.differ t f a c),
      c,
      sym (is_carried t f a l) ∙ c,
    )
    | inr c ↦ rw (sym (is_carried t f a l) ∙ c) (elim (same f a) [
      | inl e ↦ rw (eq-eqb f a e, and-false (voter_of T f t && concerns T t a))
      | inr e ↦ rw (ne_eqb f a e, c, and-false (voter_of T f t && concerns T t a))
    ])
  ]

  abbrev hands : ℕ → ℕ
  hands t = sum_below N (λ f. count_below N (λ s. member (carried_to st t s) f))

  hands_are : (t : ℕ) → cond (local T t) 0 (sum_below N (λ f. sum_below N (hand_done (table_of T) n v t f))) ≡ hands t
  hands_are t = elim (bool (local T t)) [
    | inl e ↦ rw e (sym (sum-zero N (λ f. count_below N (λ s. member (carried_to st t s) f)) (λ f _. sum-zero N (λ s. cond (member (carried_to st t s) f) 1 0) (λ s l.
        elim (bool (carried st t f s)) [
          | inl c ↦ clash e (k.global t f s c)
          | inr c ↦ rw (sym (is_carried t f s l) ∙ c)
        ]))))
    | inr e ↦ rw e (sum_same N (λ f. sum_below N (hand_done (table_of T) n v t f)) (λ f. count_below N (λ s. member (carried_to st t s) f))
        (λ f _. sum_same N (hand_done (table_of T) n v t f) (λ s. cond (member (carried_to st t s) f) 1 0) (λ a l. hand_is t f a l)))
  ]

  parts_are : (t : ℕ) → sum_below N (part_done (table_of T) v t) ≡ count_below N (λ s. delivered_at st t s) + count_below N (λ s. ltb 0 (closed_at st t s))
  parts_are t =
      sum_same N (part_done (table_of T) v t) (λ s. cond (delivered_at st t s) 1 0 + cond (ltb 0 (closed_at st t s)) 1 0) (λ s l. rw (delivered_is t s l, closed_is t s l))
      ∙ sym (sum-add N (λ s. cond (delivered_at st t s) 1 0) (λ s. cond (ltb 0 (closed_at st t s)) 1 0))

  row_is : (t : ℕ) → row_done (table_of T) n v t ≡ done_on st t
  unfolding row_done done_on
  row_is t = rw (parts_are t, hands_are t)

  -- nothing is done on a transaction that has no place
  pub idle : (t : ℕ) → place_of st t ≡ 0 → done_on st t ≡ 0
  unfolding done_on
  idle t e = rw (
    sum-zero N (λ s. cond (delivered_at st t s) 1 0) (λ s l. rw (sym (cell_in 16 false st.parts.delivered t s (near s l)) ∙ undelivered s)),
    sum-zero N (λ s. cond (ltb 0 (closed_at st t s)) 1 0) (λ s l. rw (sym (cell_in 16 0 st.parts.closed t s (near s l)) ∙ unclosed s)),
    sum-zero N (λ f. count_below N (λ s. member (carried_to st t s) f)) (λ f _. sum-zero N (λ s. cond (member (carried_to st t s) f) 1 0) (λ s l. rw (sym (is_carried t f s l) ∙ uncarried f s))),
  )
    where
      undelivered : (s : ℕ) → v.delivered s t ≡ false
      undelivered s = elim (bool (v.delivered s t)) [ inl d ↦ absurd (omega (arith, (inv_of T st w).delivered_placed s t d)) | inr d ↦ d ]

      unclosed : (s : ℕ) → v.closed s t ≡ 0
      unclosed s = elim (same (v.closed s t) 0) [ inl d ↦ d | inr d ↦ clash ((inv_of T st w).closed_delivered s t (omega arith)) (undelivered s) ]

      uncarried : (f s : ℕ) → carried st t f s ≡ false
      uncarried f s = elim (bool (carried st t f s)) [
        | inl c ↦ clash ((inv_of T st w).cast_delivered f t ((inv_of T st w).held_cast t f s (carried_held t f s c))) (undelivered f)
        | inr c ↦ c
      ]

  -- what is left and what is done come to the sum
  pub sums : todo (table_of T) n v + steps_done st ≡ steps_in_all st
  unfolding world_of counter
  sums =
      ap (λ x. todo (table_of T) n v + x) (sym done_are)
      ∙ formula (table_of T) (fit T) n v (λ _. refl) (λ f t e. let (k, d, h) = seat T f t e in reader T f t k d h)
      ∙ sum_same T.txns (λ t. cond (ltb 0 (place_of st t)) (whole (table_of T) n t) 0) (λ t. cond (ltb 0 (place_of st t)) (steps_on T t) 0) (λ t l. ap (λ x. cond (ltb 0 (place_of st t)) x 0) (whole_is t l))
    where
      done_are : sum_below T.txns (λ t. cond (ltb 0 (place_of st t)) (row_done (table_of T) n v t) 0) ≡ steps_done st
      done_are = sum_same T.txns (λ t. cond (ltb 0 (place_of st t)) (row_done (table_of T) n v t) 0) (done_on st) (λ t l. elim (bool (ltb 0 (place_of st t))) [
        | inl e ↦ rw e (row_is t)
        | inr e ↦ rw e (sym (idle t (omega (arith, ltb-false 0 (place_of st t) e))))
      ])

-- on a usable state SETTLE is never refused
settle_is : (st : State) → usable st ≡ true → step_of st step.Settle ≡ settle_done st
unfolding step_of decided refusal_in done
settle_is st h = rw h

here : (st : State) → Taken st.tables → Stands st.tables st → Settles st
unfolding world_of counter
here st g h =
    let T = st.tables in
    let q = settle_run T g st h in
    let (m, c) = Theory.settle (plan_of T) h.reached (kept T g) q.runs (settle_over T g st h) in
    record {
      steps = q.steps;
      answers = ap (λ (r : Stepped). r.answer) (settle_is st h.whole.usable) ∙ q.answers;
      sum = omega (arith, m, sums st g h.handed h.reached);
      closes = λ t s p e. rw (settle_is st h.whole.usable) (subst (λ x. 0 < x) (cell_in 16 0 (settle_done st).next.parts.closed t s (omega (arith, g.sites, known T s t e))) (c s t e (lt-ltb 0 (place_of st t) p)));
    }

pub stands_settles : (T : Tables) → Taken T → (st : State) → Stands T st → Settles st
stands_settles T g st h = subst (λ (T : Tables). Taken T → Stands T st → Settles st) h.whole.tables (here st) g h

-- SETTLE from every state reached from fresh
pub every_settle : (T : Tables) → judge T ≡ 0 → (l : List Step) → Settles (end_of (fresh_of T).state l)
every_settle T e l = stands_settles T (taken T e) (end_of (fresh_of T).state l) (stands T e l)

-- the most per transaction is 272
pub most_steps : (T : Tables) → judge T ≡ 0 → (t : ℕ) → steps_on T t ≤ 272
unfolding steps_on
most_steps T e t = by (local T t)
  where
    few : (p : ℕ → Bool) → count_below (site_count T) p ≤ 16
    few p = omega (arith, (taken T e).sites, sum_most (site_count T) 1 (λ i. cond (p i) 1 0) (λ i l. one (p i)))
      where
        one : (b : Bool) → cond b 1 0 ≤ 1
        one true = omega arith
        one false = omega arith

    all : ℕ
    all = count_below (site_count T) (concerns T t)

    voters : ℕ
    voters = count_below (site_count T) (votes T t)

    by : (b : Bool) → 2 * all + cond b 0 (voters * (all - 1)) ≤ 272
    by true = omega (arith, few (concerns T t))
    by false =
        let a : all - 1 ≤ 15 = omega (arith, few (concerns T t)) in
        omega (arith, few (concerns T t), mul-le-mul_right (all - 1) (few (votes T t)), a)

-- and of all transactions at most 34,816
pub most_in_all : (st : State) → judge st.tables ≡ 0 → steps_in_all st ≤ 34816
most_in_all st e = omega (
  arith,
  (taken st.tables e).txns,
  sum_most st.tables.txns 272 (λ t. cond (ltb 0 (place_of st t)) (steps_on st.tables t) 0) (λ t l. by (ltb 0 (place_of st t)) (most_steps st.tables e t)),
)
  where
    by : (b : Bool) {x : ℕ} → x ≤ 272 → cond b x 0 ≤ 272
    by true h = h
    by false h = omega arith
