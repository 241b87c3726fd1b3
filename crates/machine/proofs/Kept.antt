-- A fresh state is usable, and a usable state stays so, whatever step is taken.
-- Assumes nothing.
use Rattle.std.proofs.Common.{ℕ, zero, suc, ◌+◌, ◌-◌, ◌≤◌, ◌<◌, ◌≡◌, refl, ap, ◌∙◌, Bool, true, false, ◌&&◌, ◌||◌, cond, inl, inr, List, arith, eqb, leb, ltb, set, length, length-set, replicate, get_or-set_same, get_or-set_other, eqb-true, le-leb, leb-false, ltb-true, ltb-false}
use Rattle.std.proofs.lemmas.List.{length-replicate, get_or-replicate}
use Rattle.std.proofs.lemmas.Bool.{eqb-false}
use Rattle.queues.specs.Queue.{submitted_in}
use Rattle.parts.specs.Cells.{place_in}
use Rattle.bounded.specs.Bounded.{all_below, sum_below, first_of}
use Rattle.bounded.proofs.Truth.{and-true, and_put, or-false, bool, same, passed}
use Rattle.bounded.proofs.Laws.{else-none, of_none, all_get, all_put, count_short}
use Rattle.steps.specs.Kinds.{place}
use Rattle.steps.specs.declared.Place.{Place}
use Rattle.steps.specs.declared.Step.{Step}
use Rattle.steps.specs.declared.Step.TheVariants.{Read, Submit, Deliver, Carry, Close, Settle}
use Rattle.tables.specs.Empty.{no_tables}
use Rattle.tables.specs.Lists.{present, twice, read_count, write_count, read_row, write_row}
use Rattle.tables.specs.Sites.{sites_in, site_count}
use Rattle.tables.specs.Judge.{keys_refusal, size_refusal, group_refusal, count_refusal, key_refusal, txn_refusal, judge}
use Rattle.tables.specs.declared.Group.{Group}
use Rattle.tables.specs.declared.Tables.{Tables}
use Rattle.tables.proofs.Laws.{count_low, groups_low}
use Rattle.rules.specs.Fit.{counts_fit, row_fits, txn_fits, txns_fit, places_fit}
use Rattle.refusals.specs.Refusals.{submit_refusal_in, refusal_in}
use Rattle.machine.specs.Parts.{place_of, with_closed}
use Rattle.machine.specs.Rules.{verdict}
use Rattle.machine.specs.Usable.{usable}
use Rattle.machine.specs.Refusals.{submit_refusal, refusal}
use Rattle.machine.specs.Effects.{read_done, submit_done, deliver_done, carry_done, close_done, committed}
use Rattle.machine.specs.Settle.{todo, after, most, settle_for, settle_done}
use Rattle.machine.specs.Fresh.{start_of, fresh_of}
use Rattle.machine.specs.Steps.{refused, done, decided, step_of}
use Rattle.machine.specs.declared.State.{State}
use Rattle.search.specs.Search.{Todo}
use Rattle.search.specs.Search as todo
use Rattle.machine.proofs.Laws.{usable_has}
use Rattle.machine.proofs.Settle.{after_usable}
use Rattle.machine.proofs.Ends.{settle_usable}

-- where one of n has no place, fewer than n have one
few_placed : (places : List Place) (n t : ℕ) → t < n → place_in places t ≡ 0 → submitted_in places n < n
unfolding submitted_in
few_placed places n t l e = count_short n t (λ i. ltb 0 (place_in places i)) l (rw e)

-- a place of at most 128 for t keeps the places fit
place_fits : (places : List Place) (n t p : ℕ) → t < length places → p ≤ 128 → places_fit places n ≡ true → places_fit (set places t (place p)) n ≡ true
unfolding places_fit
place_fits places n t p l b h = all_put n (λ i. leb (place_in (set places t (place p)) i) 128) (λ i k. elim (same i t) [
  | inl e ↦
      let q : place_in (set places t (place p)) i ≡ p = rw e (ap (λ (x : Place). x.0) (get_or-set_same places t (place p) (place 0) l)) in
      le-leb (place_in (set places t (place p)) i) 128 (omega arith)
  | inr d ↦
      let q : place_in (set places t (place p)) i ≡ place_in places i = ap (λ (x : Place). x.0) (get_or-set_other places t i (place p) (place 0) d) in
      rw q (all_get n (λ i. leb (place_in places i) 128) h i k)
])

submit_usable : (st : State) (t : ℕ) → length st.parts.places ≡ 128 → usable st ≡ true → submit_refusal st t ≡ 0 → usable (submit_done st t).next ≡ true
unfolding usable submit_done submit_refusal_in
submit_usable st t z h e =
    let u = usable_has st h in
    let T = st.tables in
    let (a, e1) = passed 20 (omega arith) (leb T.txns t) _ e in
    let l : t < T.txns = leb-false T.txns t a in
    let p : place_of st t ≡ 0 = omega (arith, ltb-false 0 (place_of st t) (passed 24 (omega arith) (ltb 0 (place_of st t)) _ e1).0) in
    let (c, r) = and-true (counts_fit T.keys T.groups T.group T.txns) (txns_fit T.keys T.txn T.txns && places_fit st.parts.places T.txns) h in
    let (x, f) = and-true (txns_fit T.keys T.txn T.txns) (places_fit st.parts.places T.txns) r in
    and_put _ _ c (and_put _ _ x (place_fits st.parts.places T.txns t (submitted_in st.parts.places T.txns + 1) (omega (arith, u.txns)) (omega (arith, u.txns, few_placed st.parts.places T.txns t l p)) f))

done_usable : (st : State) (x : Step) → length st.parts.places ≡ 128 → usable st ≡ true → refusal st x ≡ 0 → usable (done st x).next ≡ true
unfolding done refusal_in settle_done
done_usable st (Read t i s) z h e = unfold usable read_done in h
done_usable st (Submit t) z h e = submit_usable st t z h e
done_usable st (Deliver s) z h e = after_usable st (todo.Deliver s) h
done_usable st (Carry t from to) z h e = after_usable st (todo.Carry t from to) h
done_usable st (Close t s) z h e = after_usable st (todo.Close t s) h
done_usable st Settle z h e = settle_usable most 0 st h

-- whatever step is taken
pub step_usable : (st : State) (x : Step) → length st.parts.places ≡ 128 → usable st ≡ true → usable (decided st x).next ≡ true
unfolding decided
step_usable st x z h = by (eqb (refusal st x) 0) refl
  where
    by : (b : Bool) → eqb (refusal st x) 0 ≡ b → usable (cond b (done st x) (refused st (refusal st x))).next ≡ true
    by true e = done_usable st x z h (eqb-true (refusal st x) 0 e)
    by false e = h

-- ---- fresh

-- of a row that no judgement refuses
row_fits_lem : (keys : ℕ) (row : List ℕ) (n : ℕ) → n ≤ 8 → present row n keys ≡ true → twice row n ≡ false → row_fits keys row n ≡ true
unfolding row_fits
row_fits_lem keys row n l p q = rw (le-leb n 8 l, p, q)

txn_fits_lem : (T : Tables) (t : ℕ) → txn_refusal T t ≡ 0 → (t < 128) × (txn_fits T.keys T.txn t ≡ true)
unfolding txn_refusal key_refusal txn_fits
txn_fits_lem T t h =
    let (c, k) = else-none (count_refusal t (read_count T t) (write_count T t)) _ h in
    let (r, w) = count_low t (read_count T t) (write_count T t) c in
    let pr = present (read_row T t) (read_count T t) T.keys in
    let pw = present (write_row T t) (write_count T t) T.keys in
    let (p, d) = kept (pr && pw) (twice (read_row T t) (read_count T t) || twice (write_row T t) (write_count T t)) k in
    let (a, b) = and-true pr pw p in
    let (x, y) = or-false (twice (read_row T t) (read_count T t)) (twice (write_row T t) (write_count T t)) d in
    (low c, and_put _ _ (row_fits_lem T.keys (read_row T t) (read_count T t) r a x) (row_fits_lem T.keys (write_row T t) (write_count T t) w b y))
  where
    kept : (p q : Bool) → ◌≡◌ {A = ℕ} (cond p (cond q 6 0) 5) 0 → (p ≡ true) × (q ≡ false)
    kept true true e = absurd (omega arith)
    kept true false e = (refl, refl)
    kept false q e = absurd (omega arith)

    low : count_refusal t (read_count T t) (write_count T t) ≡ 0 → t < 128
    low c = unfold count_refusal in leb-false 128 t (or-false (leb 128 t) _ (passed 5 (omega arith) _ 0 c).0).0

-- a group that is not refused leaves at most sixteen sites
sites_low : (keys g size n mask : ℕ) → size_refusal keys g size n mask ≡ 0 → n ≤ 16
unfolding size_refusal
sites_low keys g size n mask h =
    let b = (or-false (leb 8 g) _ (passed 5 (omega arith) _ _ h).0).1 in
    ltb-false 16 n (or-false (ltb 16 n) _ (or-false (eqb size 0) _ b).1).0

counts_fit_lem : (keys groups txns : ℕ) (group : List Group) → keys ≤ 64 → groups ≤ 8 → sites_in group groups ≤ 16 → txns ≤ 128 → counts_fit keys groups group txns ≡ true
unfolding counts_fit
counts_fit_lem keys groups txns group a b c d = rw (le-leb keys 64 a, le-leb groups 8 b, le-leb (sites_in group groups) 16 c, le-leb txns 128 d)

-- tables that the reader takes
pub fresh_usable : (T : Tables) → judge T ≡ 0 → usable (start_of T) ≡ true
unfolding judge usable start_of txns_fit places_fit
fresh_usable T h =
    let (k, h1) = else-none (keys_refusal T.keys) _ h in
    let (z, h2) = else-none (cond (eqb T.groups 0) 3 0) _ h1 in
    let (g, h3) = else-none (first_of T.groups (group_refusal T)) _ h2 in
    let (x, e) = else-none (first_of T.txns (txn_refusal T)) _ h3 in
    let few = txns_few T.txns (λ t l. (txn_fits_lem T t (of_none T.txns (txn_refusal T) x t l)).0) in
    and_put _ _ (counts_fit_lem T.keys T.groups T.txns T.group (keys_few k) (groups_low T T.groups g) (sites_few z g) few)
    (and_put _ _ (all_put T.txns (txn_fits T.keys T.txn) (λ t l. (txn_fits_lem T t (of_none T.txns (txn_refusal T) x t l)).1))
    (all_put T.txns (λ t. leb (place_in (replicate 128 (place 0)) t) 128) (λ t l. nowhere_yet t (omega arith))))
  where
    keys_few : keys_refusal T.keys ≡ 0 → T.keys ≤ 64
    keys_few k = unfold keys_refusal in ltb-false 64 T.keys (or-false (eqb T.keys 0) _ (passed 4 (omega arith) _ 0 k).0).1

    txns_few : (n : ℕ) → ((t : ℕ) → t < n → t < 128) → n ≤ 128
    txns_few n f = elim (bool (ltb 128 n)) [ inl l ↦ absurd (omega (arith, f 128 (ltb-true 128 n l))) | inr l ↦ ltb-false 128 n l ]

    sites_few : ◌≡◌ {A = ℕ} (cond (eqb T.groups 0) 3 0) 0 → first_of T.groups (group_refusal T) ≡ 0 → site_count T ≤ 16
    sites_few z g =
        let p : 0 < T.groups = omega (arith, eqb-false T.groups 0 (passed 3 (omega arith) _ 0 z).0) in
        let q : suc (T.groups - 1) ≡ T.groups = omega arith in
        let r = of_none T.groups (group_refusal T) g (T.groups - 1) (omega arith) in
        rw q at (sites_low _ _ _ (sites_in T.group (suc (T.groups - 1))) _ r)

    nowhere_yet : (t : ℕ) → t < 128 → leb (place_in (replicate 128 (place 0)) t) 128 ≡ true
    nowhere_yet t l =
        let q : place_in (replicate 128 (place 0)) t ≡ 0 = ap (λ (x : Place). x.0) (get_or-replicate 128 t (place 0) (place 0) l) in
        le-leb (place_in (replicate 128 (place 0)) t) 128 (omega arith)

-- what `fresh` gives
pub fresh_runs : (T : Tables) → usable (fresh_of T).state ≡ true
unfolding fresh_of
fresh_runs T = by (eqb (judge T) 0) refl
  where
    none : usable (start_of no_tables) ≡ true
    none = unfold usable start_of no_tables counts_fit txns_fit places_fit all_below sum_below in refl

    by : (b : Bool) → eqb (judge T) 0 ≡ b → usable (start_of (cond b T no_tables)) ≡ true
    by true e = fresh_usable T (eqb-true (judge T) 0 e)
    by false e = none

pub fresh_places : (T : Tables) → length (fresh_of T).state.parts.places ≡ 128
unfolding fresh_of start_of
fresh_places T = length-replicate 128 (place 0)

-- ---- the places are as many as they were

after_places : (st : State) (x : Todo) → (after st x).parts.places ≡ st.parts.places
unfolding deliver_done carry_done close_done committed
after_places st (todo.Close t s) = by (eqb (verdict st t s) 1)
  where
    by : (b : Bool) → (with_closed (cond b (committed st t s) st) t s (verdict st t s)).parts.places ≡ st.parts.places
    by true = refl
    by false = refl
after_places st (todo.Deliver s) = refl
after_places st (todo.Carry t from to) = refl
after_places st todo.Nothing = refl

settle_places : (f n : ℕ) (st : State) → (settle_for f n st).next.parts.places ≡ st.parts.places
unfolding settle_for
settle_places zero n st = refl
settle_places (suc f) n st = by (todo st) refl (settle_places f (n + 1))
  where
    by : (x : Todo) → todo st ≡ x → ((y : State) → (settle_for f (n + 1) y).next.parts.places ≡ y.parts.places) → (settle_for (suc f) n st).next.parts.places ≡ st.parts.places
    by (todo.Close t s) e more = rw (e, settle_for) (more _ ∙ after_places st (todo.Close t s))
    by (todo.Deliver s) e more = rw (e, settle_for) (more _ ∙ after_places st (todo.Deliver s))
    by (todo.Carry t from to) e more = rw (e, settle_for) (more _ ∙ after_places st (todo.Carry t from to))
    by todo.Nothing e more = rw (e, settle_for)

done_places : (st : State) (x : Step) → length (done st x).next.parts.places ≡ length st.parts.places
unfolding done settle_done read_done submit_done
done_places st (Read t i s) = refl
done_places st (Submit t) = simp length-set
done_places st (Deliver s) = rw (after_places st (todo.Deliver s))
done_places st (Carry t from to) = rw (after_places st (todo.Carry t from to))
done_places st (Close t s) = rw (after_places st (todo.Close t s))
done_places st Settle = rw (settle_places most 0 st)

pub step_places : (st : State) (x : Step) → length (decided st x).next.parts.places ≡ length st.parts.places
unfolding decided
step_places st x = by (eqb (refusal st x) 0)
  where
    by : (b : Bool) → length (cond b (done st x) (refused st (refusal st x))).next.parts.places ≡ length st.parts.places
    by true = done_places st x
    by false = refl

-- ---- usable

-- on a usable state a step is decided
pub decides : (st : State) (x : Step) → usable st ≡ true → step_of st x ≡ decided st x
unfolding step_of
decides st x h = rw h
