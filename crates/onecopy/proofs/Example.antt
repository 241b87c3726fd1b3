-- The records of assumptions can be met: a global transaction reads the key of one site and writes the key of another, from fresh to the end.
-- Assumes nothing.
use mathlib.Core.Path.{◌≡◌, refl, sym, subst}
use mathlib.Core.Bool.{Bool, true, false, ◌&&◌, cond}
use mathlib.Core.Logic.{inl}
use Prim.Native.Nat.{ℕ, ◌<◌}
use native.Mathlib.Omega.{arith}
use lib.Dec.{eqb, ltb}
use borrow.Author.Tests.{eqb-true, eq-eqb, ltb-true}
use Rattle.bounded.specs.Bounded.{any_below, sum_below}
use Rattle.bounded.proofs.Truth.{and-true, and_put, clash}
use Rattle.onecopy.specs.Copy.{Table, run, chosen}
use Rattle.onecopy.specs.View.{View, single}
use Rattle.onecopy.specs.Serial.{Serial}
use Rattle.onecopy.proofs.Base.{at1, at2, at3}
use Rattle.onecopy.proofs.Inv.{Fit}
use Rattle.onecopy.proofs.Read.{row, read_v}
use Rattle.onecopy.proofs.Place.{place_v}
use Rattle.onecopy.proofs.Deliver.{deliver_v, carry_v}
use Rattle.onecopy.proofs.Close.{close_v}
use Rattle.onecopy.proofs.Serial.{fresh_v}
use Rattle.onecopy.proofs.Live.{Kept, Stuck}
use Rattle.onecopy.proofs.Count as Count
use Rattle.onecopy.proofs.Count.{todo}
use Rattle.onecopy.proofs.Finish.{Full}
use Rattle.onecopy.proofs.Rules as Rules
use Rattle.onecopy.proofs.Rules.{Rules, base_admission, base_verdicts}
use Rattle.onecopy.proofs.Votes.{Listed, vote_l, by_list}
use Rattle.onecopy.proofs.Ordering as Ord
use Rattle.onecopy.proofs.Counter.{counter}
use Rattle.onecopy.proofs.World.{Plan, World, count, Ends, move, read, submit, ends, Reached, fresh, after, Holds, holds, full, demand3}
use Rattle.onecopy.proofs.Settle.{Runs, none, then, Over, remaining, ends_same, over, settle}
use Rattle.onecopy.proofs.Formula.{size_r, size_v, row_done, formula}

-- site 0 holds key 0, site 1 key 1; transaction 0 reads key 0 and writes key 1
abbrev T1 : Table
T1 = record {
  sites = 2;
  holds = λ s k. ltb s 2 && eqb s k;
  concerns = λ s t. ltb s 2 && eqb t 0;
  reads = λ t k. eqb t 0 && eqb k 0;
  writes = λ t k. eqb t 0 && eqb k 1;
  gives = λ t k. 7;
  first = λ k. 5;
}

fit1 : Fit T1
fit1 = record {
  writer = λ s u k w h. and_put (ltb s 2) (eqb u 0) (and-true (ltb s 2) (eqb s k) h).0 (and-true (eqb u 0) (eqb k 1) w).0;
  known = λ s u h. ltb-true s 2 (and-true (ltb s 2) (eqb u 0) h).0;
}

-- it is global
kept1 : Kept T1 (λ _. false) (λ _. true)
kept1 = record {
  reader = λ s t k r h. and_put (ltb s 2) (eqb t 0) (and-true (ltb s 2) (eqb s k) h).0 (and-true (eqb t 0) (eqb k 0) r).0;
  holder = λ t k r. (0, eq-eqb 0 k (sym (eqb-true k 0 (and-true (eqb t 0) (eqb k 0) r).1)), refl);
  whole = λ s t k l. clash l refl;
}

list1 : Listed T1
list1 = record {
  size = λ t. cond (eqb t 0) 1 0;
  key = λ t i. 0;
  in_list = λ t k r. let (a, b) = and-true (eqb t 0) (eqb k 0) r in (0, rw a (omega arith), sym (eqb-true k 0 b));
  in-reads = λ t i. here (eqb t 0) i;
}
  where
    here : (b : Bool) (i : ℕ) → i < cond b 1 0 → (b && true) ≡ true
    here true i l = refl
    here false i l = absurd (omega arith)

abbrev rules1 : Rules T1
rules1 = record { admission = base_admission T1; verdicts = base_verdicts T1; certify = by_list T1 list1 (λ _ _. 2) (λ _ _. omega arith) }

abbrev P : Plan
P = record {
  table = T1;
  fit = fit1;
  txns = 1;
  local = λ _. false;
  voter = λ s t. eqb s 0 && eqb t 0;
  order = counter T1 1;
  rules = rules1;
  seats = λ s t k r h.
      let (a, b) = and-true (eqb t 0) (eqb k 0) r in
      and_put (eqb s 0) (eqb t 0) (subst (λ j. eqb s j ≡ true) (eqb-true k 0 b) (and-true (ltb s 2) (eqb s k) h).1) a;
  seat = λ f t h. let (a, b) = and-true (eqb f 0) (eqb t 0) h in (0, rw b, rw (eqb-true f 0 a));
}

-- READ, SUBMIT; then DELIVER at both sites, CARRY, and CLOSE at both
abbrev v1 : View
v1 = read_v (fresh_v T1 (λ _. 1) (λ _ _. (0, 0))) 0 (λ k. eqb k 0) 0

abbrev v2 : View
v2 = place_v v1 0 1

abbrev v3 : View
v3 = deliver_v v2 0 0 (Rules.vote_r rules1 v2 0 0)

abbrev v4 : View
v4 = deliver_v v3 1 0 (Rules.vote_r rules1 v3 1 0)

abbrev v5 : View
v5 = carry_v v4 0 0 1

abbrev v6 : View
v6 = close_v T1 v5 0 0 1

abbrev v7 : View
v7 = close_v T1 v6 1 0 1

abbrev at : View → ℕ → World P
unfolding counter
at v n = record { view = v; ord = n }

r2 : Reached P (at v2 1)
unfolding counter fresh_v read_v row
r2 = after (after (fresh (λ _. 1) (λ _ _. (0, 0)))
    (read 0 0 0 (record { fresh = λ k h. refl; holder = λ k h. eq-eqb 0 k (sym (eqb-true k 0 h)) })))
    (submit v2 1 (Ord.submit 0 (omega arith) refl (λ k h. rw h)))

r3 : Ends P (at v2 1) (at v3 1)
unfolding counter fresh_v read_v place_v at1
r3 = move v3 (Rules.deliver 0 0 refl (record { fresh = refl; placed = omega arith; concerned = refl; next = λ u n a l. absurd (omega arith) }) (λ u q _. clash q.0 refl))

r4 : Ends P (at v3 1) (at v4 1)
unfolding counter fresh_v read_v place_v deliver_v at1 at2
r4 = move v4 (Rules.deliver 1 0 refl (record { fresh = refl; placed = omega arith; concerned = refl; next = λ u n a l. absurd (omega arith) }) (λ u q _. clash q.0 refl))

r5 : Ends P (at v4 1) (at v5 1)
unfolding at counter list1 by_list vote_l any_below fresh_v read_v row place_v deliver_v at1 at2 at3
r5 = move v5 (Rules.carry 0 0 1 refl refl (λ e. absurd (omega arith)) (omega arith) refl refl)

-- who has delivered it and holds the yes of site 0 may commit it
commits : (v : View) → Reached P (at v 1) → (s : ℕ) → v.delivered s 0 ≡ true → v.closed s 0 ≡ 0 → v.held 0 0 s ≡ true → v.cast 0 0 ≡ 1 → v.order.place 0 ≡ 1
    → Ends P (at v 1) (at (close_v T1 v s 0 1) 1)
unfolding at counter
commits v r s d o h y p = move (close_v T1 v s 0 1) (Rules.close s 0 1 refl (record {
  here = d;
  opened = o;
  known = (λ k e. (0, h, eq-eqb 0 k (sym (eqb-true k 0 e))), inl (refl, λ f q. rw (only f q) y));
  head = λ _ u e _. omega (arith, p, (holds P r).inv.delivered_placed s u e);
}))
  where
    only : (f : ℕ) → v.held 0 f s ≡ true → f ≡ 0
    only f q = eqb-true f 0 (and-true (eqb f 0) true ((holds P r).voter f 0 ((holds P r).inv.held_cast 0 f s q))).0

reached5 : Reached P (at v5 1)
reached5 = after (after (after r2 (ends r3)) (ends r4)) (ends r5)

r6 : Ends P (at v5 1) (at v6 1)
unfolding list1 by_list vote_l any_below fresh_v read_v row place_v deliver_v carry_v at1 at2 at3
r6 = commits v5 reached5 0 refl refl refl refl refl

r7 : Ends P (at v6 1) (at v7 1)
unfolding list1 by_list vote_l any_below fresh_v read_v row place_v deliver_v carry_v close_v at1 at2 at3
r7 = commits v6 (after reached5 (ends r6)) 1 refl refl refl refl refl

-- five finishing steps, as many as remained
run7 : Runs P (at v2 1) (at v7 1) 5
run7 = then (then (then (then (then none r3) r4) r5) r6) r7

reached7 : Reached P (at v7 1)
reached7 = after (after reached5 (ends r6)) (ends r7)

nothing_remains : remaining P (at v7 1) ≡ 0
unfolding at counter list1 by_list vote_l any_below fresh_v read_v row place_v deliver_v carry_v close_v at1 at2 at3 todo Count.row sum_below
nothing_remains = refl

holds7 : Holds P (at v7 1)
holds7 = holds P reached7

full7 : Full T1 (count P (at v7 1)) v7
unfolding at
full7 = full P (at v7 1) holds7

-- where nothing remains nothing is acceptable
over7 : Over P (at v7 1)
over7 x e = omega (arith, nothing_remains, (ends_same P (at v7 1) x holds7 e).1)

five : remaining P (at v2 1) ≡ 5
five = sym (settle P r2 kept1 run7 over7).0

-- and as many as the sum of document 01 has, where nothing is done: |R| is 2 and |V| is 1
by_the_sum : todo T1 (count P (at v2 1)) v2 ≡ 5
unfolding at counter fresh_v read_v place_v at1 row_done size_r size_v sum_below
by_the_sum = omega (arith, formula T1 fit1 (count P (at v2 1)) v2 (λ s. refl) in-R)
  where
    in-R : (f t : ℕ) → (eqb f 0 && eqb t 0) ≡ true → (ltb f 2 && eqb t 0) ≡ true
    in-R f t h = let (a, b) = and-true (eqb f 0) (eqb t 0) h in rw (eqb-true f 0 a, b)

stuck7 : Stuck T1 (λ _. false) (λ _. true) v7
unfolding at
stuck7 = (over P (at v7 1) holds7 over7).1

holds_of_it : Serial T1 v7
unfolding at
holds_of_it = demand3 P reached7

ends_with : v7.store 1 1 ≡ (2, 7)
unfolding fresh_v read_v place_v deliver_v carry_v close_v
ends_with = refl

copies : single T1 v7 2 1 ≡ (2, 7)
unfolding run chosen any_below fresh_v read_v place_v deliver_v carry_v close_v at1 at2
copies = refl
