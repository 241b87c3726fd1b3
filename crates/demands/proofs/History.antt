-- What the flags count as done is what the steps so far took.
-- Assumes nothing.
use Prim.Native.Nat.{ℕ, ◌+◌}
use mathlib.Core.Path.{◌≡◌, refl, sym, ap, subst, ◌∙◌}
use mathlib.Core.Bool.{Bool, true, false, cond}
use mathlib.Core.List.{List, [], ◌∷◌}
use native.Mathlib.Omega.{arith}
use lib.Dec.{eqb, ltb}
use borrow.Author.Tests.{eqb-true}
use Rattle.bounded.specs.Bounded.{sum_below}
use Rattle.bounded.proofs.Laws.{sum_same}
use Rattle.tables.specs.Judge.{judge}
use Rattle.tables.specs.declared.Tables.{Tables}
use Rattle.steps.specs.declared.Step.{Step}
use Rattle.steps.specs.declared.Step.TheVariants.{Read, Submit, Deliver, Carry, Close, Settle}
use Rattle.steps.specs.Answers.{Answered}
use Rattle.refusals.specs.Refusals.{refusal_in}
use Rattle.machine.specs.Parts.{place_of}
use Rattle.machine.specs.Usable.{usable}
use Rattle.machine.specs.Refusals.{refusal}
use Rattle.machine.specs.Effects.{read_done, submit_done, deliver_done, carry_done, close_done}
use Rattle.machine.specs.Settle.{after, settle_done}
use Rattle.machine.specs.Steps.{refused, done, decided, step_of}
use Rattle.machine.specs.Fresh.{start_of, fresh_of}
use Rattle.machine.specs.declared.State.{State}
use Rattle.search.specs.Search.{Todo}
use Rattle.search.specs.Search as todo
use Rattle.machine.proofs.Settle.{Accepted}
use Rattle.listing.specs.Run.{end_of}
use Rattle.onecopy.proofs.Base.{sum-zero}
use Rattle.onecopy.proofs.Counter.{counter}
use Rattle.onecopy.proofs.World.{count, Reached, holds}
use Rattle.onecopy.proofs.Count as Count
use Rattle.onecopy.proofs.Settle.{Runs, none, then, runs_same}
use Rattle.demands.specs.View.{table_of}
use Rattle.demands.specs.Settle.{steps_on, done_on, steps_done, steps_in, steps_taken}
use Rattle.demands.proofs.Tables.{Taken, taken}
use Rattle.demands.proofs.View.{view_of, plan_of, world_of}
use Rattle.demands.proofs.Handed.{Handed, fresh_handed}
use Rattle.demands.proofs.Settle.{Some, Stands, take, take-stands, settle_run}
use Rattle.demands.proofs.Fresh.{unplaced, fresh_reached}
use Rattle.demands.proofs.Reached.{step_stands, fresh_stands}
use Rattle.demands.proofs.Sum.{sums, idle}

module _ (T : Tables) (g : Taken T) where
  -- the sum, over the tables that the state began with
  abbrev in_all : State → ℕ
  in_all st = sum_below T.txns (λ t. cond (ltb 0 (place_of st t)) (steps_on T t) 0)

  sums_at : (st : State) → Stands T st → Count.todo (table_of T) (count (plan_of T) (world_of T st)) (view_of T st) + steps_done st ≡ in_all st
  sums_at st h = subst (λ (T : Tables). Taken T → Handed T st → Reached (plan_of T) (world_of T st)
      → Count.todo (table_of T) (count (plan_of T) (world_of T st)) (view_of T st) + steps_done st ≡ sum_below T.txns (λ t. cond (ltb 0 (place_of st t)) (steps_on T t) 0))
      h.whole.tables (λ g k r. sums st g k r) g h.handed h.reached

  -- m finishing steps are m more done
  moved : (st next : State) (m : ℕ) → Stands T st → Stands T next → Runs (plan_of T) (world_of T st) (world_of T next) m → steps_done next ≡ m + steps_done st
  unfolding world_of counter
  moved st next m h k u =
      let (b, e) = runs_same (plan_of T) (holds (plan_of T) h.reached) u in
      let same_sum = sum_same T.txns (λ t. cond (ltb 0 (place_of next t)) (steps_on T t) 0) (λ t. cond (ltb 0 (place_of st t)) (steps_on T t) 0) (λ t l. ap (λ x. cond x (steps_on T t) 0) (b t)) in
      omega (arith, e, sums_at st h, sums_at next k, same_sum)

  module _ (st : State) (h : Stands T st) where
    one : (x : Todo) → Accepted st x → Some x → steps_done (after st x) ≡ 1 + steps_done st
    one x a d = moved st (after st x) 1 h (take-stands T g st x h a d) (then none (take T g st x h a d))

    done_counts : (x : Step) → refusal st x ≡ 0 → steps_done (done st x).next ≡ steps_in (done st x).answer + steps_done st
    unfolding done refusal_in
    done_counts (Read t i s) e = unfold read_done done_on in omega arith
    done_counts (Submit t) e = unfold submit_done done_on in omega arith
    done_counts (Deliver s) e = unfold deliver_done in one (todo.Deliver s) e tt
    done_counts (Carry t from to) e = unfold carry_done in one (todo.Carry t from to) e tt
    done_counts (Close t s) e = unfold close_done in one (todo.Close t s) e tt
    done_counts Settle e =
        let q = settle_run T g st h in
        moved st (settle_done st).next q.steps h q.stands q.runs ∙ ap (λ (a : Answered). steps_in a + steps_done st) (sym q.answers)

    step_counts : (x : Step) → steps_done (step_of st x).next ≡ steps_in (step_of st x).answer + steps_done st
    unfolding step_of decided
    step_counts x = rw h.whole.usable (by (eqb (refusal st x) 0) refl)
      where
        by : (b : Bool) → eqb (refusal st x) 0 ≡ b
            → steps_done (cond b (done st x) (refused st (refusal st x))).next ≡ steps_in (cond b (done st x) (refused st (refusal st x))).answer + steps_done st
        by true e = done_counts x (eqb-true (refusal st x) 0 e)
        by false e = omega arith

  list_counts : (l : List Step) (st : State) → Stands T st → steps_done (end_of st l) ≡ steps_taken st l + steps_done st
  unfolding end_of steps_taken
  list_counts [] st h = omega arith
  list_counts (x ∷ l) st h = omega (arith, list_counts l (step_of st x).next (step_stands T g st h x), step_counts st h x)

-- from fresh
pub done_is_taken : (T : Tables) → judge T ≡ 0 → (l : List Step) → steps_done (end_of (fresh_of T).state l) ≡ steps_taken (fresh_of T).state l
done_is_taken T e l = omega (arith, list_counts T (taken T e) l (fresh_of T).state (fresh_stands T e), nothing)
  where
    start : steps_done (start_of T) ≡ 0
    start = unfold start_of in sum-zero T.txns (done_on (start_of T)) (λ t _. idle (start_of T) (taken T e) (fresh_handed T) (fresh_reached T (taken T e)) t (unplaced T (taken T e) t))

    nothing : steps_done (fresh_of T).state ≡ 0
    nothing = unfold fresh_of in rw e start
