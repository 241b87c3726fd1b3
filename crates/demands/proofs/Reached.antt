-- Every state reached from fresh is whole, and its world is reached in the theory.
-- Assumes nothing.
use Prim.Native.Nat.{ℕ, ◌≤◌}
use mathlib.Core.Path.{◌≡◌, refl, sym, subst}
use mathlib.Core.Bool.{Bool, true, false, cond}
use mathlib.Core.List.{List, [], ◌∷◌}
use lib.Dec.{eqb}
use borrow.Author.Tests.{eqb-true}
use Rattle.tables.specs.Sites.{holds}
use Rattle.tables.specs.Judge.{judge}
use Rattle.tables.specs.declared.Tables.{Tables}
use Rattle.steps.specs.declared.Step.{Step}
use Rattle.steps.specs.declared.Step.TheVariants.{Read, Submit, Deliver, Carry, Close, Settle}
use Rattle.refusals.specs.Refusals.{refusal_in}
use Rattle.machine.specs.Parts.{version_at}
use Rattle.machine.specs.Usable.{usable}
use Rattle.machine.specs.Refusals.{refusal, read_refusal, submit_refusal}
use Rattle.machine.specs.Effects.{read_done, submit_done}
use Rattle.machine.specs.Steps.{refused, done, decided, step_of}
use Rattle.machine.specs.Fresh.{fresh_of}
use Rattle.machine.specs.declared.State.{State}
use Rattle.machine.specs.declared.Stepped.{Stepped}
use Rattle.search.specs.Search as todo
use Rattle.machine.proofs.Settle as Settle
use Rattle.machine.proofs.Kept.{step_usable}
use Rattle.listing.specs.Run.{end_of}
use Rattle.onecopy.proofs.World as World
use Rattle.onecopy.proofs.World.{Steps, after, Holds}
use Rattle.demands.proofs.Tables.{Taken, taken}
use Rattle.demands.proofs.View.{plan_of, world_of}
use Rattle.demands.proofs.Sized.{read_arrays, submit_arrays, fresh_whole}
use Rattle.demands.proofs.Read.{read_step}
use Rattle.demands.proofs.Submit.{submit_step}
use Rattle.demands.proofs.Bound.{version_most}
use Rattle.demands.proofs.Handed.{read_handed, submit_handed, fresh_handed}
use Rattle.demands.proofs.Settle.{Stands, take-stands, settle_run}
use Rattle.demands.proofs.Fresh.{fresh_reached}

module _ (T : Tables) (g : Taken T) (st : State) (h : Stands T st) where
  -- an accepted step leaves a usable state usable
  still : (x : Step) → refusal st x ≡ 0 → usable (done st x).next ≡ true
  still x e = subst (λ (r : Stepped). usable r.next ≡ true) (Settle.taken st x e) (step_usable st x h.whole.arrays.places h.whole.usable)

  read : (t i s : ℕ) → read_refusal st t i s ≡ 0 → Steps (plan_of T) (world_of T st) (world_of T (read_done st t i s).next)
  read t i s e = subst (λ (T : Tables). Taken T → Steps (plan_of T) (world_of T st) (world_of T (read_done st t i s).next))
      h.whole.tables (λ g. read_step st t i s g h.whole.arrays e) g

  submit : (t : ℕ) → submit_refusal st t ≡ 0 → Steps (plan_of T) (world_of T st) (world_of T (submit_done st t).next)
  submit t e = subst (λ (T : Tables). Taken T → Holds (plan_of T) (world_of T st) → Steps (plan_of T) (world_of T st) (world_of T (submit_done st t).next))
      h.whole.tables (λ g w. submit_step st t g h.whole.arrays w e) g (World.holds (plan_of T) h.reached)

  done_stands : (x : Step) → refusal st x ≡ 0 → Stands T (done st x).next
  unfolding done refusal_in
  done_stands (Read t i s) e = record {
    whole = record { tables = unfold read_done in h.whole.tables; usable = still (Read t i s) e; arrays = read_arrays st t i s h.whole.arrays };
    handed = read_handed T st t i s h.handed;
    reached = after h.reached (read t i s e);
  }
  done_stands (Submit t) e = record {
    whole = record { tables = unfold submit_done in h.whole.tables; usable = still (Submit t) e; arrays = submit_arrays st t h.whole.arrays };
    handed = submit_handed T st t h.handed;
    reached = after h.reached (submit t e);
  }
  done_stands (Deliver s) e = take-stands T g st (todo.Deliver s) h e tt
  done_stands (Carry t from to) e = take-stands T g st (todo.Carry t from to) h e tt
  done_stands (Close t s) e = take-stands T g st (todo.Close t s) h e tt
  done_stands Settle e = (settle_run T g st h).stands

  pub step_stands : (x : Step) → Stands T (step_of st x).next
  unfolding step_of decided
  step_stands x = rw h.whole.usable (by (eqb (refusal st x) 0) refl)
    where
      by : (b : Bool) → eqb (refusal st x) 0 ≡ b → Stands T (cond b (done st x) (refused st (refusal st x))).next
      by true e = done_stands x (eqb-true (refusal st x) 0 e)
      by false e = h

-- after any list of steps
pub list_stands : (T : Tables) → Taken T → (st : State) → Stands T st → (l : List Step) → Stands T (end_of st l)
unfolding end_of
list_stands T g st h [] = h
list_stands T g st h (x ∷ l) = list_stands T g (step_of st x).next (step_stands T g st h x) l

-- from fresh, of tables that the reader takes
pub fresh_stands : (T : Tables) → judge T ≡ 0 → Stands T (fresh_of T).state
unfolding fresh_of
fresh_stands T e = rw e (record { whole = fresh_whole T e; handed = fresh_handed T; reached = fresh_reached T (taken T e) })

pub stands : (T : Tables) → judge T ≡ 0 → (l : List Step) → Stands T (end_of (fresh_of T).state l)
stands T e l = list_stands T (taken T e) (fresh_of T).state (fresh_stands T e) l

-- and there each version is at most 129
pub versions : (T : Tables) → judge T ≡ 0 → (l : List Step) (s k : ℕ) → holds (end_of (fresh_of T).state l).tables s k ≡ true → version_at (end_of (fresh_of T).state l) s k ≤ 129
versions T e l s k = by (end_of (fresh_of T).state l) (stands T e l)
  where
    by : (st : State) → Stands T st → holds st.tables s k ≡ true → version_at st s k ≤ 129
    by st h = version_most st s k h.whole.usable (subst (λ (T : Tables). Holds (plan_of T) (world_of T st)) (sym h.whole.tables) (World.holds (plan_of T) h.reached))
