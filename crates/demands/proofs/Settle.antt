-- SETTLE: each of its steps is a finishing step of the theory, and at its end the theory offers none.
-- Assumes nothing.
use Prim.Native.Nat.{ℕ, zero, suc, ◌+◌}
use mathlib.Core.Path.{◌≡◌, refl, subst}
use mathlib.Core.Bool.{true}
use mathlib.Core.Logic.{◌⊎◌, inl, inr}
use native.Mathlib.Omega.{arith}
use native.Mathlib.Numerals.{add-one, sub-one}
use Rattle.std.specs.Prelude.{Ok}
use Rattle.tables.specs.declared.Tables.{Tables}
use Rattle.steps.specs.declared.Answer.TheVariants as answer
use Rattle.machine.specs.Usable.{usable}
use Rattle.machine.specs.Settle.{todo, after, most, settle_for, settle_done}
use Rattle.machine.specs.declared.State.{State}
use Rattle.machine.specs.declared.Stepped.{Stepped}
use Rattle.search.specs.Search.{Todo}
use Rattle.search.specs.Search.{Close, Deliver, Carry, Nothing}
use Rattle.machine.proofs.Settle.{Accepted, todo_accepted, settle_stops, settle_goes, settle_ends}
use Rattle.machine.proofs.Ends.{Finished, settle_finishes}
use Rattle.onecopy.proofs.Rules as Rules
use Rattle.onecopy.proofs.Rules.{Move}
use Rattle.onecopy.proofs.Counter.{counter}
use Rattle.onecopy.proofs.World as World
use Rattle.onecopy.proofs.World.{World, count, offers, Ends, move, tick, ends, Reached, Holds, holds}
use Rattle.onecopy.proofs.Settle.{Runs, none, then, Over}
use Rattle.onecopy.specs.View.{View}
use Rattle.demands.specs.View.{table_of}
use Rattle.demands.proofs.Tables.{Taken}
use Rattle.demands.proofs.View.{view_of, rules_of, plan_of, world_of, Sound}
use Rattle.demands.proofs.Sized.{Arrays, Whole, after_whole}
use Rattle.demands.proofs.Deliver.{deliver_step, deliver_back}
use Rattle.demands.proofs.Carry.{carry_step, carry_back}
use Rattle.demands.proofs.Handed.{Handed, after_handed}
use Rattle.demands.proofs.Close.{close_step, close_back}

-- ---- one step

-- there is something to do
abbrev pub Some : Todo → Type 0
Some (Close t s) = Unit {0}
Some (Deliver s) = Unit {0}
Some (Carry t from to) = Unit {0}
Some Nothing = ⊥

pub is_nothing : (x : Todo) → (x ≡ Nothing) ⊎ Some x
is_nothing (Close t s) = inr tt
is_nothing (Deliver s) = inr tt
is_nothing (Carry t from to) = inr tt
is_nothing Nothing = inl refl

here : (st : State) (x : Todo) → Arrays st → Taken st.tables → Sound st → Accepted st x → Some x
    → Ends (plan_of st.tables) (world_of st.tables st) (world_of st.tables (after st x))
here st (Close t s) z g w a d = close_step st t s g z w a
here st (Deliver s) z g w a d = deliver_step st s g z w a
here st (Carry t from to) z g w a d = carry_step st t from to g z a
here st Nothing z g w a d = absurd d

-- where the machine accepts nothing the theory offers nothing
idle : (st : State) → usable st ≡ true → Finished st → Taken st.tables → Sound st
    → Over (plan_of st.tables) (world_of st.tables st)
unfolding world_of counter
idle st ok f g w x (move v m) = by m
  where
    by : {v : View} → Move (table_of st.tables) (count (plan_of st.tables) (world_of st.tables st)) (rules_of st.tables) (offers (plan_of st.tables) (world_of st.tables st)) (view_of st.tables st) v → ⊥
    by (Rules.deliver s t u o a) = f.delivers s (deliver_back st s t g w (unfold counter world_of in o) a)
    by (Rules.carry t from to u lo d c co h) = f.carries t from to (carry_back st t from to g w lo d c co h)
    by (Rules.close s t c u h) = f.closes t s (close_back st t s c ok g w h)
idle st ok f g w x (tick v c m) = absurd m

-- what every reached state has: its tables, arrays and carried votes are in order, and its world is reached
pub record Stands (T : Tables) (st : State) : Type 0 where
  pub whole : Whole T st
  pub handed : Handed T st
  pub reached : Reached (plan_of T) (world_of T st)

module _ (T : Tables) (g : Taken T) where
  pub take : (st : State) (x : Todo) → Stands T st → Accepted st x → Some x → Ends (plan_of T) (world_of T st) (world_of T (after st x))
  take st x h a d = subst (λ (T : Tables). Taken T → Holds (plan_of T) (world_of T st) → Ends (plan_of T) (world_of T st) (world_of T (after st x)))
      h.whole.tables (λ g w. here st x h.whole.arrays g w a d) g (holds (plan_of T) h.reached)

  pub take-stands : (st : State) (x : Todo) → Stands T st → Accepted st x → Some x → Stands T (after st x)
  take-stands st x h a d = record {
    whole = after_whole T st x h.whole;
    handed = subst (λ (T : Tables). Taken T → Handed T st → Handed T (after st x)) h.whole.tables (λ g k. after_handed st x h.whole.arrays g a k) g h.handed;
    reached = World.after h.reached (ends (take st x h a d));
  }

  pub over : (st : State) → Stands T st → Finished st → Over (plan_of T) (world_of T st)
  over st h f = subst (λ (T : Tables). Taken T → Holds (plan_of T) (world_of T st) → Over (plan_of T) (world_of T st)) h.whole.tables (idle st h.whole.usable f) g (holds (plan_of T) h.reached)

  -- ---- all of them

  -- SETTLE answers the steps from the world w
  pub record Run (w : World (plan_of T)) (r : Stepped) : Type 0 where
    pub steps : ℕ
    pub answers : r.answer ≡ Ok (answer.Settled steps)
    pub stands : Stands T r.next
    pub runs : Runs (plan_of T) w (world_of T r.next) steps

  along : (f n : ℕ) (w : World (plan_of T)) (st : State) → Stands T st → Runs (plan_of T) w (world_of T st) n → Run w (settle_for f n st)
  along zero n w st h u = rw (settle_ends 0 n st refl) (record { steps = n; answers = refl; stands = h; runs = u })
  along (suc f) n w st h u = by (is_nothing (todo st)) (along f (n + 1) w (after st (todo st)))
    where
      by : (todo st ≡ Nothing) ⊎ Some (todo st)
          → (Stands T (after st (todo st)) → Runs (plan_of T) w (world_of T (after st (todo st))) (n + 1) → Run w (settle_for f (n + 1) (after st (todo st))))
          → Run w (settle_for (suc f) n st)
      by (inl e) more = rw (settle_stops (suc f) n st (omega arith) e) (record { steps = n; answers = refl; stands = h; runs = u })
      by (inr d) more =
          let a = todo_accepted st h.whole.usable in
          rw (settle_goes (suc f) n st (todo st) (omega arith) refl (λ q. subst Some q d), sub-one)
          (more (take-stands st (todo st) h a d) (rw add-one (then u (take st (todo st) h a d))))

  pub settle_run : (st : State) → Stands T st → Run (world_of T st) (settle_done st)
  unfolding settle_done
  settle_run st h = along most 0 (world_of T st) st h none

  -- and then nothing is left
  pub settle_over : (st : State) → Stands T st → Over (plan_of T) (world_of T (settle_done st).next)
  settle_over st h =
      let z = h.whole.arrays in
      over (settle_done st).next (settle_run st h).stands
      (settle_finishes st (record { delivered = z.delivered; closed = z.closed; carried = z.carried }) h.whole.usable)
