-- The state that a plan and lent parts make, and a step taken in them.
use Rattle.std.specs.Prelude.{ℕ, ◌+◌, ◌-◌, ◌≤◌, Bool, true, false, List, ◌≡◌, ltb, Result, Ok, Err}
use Rattle.plan.specs.Planned.{Planned}
use Rattle.plan.specs.declared.Plan.{Plan}
use Rattle.parts.specs.declared.Parts.{Parts}
use Rattle.machine.specs.Usable.{usable}
use Rattle.search.specs.Search.{Nothing}
use Rattle.search.specs.Known.{Knows}
use Rattle.search.specs.declared.Known.{Known}
use Rattle.machine.specs.Settle.{parts_of, todo, settle_for, most}
use Rattle.machine.specs.Steps.{decided}
use Rattle.machine.specs.declared.State.{State}
use Rattle.steps.specs.declared.Step.{Step}
use Rattle.steps.specs.Answers.{Answered}
use Rattle.steps.specs.declared.Answer.{Answer}
use Rattle.steps.specs.declared.Answer.TheVariants as answer

abbrev pub state_of : Plan → Parts → State
state_of p w = record { tables = p.tables; parts = w }

-- the plan is of its tables, and a step can run on the state
abbrev pub Ready : Plan → Parts → Type 0
Ready p w = Planned p × (usable (state_of p w) ≡ true)

-- x is answered with a and leaves the state after
abbrev pub Takes : State → Step → Answered → State → Type 0
Takes st x a after = (a ≡ (decided st x).answer) × (after ≡ (decided st x).next)

-- k steps of SETTLE lead from st to st', none only where there is nothing to do, and what is known of st, l, turns into l'
pub record Turned (st : State) (k : ℕ) (st' : State) (order : List ℕ) (l' : Known) : Type 0 where
  pub ok : usable st' ≡ true
  pub knows : Knows st'.tables (parts_of st') order l'
  pub stops : k ≡ 0 → todo st' ≡ Nothing
  pub same : (f n : ℕ) → k ≤ f → settle_for f n st ≡ settle_for (f - k) (n + k) st'

abbrev pub Turns : State → ℕ → State → List ℕ → Known → Known → Type 0
Turns st k st' order l l' = Knows st.tables (parts_of st) order l → Turned st k st' order l'

-- whether SETTLE is known to have nothing to do: after one that took less steps than it may, until another step is accepted than READ
unfoldable pub idle_after : {R : Type 0} → Bool → Result Answer R → Bool
idle_after b (Err r) = b
idle_after b (Ok (answer.Read v x)) = b
idle_after b (Ok (answer.Submitted p)) = false
idle_after b (Ok (answer.Delivered t v)) = false
idle_after b (Ok (answer.Carried v)) = false
idle_after b (Ok (answer.Closed c)) = false
idle_after b (Ok (answer.Settled n)) = ltb n most
