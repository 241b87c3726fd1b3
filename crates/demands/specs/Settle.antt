-- SETTLE from a reached state: what it closes, and its count.
use Rattle.std.specs.Prelude.{ℕ, ◌+◌, ◌*◌, ◌-◌, ◌<◌, ◌≡◌, true, cond, List, [], ◌∷◌, ltb, Ok, Err}
use Rattle.bounded.specs.Bounded.{sum_below, count_below}
use Rattle.keys.specs.Keys.{member}
use Rattle.tables.specs.Sites.{site_count}
use Rattle.tables.specs.Concern.{concerns, votes, local}
use Rattle.tables.specs.declared.Tables.{Tables}
use Rattle.steps.specs.declared.Step.{Step}
use Rattle.steps.specs.declared.Step.TheVariants as step
use Rattle.steps.specs.Answers.{Answered}
use Rattle.steps.specs.declared.Answer.TheVariants as answer
use Rattle.machine.specs.Parts.{place_of, delivered_at, closed_at, carried_to}
use Rattle.machine.specs.Steps.{step_of}
use Rattle.machine.specs.declared.State.{State}

-- |R(t)| and |V(t)|
abbrev pub size_r : Tables → ℕ → ℕ
size_r T t = count_below (site_count T) (concerns T t)

abbrev pub size_v : Tables → ℕ → ℕ
size_v T t = count_below (site_count T) (votes T t)

-- what t takes: 2·|R| + |V|·(|R|−1) if t is global, 2·|R| if local
unfoldable pub steps_on : Tables → ℕ → ℕ
steps_on T t = 2 * size_r T t + cond (local T t) 0 (size_v T t * (size_r T t - 1))

-- the DELIVER, CLOSE and CARRY already done on t
unfoldable pub done_on : State → ℕ → ℕ
done_on st t =
    let n = site_count st.tables in
    count_below n (λ s. delivered_at st t s)
    + count_below n (λ s. ltb 0 (closed_at st t s))
    + sum_below n (λ f. count_below n (λ s. member (carried_to st t s) f))

-- over submitted transactions, and over all
abbrev pub steps_in_all : State → ℕ
steps_in_all st = sum_below st.tables.txns (λ t. cond (ltb 0 (place_of st t)) (steps_on st.tables t) 0)

abbrev pub steps_done : State → ℕ
steps_done st = sum_below st.tables.txns (done_on st)

pub record Settles (st : State) : Type 0 where
  -- it answers the steps that it takes, which are the sum less those already done
  pub steps : ℕ
  pub answers : (step_of st step.Settle).answer ≡ Ok (answer.Settled steps)
  pub sum : steps + steps_done st ≡ steps_in_all st
  -- it closes all submitted transactions at all their sites
  pub closes : (t s : ℕ) → 0 < place_of st t → concerns st.tables t s ≡ true → 0 < closed_at (step_of st step.Settle).next t s

-- the DELIVER, CLOSE and CARRY that a list of steps takes, those of its SETTLE included
abbrev pub steps_in : Answered → ℕ
steps_in (Ok (answer.Read version value)) = 0
steps_in (Ok (answer.Submitted place)) = 0
steps_in (Ok (answer.Delivered t vote)) = 1
steps_in (Ok (answer.Carried vote)) = 1
steps_in (Ok (answer.Closed verdict)) = 1
steps_in (Ok (answer.Settled count)) = count
steps_in (Err r) = 0

unfoldable pub steps_taken : State → List Step → ℕ
steps_taken st [] = 0
steps_taken st (x ∷ l) = steps_in (step_of st x).answer + steps_taken (step_of st x).next l
