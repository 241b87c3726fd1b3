-- The three demands, each a theorem over the machine and the listing themselves. What they say is in specs/; read it beside this page.
-- Assumes nothing.
use Prim.Native.Nat.{ℕ, ◌≤◌}
use mathlib.Core.Path.{◌≡◌}
use mathlib.Core.List.{List}
use Rattle.tables.specs.Judge.{judge}
use Rattle.tables.specs.declared.Tables.{Tables}
use Rattle.steps.specs.Answers.{Answered}
use Rattle.steps.specs.declared.Step.{Step}
use Rattle.machine.specs.Effects.{answering}
use Rattle.machine.specs.Fresh.{fresh_of}
use Rattle.machine.specs.Usable.{usable}
use Rattle.machine.specs.declared.State.{State}
use mathlib.Core.Bool.{true}
use Rattle.listing.specs.Run.{end_of}
use Rattle.listing.specs.Listing.{listed, listing_of}
use Rattle.demands.specs.Steps.{Demand1Step}
use Rattle.demands.specs.File.{Demand1, Listed}
use Rattle.demands.specs.Protocol.{Protocol, Demand2}
use Rattle.demands.specs.OneCopy.{OneCopy}
use Rattle.demands.specs.Settle.{steps_on, steps_in_all, steps_done, steps_taken, Settles}
use Rattle.demands.proofs.Sized.{Arrays}
use Rattle.demands.proofs.Steps as Steps
use Rattle.demands.proofs.File as File
use Rattle.demands.proofs.Protocol as Protocols
use Rattle.demands.proofs.Determined as Determined
use Rattle.demands.proofs.OneCopy as Copies
use Rattle.demands.proofs.Sum as Sum
use Rattle.demands.proofs.History as History

-- demand 1: every file with every output is answered, and every step on every state; a refusal changes nothing
pub every_file : (file out : List ℕ) → Demand1 file out
every_file = File.demand1_file

pub every_step : (st : State) (x : Step) → Demand1Step st x
every_step = Steps.demand1_step

-- demand 2: a step is taken exactly when the protocol permits it, and does exactly what the protocol does; for every state with arrays of their lengths
pub protocol : (st : State) → Arrays st → Demand2 st
protocol = Protocols.demand2

-- and the protocol leaves no choice
pub no_choice : (st : State) → Arrays st → usable st ≡ true → (x : Step) (a b : Answered) (n o : State) → Protocol st x a n → Protocol st x b o → answering a n ≡ answering b o
no_choice = Determined.determined

-- demand 3: from fresh, after any steps, refused ones included
pub one_copy : (T : Tables) → judge T ≡ 0 → (l : List Step) → OneCopy (end_of (fresh_of T).state l)
one_copy = Copies.every_state_one_copy

-- SETTLE: it closes all submitted transactions, and its count is the sum less the steps already done, which are those that were taken
pub settle : (T : Tables) → judge T ≡ 0 → (l : List Step) → Settles (end_of (fresh_of T).state l)
settle = Sum.every_settle

pub done : (T : Tables) → judge T ≡ 0 → (l : List Step) → steps_done (end_of (fresh_of T).state l) ≡ steps_taken (fresh_of T).state l
done = History.done_is_taken

-- at most 272 for a transaction, 34,816 in all
pub for_one : (T : Tables) → judge T ≡ 0 → (t : ℕ) → steps_on T t ≤ 272
for_one = Sum.most_steps

pub in_all : (st : State) → judge st.tables ≡ 0 → steps_in_all st ≤ 34816
in_all = Sum.most_in_all

-- a whole file: what is listed is the run of its schedule from fresh
pub listing : (file bytes : List ℕ) → listing_of file ≡ listed bytes → Listed file bytes
listing = File.every_listing
