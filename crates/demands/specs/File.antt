-- Demand 1 for a whole file and the C caller's output: a listing, or a refusal's number with the output untouched.
use Rattle.files.specs.declared.Where.{Where}
use Rattle.std.specs.Prelude.{ℕ, ◌≤◌, ◌<◌, ◌≡◌, ◌⊎◌, List, [], ◌∷◌, ◌++◌, pos, neg_ℤ, length, take, drop}
use types.Run.{OneOf}
use Rattle.files.specs.Cut.{cut_of}
use Rattle.files.specs.Schedule.{steps_of}
use Rattle.files.specs.File.{file_of}
use Rattle.files.specs.declared.Reading.{Reading}
use Rattle.lines.specs.Lines.{step_lines, state_lines}
use Rattle.tables.specs.Judge.{judge}
use Rattle.steps.specs.declared.Step.{Step}
use Rattle.machine.specs.Fresh.{fresh_of}
use Rattle.machine.specs.declared.State.{State}
use Rattle.listing.specs.Run.{end_of, answers_of}
use Rattle.listing.specs.Listing.{Listing, refused, listed, listing_of, in_room, answer_of, left_of}
use Rattle.demands.specs.OneCopy.{OneCopy}

-- a file as it is read, cut after the first END
abbrev pub read_of : List ℕ → Reading Where
read_of file = file_of (take (cut_of file) file) (drop (cut_of file) file)

-- the state made fresh from its tables, and the steps that follow END
abbrev pub start_in : List ℕ → State
start_in file = (fresh_of (read_of file).tables).state

abbrev pub schedule_in : List ℕ → List Step
schedule_in file = steps_of (drop (cut_of file) file)

-- a file that is listed
pub record Listed (file bytes : List ℕ) : Type 0 where
  -- its tables are none that the reader would refuse
  pub taken : judge (read_of file).tables ≡ 0
  -- the listing is each step's line, then the state at the end
  pub lines : bytes ≡ step_lines 0 (answers_of (start_in file) (schedule_in file)) ++ state_lines (end_of (start_in file) (schedule_in file))
  -- and that state is one-copy serializable
  pub one_copy : OneCopy (end_of (start_in file) (schedule_in file))

-- the file refusals, and 9
abbrev pub file_numbers : List ℕ
file_numbers = 1 ∷ 2 ∷ 3 ∷ 4 ∷ 5 ∷ 6 ∷ 7 ∷ 9 ∷ []

-- what comes of a file and the room of an output
abbrev pub came_of : List ℕ → List ℕ → Listing
came_of file out = in_room (length out) (listing_of file)

-- the C caller gets the listing's length; bytes past the listing stay as lent
pub record Gives (file out bytes : List ℕ) : Type 0 where
  pub lists : listing_of file ≡ listed bytes
  pub room : length bytes ≤ length out
  pub came : came_of file out ≡ listed bytes
  pub answer : answer_of (came_of file out) ≡ pos (length bytes)
  pub left : left_of (came_of file out) out ≡ bytes ++ drop (length bytes) out

-- or minus the refusal number, with the output untouched
pub record Denies (file out : List ℕ) (n : ℕ) : Type 0 where
  pub number : OneOf file_numbers n
  pub answer : answer_of (came_of file out) ≡ neg_ℤ (pos n)
  pub left : left_of (came_of file out) out ≡ out
  -- file refusals come before 9, which says that the output is too short
  pub short : n ≡ 9 → (bytes : List ℕ) × (listing_of file ≡ listed bytes) × (length out < length bytes)
  pub refuses : (n ≡ 9 → ⊥) → (at : ℕ) × (listing_of file ≡ refused n at)

pub record Demand1 (file out : List ℕ) : Type 0 where
  pub either : ((bytes : List ℕ) × Gives file out bytes) ⊎ ((n : ℕ) × Denies file out n)
