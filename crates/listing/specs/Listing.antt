-- The listing of a file, and what the C caller gets.
use Rattle.std.specs.Prelude.{ℕ, ◌+◌, cond, List, ◌++◌, leb, ℤ, pos, neg_ℤ, length, take, drop, Result, Ok, Err}
use Rattle.files.specs.Cut.{cut_of}
use Rattle.files.specs.Schedule.{steps_of}
use Rattle.files.specs.File.{file_of}
use Rattle.files.specs.declared.Refused.{Refused}
use Rattle.numbers.specs.Numbers.{file_number}
use Rattle.numbers.specs.declared.FileRefusal.{FileRefusal}
use Rattle.files.specs.declared.Where.{Where}
use Rattle.files.specs.declared.Where.TheVariants.{InSetup, InSchedule}
use Rattle.lines.specs.Lines.{step_lines, state_lines, file_line}
use Rattle.tables.specs.declared.Tables.{Tables}
use Rattle.machine.specs.Fresh.{fresh_of}
use Rattle.listing.specs.Run.{end_of, answers_of}

pub data Listing : Type 0 where
  -- a refusal's number and the byte offset of its record
  refused : ℕ → ℕ → Listing
  listed : List ℕ → Listing

-- the record's byte offset in the file whose setup is c bytes long
abbrev pub offset_of : ℕ → Where → ℕ
offset_of c (InSetup at) = at
offset_of c (InSchedule at) = c + at

-- a schedule run from the fresh state of the tables
unfoldable pub lines_of : Tables → List ℕ → List ℕ
lines_of T schedule =
    let st = (fresh_of T).state in
    let steps = steps_of schedule in
    step_lines 0 (answers_of st steps) ++ state_lines (end_of st steps)

abbrev pub list_by : ℕ → Tables → List ℕ → Result (Unit {0}) (Refused Where) → Listing
list_by c T schedule (Ok _) = listed (lines_of T schedule)
list_by c T schedule (Err r) = refused (file_number r.why) (offset_of c r.at)

unfoldable pub listing_of : List ℕ → Listing
listing_of file =
    let c = cut_of file in
    let read = file_of (take c file) (drop c file) in
    list_by c read.tables (drop c file) read.outcome

-- what is printed
abbrev pub printed : Listing → List ℕ
printed (refused n at) = file_line n at
printed (listed bytes) = bytes

-- the C caller's room: file refusals come before 9
abbrev pub in_room : ℕ → Listing → Listing
in_room room (refused n at) = refused n at
in_room room (listed bytes) = cond (leb (length bytes) room) (listed bytes) (refused 9 0)

-- what the C caller gets: the listing's length, or minus the file refusal number
abbrev pub answer_of : Listing → ℤ
answer_of (refused n at) = neg_ℤ (pos n)
answer_of (listed bytes) = pos (length bytes)

-- the same of a length or a refusal
abbrev pub answer_by : Result ℕ FileRefusal → ℤ
answer_by (Ok n) = pos n
answer_by (Err r) = neg_ℤ (pos (file_number r))

-- and the output afterwards: bytes past the listing as lent, or all as lent
abbrev pub left_of : Listing → List ℕ → List ℕ
left_of (refused n at) out = out
left_of (listed bytes) out = bytes ++ drop (length bytes) out
