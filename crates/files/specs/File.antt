-- A file in its two parts: refused as a whole, or tables and steps; and the part handed back with a refusal.
use Rattle.std.specs.Prelude.{ℕ, ◌+◌, cond, List, ltb, length, drop, Result, Ok, Err}
use Rattle.numbers.specs.declared.FileRefusal.{FileRefusal}
use Rattle.numbers.specs.declared.FileRefusal.TheVariants.{TooLong}
use Rattle.tables.specs.Empty.{no_tables}
use Rattle.tables.specs.declared.Tables.{Tables}
use Rattle.files.specs.Setup.{read_setup}
use Rattle.files.specs.Schedule.{read_schedule}
use Rattle.files.specs.declared.Refused.{Refused}
use Rattle.files.specs.declared.Where.{Where}
use Rattle.files.specs.declared.Where.TheVariants.{InSetup, InSchedule}
use Rattle.files.specs.declared.Reading.{Reading}

abbrev pub refused : FileRefusal → Where → Refused Where
refused r w = record { why = r; at = w }

abbrev pub outcome_of : (ℕ → Where) → Result (Unit {0}) (Refused ℕ) → Result (Unit {0}) (Refused Where) → Result (Unit {0}) (Refused Where)
outcome_of part (Ok _) rest = rest
outcome_of part (Err m) rest = Err (refused m.why (part m.at))

-- the setup first, then the schedule
abbrev pub parts_by : Result (Unit {0}) (Refused ℕ) → List ℕ → Result (Unit {0}) (Refused Where)
parts_by setup schedule = outcome_of InSetup setup (outcome_of InSchedule (read_schedule schedule) (Ok tt))

abbrev pub parts_of : List ℕ → List ℕ → Result (Unit {0}) (Refused Where)
parts_of setup schedule = parts_by (read_setup setup).outcome schedule

abbrev pub opened : Result (Unit {0}) (Refused Where) → Tables → Reading Where
opened o T = record { outcome = o; tables = T }

abbrev pub limit : ℕ
limit = 60000

-- number 1 comes first, counts both parts and hands back setup
unfoldable pub file_of : List ℕ → List ℕ → Reading Where
file_of setup schedule =
    let long = opened (Err (refused TooLong (InSetup 0))) no_tables in
    let read = opened (parts_of setup schedule) (read_setup setup).tables in
    cond (ltb limit (length setup + length schedule)) long read

-- the bytes from the record's start to the end of the part that it stands in
abbrev pub rest_of : List ℕ → List ℕ → Where → List ℕ
rest_of setup schedule (InSetup at) = drop at setup
rest_of setup schedule (InSchedule at) = drop at schedule
