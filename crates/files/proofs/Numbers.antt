-- A file that is not refused has at most 60,000 bytes; a refused one has a number from 1 to 7, and its record starts within its part and within 60,000 bytes.
-- Assumes nothing.
use Rattle.std.proofs.Common.{Result, Ok, Err, ℕ, suc, ◌+◌, ◌-◌, ◌≤◌, Bool, true, false, cond, List, ◌∷◌, inr, ◌≡◌, refl, arith, eqb, ltb, length, ltb-false}
use types.Run.{OneOf, hit}
use Rattle.tables.specs.Empty.{no_tables}
use Rattle.records.specs.Judge.{judge_at}
use Rattle.records.proofs.Good.{judge_is}
use Rattle.files.specs.Walk.{stop}
use Rattle.files.specs.Schedule.{in_schedule, schedule_by, schedule_turn, read_schedule}
use Rattle.files.specs.Setup.{read_setup}
use Rattle.numbers.specs.Numbers.{file_number}
use Rattle.numbers.specs.declared.FileRefusal.TheVariants.{TooLong}
use Rattle.files.specs.File.{refused, outcome_of, parts_of, opened, limit, file_of}
use Rattle.files.specs.declared.Refused.{Refused}
use Rattle.files.specs.declared.Where.{Where}
use Rattle.files.specs.declared.Where.TheVariants.{InSetup, InSchedule}
use Rattle.files.proofs.Walk.{Has, walk_has}
use Rattle.files.proofs.Falls.{setup_has, schedule_falls}
use Rattle.files.proofs.Refusals.{record_numbers}
use Rattle.files.proofs.Turns.{first_number}

-- 1 to 7
abbrev pub file_numbers_lem : List ℕ
file_numbers_lem = 1 ∷ record_numbers

-- what is known of a part of m bytes
abbrev Numbered : ℕ → Result (Unit {0}) (Refused ℕ) → Type 0
Numbered m (Ok _) = Unit {0}
Numbered m (Err e) = OneOf record_numbers (file_number e.why) × (e.at ≤ m)

setup_number : (s : List ℕ) → Numbered (length s) (read_setup s).outcome
setup_number s = setup_has s (λ r. r.at ≤ length s) (λ x. Numbered (length s) x.outcome) (λ x h. record {
  refuses = λ why o. (o, h);
  keys = λ r l k m. l.within;
  group = λ r l k e. l.within;
  txn = λ r l k e. l.within;
  ready = λ k g e. tt;
  follows = λ next l. (hit record_numbers 3 tt, omega arith);
}) (omega arith)

schedule_number : (s : List ℕ) → Numbered (length s) (read_schedule s)
unfolding read_schedule schedule_turn
schedule_number s = walk_has (schedule_turn s) (Ok tt) (λ at. length s - at) (schedule_falls s)
    Before (Numbered (length s)) (λ at h. by at h (eqb at (length s))) (suc (length s)) 0 (omega arith) (omega arith)
  where
    Before : ℕ → Type 0
    Before at = at ≤ length s

    by : (at : ℕ) → Before at → (b : Bool) → Has Before (Numbered (length s)) (cond b (stop (Ok tt)) (schedule_by at (judge_at in_schedule s at)))
    by at h true = tt
    by at h false = judge_is in_schedule s at (λ j. Has Before (Numbered (length s)) (schedule_by at j)) (λ r i. i.lies.within) (λ why o. (first_number (file_number why) o, h))

-- of a file whose parts are m and n bytes long: within the part that it stands in, and within the most that a file may have
abbrev pub InPart : ℕ → ℕ → Where → Type 0
InPart m n (InSetup at) = at ≤ m
InPart m n (InSchedule at) = at ≤ n

abbrev pub Low : ℕ → Where → Type 0
Low m (InSetup at) = at ≤ limit
Low m (InSchedule at) = m + at ≤ limit

pub record Numbering (m n k : ℕ) (at : Where) : Type 0 where
  pub number : OneOf file_numbers_lem k
  pub within : InPart m n at
  pub low : Low m at

abbrev pub Held : ℕ → ℕ → Result (Unit {0}) (Refused Where) → Type 0
Held m n (Ok _) = m + n ≤ limit
Held m n (Err r) = Numbering m n (file_number r.why) r.at

pub file_held : (setup schedule : List ℕ) → Held (length setup) (length schedule) (file_of setup schedule).outcome
unfolding file_of
file_held setup schedule = by (ltb limit (m + n)) refl
  where
    m : ℕ
    m = length setup

    n : ℕ
    n = length schedule

    second : m + n ≤ limit → (q : Result (Unit {0}) (Refused ℕ)) → Numbered n q → Held m n (outcome_of InSchedule q (Ok tt))
    second l (Ok _) h = l
    second l (Err e) h = record { number = inr h.0; within = h.1; low = omega (arith, h.1) }

    first : m + n ≤ limit → (p : Result (Unit {0}) (Refused ℕ)) (o : Result (Unit {0}) (Refused Where)) → Numbered m p → Held m n o → Held m n (outcome_of InSetup p o)
    first l (Ok _) o h g = g
    first l (Err e) o h g = record { number = inr h.0; within = h.1; low = omega (arith, h.1) }

    by : (b : Bool) → ltb limit (m + n) ≡ b → Held m n (cond b (opened (Err (refused TooLong (InSetup 0))) no_tables) (opened (parts_of setup schedule) (read_setup setup).tables)).outcome
    by true e = record { number = hit file_numbers_lem 1 tt; within = omega arith; low = omega arith }
    by false e =
        let l = ltb-false limit (m + n) e in
        first l (read_setup setup).outcome (outcome_of InSchedule (read_schedule schedule) (Ok tt)) (setup_number setup) (second l (read_schedule schedule) (schedule_number schedule))

pub file_refused : (setup schedule : List ℕ) (r : Refused Where) → (file_of setup schedule).outcome ≡ Err r → Numbering (length setup) (length schedule) (file_number r.why) r.at
file_refused setup schedule r e = rw e at (file_held setup schedule)
