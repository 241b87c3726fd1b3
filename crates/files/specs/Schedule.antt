-- What a schedule reads as: its tags and lengths judged to the end, and then its steps.
use Rattle.std.specs.Prelude.{ℕ, zero, suc, ◌+◌, Bool, ◌&&◌, cond, List, [], ◌∷◌, eqb, leb, length, get_or, Result, Ok, Err}
use Rattle.numbers.specs.declared.FileRefusal.{FileRefusal}
use Rattle.steps.specs.declared.Step.{Step}
use Rattle.steps.specs.declared.Step.TheVariants.{Read, Submit, Deliver, Carry, Close, Settle}
use Rattle.records.specs.Record.{record_at}
use Rattle.records.specs.Judge.{judge_at}
use Rattle.records.specs.declared.Record.{Record}
use Rattle.files.specs.Walk.{Turn, go, stop, walk}
use Rattle.files.specs.Refusal.{misfit}
use Rattle.files.specs.declared.Refused.{Refused}

-- tags 10 to 15
unfoldable pub in_schedule : ℕ → Bool
in_schedule tag = leb 0x10 tag && leb tag 0x15

abbrev pub schedule_by : ℕ → Result Record FileRefusal → Turn ℕ (Result (Unit {0}) (Refused ℕ))
schedule_by at (Ok r) = go r.next
schedule_by at (Err why) = stop (Err (misfit why at))

-- the schedule may stop after any record
unfoldable pub schedule_turn : List ℕ → ℕ → Turn ℕ (Result (Unit {0}) (Refused ℕ))
schedule_turn s at = cond (eqb at (length s)) (stop (Ok tt)) (schedule_by at (judge_at in_schedule s at))

unfoldable pub read_schedule : List ℕ → Result (Unit {0}) (Refused ℕ)
read_schedule s = walk (schedule_turn s) (Ok tt) (suc (length s)) 0

-- the step of a tag, its numbers from start on
unfoldable pub step_by : ℕ → List ℕ → ℕ → Step
step_by tag s start =
    let a = get_or s start 0 in
    let b = get_or s (start + 1) 0 in
    let c = get_or s (start + 2) 0 in
    cond (eqb tag 0x10) (Read a b c)
    (cond (eqb tag 0x11) (Submit a)
    (cond (eqb tag 0x12) (Deliver a)
    (cond (eqb tag 0x13) (Carry a b c)
    (cond (eqb tag 0x14) (Close a b)
    Settle))))

-- of the records from at on, k at most
unfoldable pub steps_from : ℕ → List ℕ → ℕ → List Step
steps_from zero s at = []
steps_from (suc k) s at = elim (record_at s at) [ Ok r ↦ step_by r.tag s r.start ∷ steps_from k s r.next | Err e ↦ [] ]

unfoldable pub steps_of : List ℕ → List Step
steps_of s = steps_from (length s) s 0
