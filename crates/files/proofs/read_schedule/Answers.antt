use Rattle.std.proofs.Common.{◌≡◌, sym, ◌∙◌, eq-eqb, ne_eqb, of_calls}
use native.Mathlib.Nat.{sub-zero}
use Rattle.records.specs.Record.{record_at}
use Rattle.records.specs.Judge.{judge_at}
use Rattle.records.proofs.Good.{one_tag}
use Rattle.files.specs.Schedule.{in_schedule, schedule_turn, read_schedule}
use Rattle.files.specs.Walk.{go, stop}
use Rattle.files.proofs.Falls.{schedule_falls}
use Rattle.files.proofs.Walk.{walk_stops, walk_goes}
use Rattle.files.proofs.Refusals.{handed, placed_ok, schedule_err}
use Rattle.files.proofs.read_schedule.Goals as goal
use Rattle.files.proofs.read_schedule.Goals.{After-judge_at, After-from_residual, In_ok-record}

-- only the tag of what was found is asked about
judged : (c : After-judge_at) → judge_at in_schedule c.args.s.now c.loop-at.at ≡ c.judge_at.result
unfolding judge_at
judged c = sym (c.judge_at.ensures.2 ∙ one_tag in_schedule c.args.s.now (record_at c.args.s.now c.loop-at.at) c.judge_at.ensures.0 (search of_calls))

-- a record that is judged good: the turn goes on
goes : (c : In_ok-record) → judge_at in_schedule c.args.s.now c.loop-at.at ≡ c.judge_at.result → schedule_turn c.args.s.now c.loop-at.at ≡ go c.in_ok-record.«record».next
unfolding schedule_turn
goes c j = rw (ne_eqb _ _ c.loop-at-test.true, j, placed_ok _ _ _ c.in_ok-record.ensures)

-- one that is not: it stops with the refusal
stops : (c : After-from_residual) → judge_at in_schedule c.args.s.now c.loop-at.at ≡ c.judge_at.result → schedule_turn c.args.s.now c.loop-at.at ≡ stop c.from_residual.result
unfolding schedule_turn
stops c j =
    rw (ne_eqb _ _ c.loop-at-test.true, j, handed _ _ c.from_residual.ensures.1) (schedule_err _ _ _ c.in_err-record.ensures)

pub loop-at-init : goal.loop-at-init
unfolding read_schedule
loop-at-init c = rw sub-zero

pub returns-in_err-record : goal.returns-in_err-record
returns-in_err-record c = sym (walk_stops _ _ _ _ _ (stops (goal.at.returns-in_err-record c).After-from_residual (judged (goal.at.returns-in_err-record c).After-judge_at))) ∙ c.loop-at.invariant

pub loop-at-smaller : goal.loop-at-smaller
loop-at-smaller c = schedule_falls _ _ _ (goes (goal.at.loop-at-smaller c).In_ok-record (judged (goal.at.loop-at-smaller c).After-judge_at))

pub loop-at-preserved : goal.loop-at-preserved
loop-at-preserved c = walk_goes _ _ _ (schedule_falls _) _ _ (goes (goal.at.loop-at-preserved c).In_ok-record (judged (goal.at.loop-at-preserved c).After-judge_at)) ∙ c.loop-at.invariant

pub returns : goal.returns
unfolding schedule_turn
returns c = sym (walk_stops _ _ _ _ _ (rw (eq-eqb _ _ c.loop-at-test.false))) ∙ c.loop-at.invariant
