-- A record that is not good is refused; a good one is END or is taken into the tables.
use Rattle.std.proofs.Common.{sym, ◌≡◌, ◌∙◌, arith, eq-eqb, ne_eqb, of_calls}
use Rattle.records.specs.Record.{record_at}
use Rattle.records.specs.Judge.{judge_at}
use Rattle.records.proofs.Good.{good_is, one_tag}
use Rattle.files.specs.Setup.{in_setup, turn_of}
use Rattle.files.proofs.Refusals.{handed, placed_ok, judged_err, taken_ok, taken_err}
use Rattle.files.proofs.turn.Goals as goal
use Rattle.files.proofs.turn.Goals.{After-judge_at}

-- only the tag of what was found is asked about
judged : (c : After-judge_at) → c.judge_at.result ≡ judge_at (in_setup c.args.t.now) c.args.s.now c.args.at
unfolding judge_at
judged c = c.judge_at.ensures.2 ∙ one_tag (in_setup c.args.t.now) c.args.s.now (record_at c.args.s.now c.args.at) c.judge_at.ensures.0 (search of_calls)

pub returns-in_err-record : goal.returns-in_err-record
returns-in_err-record c =
    rw (handed _ _ c.from_residual.ensures.1)
    (judged_err _ _ _ _ _ (judged (goal.at.returns-in_err-record c).After-judge_at) c.in_err-record.ensures)

pub returns-then-record-eq-END : goal.returns-then-record-eq-END
unfolding turn_of
returns-then-record-eq-END c =
    rw (← judged (goal.at.returns-then-record-eq-END c).After-judge_at, placed_ok _ _ _ c.in_ok-record.ensures, eq-eqb _ _ c.if-record-eq-END.true)
    c.ended.ensures

pub take-requires : goal.take-requires
take-requires c = let i = good_is (sym (judged (goal.at.take-requires c).After-judge_at) ∙ placed_ok _ _ _ c.in_ok-record.ensures) in
    record { lies = omega (arith, i.lies); fitting = i.fitting; allowed = (i.allowed, c.if-record-eq-END.false) }

pub returns-in_err-t : goal.returns-in_err-t
unfolding turn_of
returns-in_err-t c =
    rw (handed _ _ c.from_residual-in_err-t.ensures.1, ← judged (goal.at.returns-in_err-t c).After-judge_at, placed_ok _ _ _ c.in_ok-record.ensures, ne_eqb _ _ c.if-record-eq-END.false)
    (taken_err _ _ _ _ _ _ c.take.ensures _ c.in_err-t.ensures)

pub returns : goal.returns
unfolding turn_of
returns c =
    rw (← judged (goal.at.returns c).After-judge_at, placed_ok _ _ _ c.in_ok-record.ensures, ne_eqb _ _ c.if-record-eq-END.false)
    (taken_ok _ _ _ _ _ _ c.take.ensures _ c.in_ok-t.ensures)
