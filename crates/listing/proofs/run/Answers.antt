use Rattle.std.proofs.Common.{sym, ◌∙◌, arith}
use Rattle.records.proofs.Laws.{whole_lies}
use Rattle.machine.proofs.Laws.{usable_has, usable_fits}
use Rattle.listing.proofs.Laws.{starts, goes, ends}
use Rattle.listing.proofs.run.Goals as goal

pub of-plan-requires-clause-fits : goal.of-plan-requires-clause-fits
of-plan-requires-clause-fits c = usable_fits _ c.requires.usable.0

pub of-plan-requires-clause-by_index : goal.of-plan-requires-clause-by_index
of-plan-requires-clause-by_index c = let u = usable_has _ c.requires.usable.0 in λ t i l m. omega (arith, (u.reads t l).low i m, u.keys)

pub of-plan-requires-clause-by_index_2 : goal.of-plan-requires-clause-by_index_2
of-plan-requires-clause-by_index_2 c = let u = usable_has _ c.requires.usable.0 in λ t i l m. omega (arith, (u.writes t l).low i m, u.keys)

pub loop-record-init : goal.loop-record-init
loop-record-init c = (c.of-plan.ensures.0, starts c.requires.usable.0 c.requires.usable.1)

pub step_by-x-requires : goal.step_by-x-requires
step_by-x-requires c = omega (arith, whole_lies (sym c.record_from.ensures ∙ c.in-Ok.is))

pub put_step-requires : goal.put_step-requires
put_step-requires c =
    let v = c.loop-record.invariant.1 in
    let l = whole_lies (sym c.record_from.ensures ∙ c.in-Ok.is) in
    (omega (arith, c.requires.short, v.few, v.within), omega (arith, c.requires.room, v.short, l))

pub loop-record-smaller : goal.loop-record-smaller
loop-record-smaller c = omega (arith, whole_lies (sym c.record_from.ensures ∙ c.in-Ok.is))

pub loop-record-preserved : goal.loop-record-preserved
loop-record-preserved c =
    let (same, v) = c.loop-record.invariant in (
      same,
      goes
          v
          (sym c.record_from.ensures ∙ c.in-Ok.is)
          c.step_by-x.ensures
          (rw same at c.take_in-answer.ensures v.rests)
          c.idle_after-idle.ensures
          c.put_step.ensures.wrote
          c.put_step.ensures.upper_bound,
    )

pub returns-clause-state : goal.returns-clause-state
returns-clause-state c = (ends c.loop-record.invariant.1 _ c.record_from.ensures c.in_default.not-Ok).0

pub returns-clause-wrote : goal.returns-clause-wrote
returns-clause-wrote c = (ends c.loop-record.invariant.1 _ c.record_from.ensures c.in_default.not-Ok).1.0
