use Rattle.std.proofs.Common.{rules, sym, ◌∙◌, arith, true, false}
use Rattle.bounded.specs.Bounded.{first_below}
use Rattle.bounded.proofs.Truth.{and_put}
use Rattle.queues.specs.Queue.{next_in}
use Rattle.queues.proofs.Queue.{found_up, and_left, and_right}
use Rattle.queues.proofs.next_at.Goals as goal
use Rattle.queues.proofs.next_at.Goals.{then-is_waiting+then-is_sooner, else-is_waiting, else-is_waiting-via-then-is_waiting+else-is_sooner, else-is_waiting-via-else-is_waiting}

pub loop-t-init : goal.loop-t-init
unfolding next_in first_below
loop-t-init c = search rules

pub loop-t-preserved : goal.loop-t-preserved
unfolding next_in
loop-t-preserved c = elim c.if-is_waiting.branch [
  | then-is_waiting+then-is_sooner w ↦ (
    rw w.found-is (omega arith),
    λ P. rw w.found-is
        (found_up _ _ _ _ _ true (c.loop-t.invariant.1 P) (and_put _ _ (sym (rw c.from.ensures at (c.is_waiting.ensures P (omega arith))) ∙ w.if-is_waiting.true) (sym w.is_sooner.ensures ∙ w.if-is_sooner.true))),
  )
  | else-is_waiting w ↦ (
    rw w.found-is c.loop-t.invariant.0,
    λ P. rw w.found-is (found_up _ _ _ _ _ false (c.loop-t.invariant.1 P) (elim w.else-is_waiting.branch [
      | else-is_waiting-via-then-is_waiting+else-is_sooner u ↦ and_right _ _ (sym u.is_sooner.ensures ∙ u.if-is_sooner.false)
      | else-is_waiting-via-else-is_waiting u ↦ and_left _ _ (sym (rw c.from.ensures at (c.is_waiting.ensures P (omega arith))) ∙ u.if-is_waiting.false)
    ])),
  )
]
