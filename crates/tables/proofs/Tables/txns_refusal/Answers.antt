use Rattle.std.proofs.Common.{refl, sym, ◌∙◌}
use Rattle.bounded.specs.Bounded.{first_of}
use Rattle.bounded.proofs.Laws.{of_up, stops}
use Rattle.tables.proofs.Laws.{handed}
use Rattle.numbers.proofs.Laws.{file_above}
use Rattle.tables.proofs.Tables.txns_refusal.Goals as goal

pub loop-t-init : goal.loop-t-init
unfolding first_of
loop-t-init c = refl

pub returns-in_err-txn_refusal : goal.returns-in_err-txn_refusal
returns-in_err-txn_refusal c = handed _ _ c.from_residual.ensures.1 ∙ stops _ _ _ _ c.loop-t-test.true c.loop-t.invariant c.in_err-txn_refusal.ensures (file_above _)

pub loop-t-preserved : goal.loop-t-preserved
loop-t-preserved c = rw (of_up, c.loop-t.invariant) (sym c.in_ok-txn_refusal.ensures)
