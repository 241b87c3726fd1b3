-- `Tables::txn_refusal` meets its contract. Counts that are not refused are at most eight, so the keys can be judged; a refusal of the counts stands before that of the keys.
use Rattle.std.proofs.Common.{sym, ◌∙◌, le-leb}
use Rattle.tables.specs.Judge.{txn_refusal, count_refusal}
use Rattle.tables.proofs.Laws.{handed, before, after, count_low}
use Rattle.tables.proofs.Tables.txn_refusal.Goals as goal

pub returns-then-t-ge128 : goal.returns-then-t-ge128
unfolding txn_refusal count_refusal
returns-then-t-ge128 c = simp (le-leb _ _ c.if-t-ge128.true)

pub returns-in_err-count_refusal : goal.returns-in_err-count_refusal
unfolding txn_refusal
returns-in_err-count_refusal c = handed _ _ c.from_residual.ensures.1 ∙ before _ _ _ (rw c.from-at.ensures at c.in_err-count_refusal.ensures)

pub key_refusal-requires-clause-t_bound_2 : goal.key_refusal-requires-clause-t_bound_2
key_refusal-requires-clause-t_bound_2 c = count_low _ _ _ (sym c.in_ok-count_refusal.ensures)

pub returns : goal.returns
unfolding txn_refusal
returns c = after _ _ _ (rw c.from-at.ensures at c.in_ok-count_refusal.ensures) (rw c.from-at.ensures at c.key_refusal.ensures)
