-- A transaction whose counts are right has room, and in the tables with it the same counts.
use Rattle.std.proofs.Common.{◌≡◌, sym, arith}
use Rattle.tables.specs.Judge.{count_refusal}
use Rattle.tables.proofs.Laws.{before, count_low}
use Rattle.records.proofs.Laws.{byte}
use Rattle.files.proofs.Txn.{first_count, second_count, read_count_lem, write_count_lem, txn_judged}
use Rattle.files.proofs.Fine.{txn_room}
use Rattle.files.proofs.Refusals.{handed, accepted_err}
use Rattle.files.proofs.take_txn.Goals as goal
use Rattle.files.proofs.take_txn.Goals.{In_ok-count_refusal}

-- the counts as the record has them refuse nothing
counted : (c : In_ok-count_refusal) → count_refusal c.args.t.txns (first_count c.args.s.now c.args.start) (second_count c.args.s.now c.args.start) ≡ 0
counted c = sym (rw c.from.ensures at c.in_ok-count_refusal.ensures)

pub returns-in_err-count_refusal : goal.returns-in_err-count_refusal
returns-in_err-count_refusal c =
    let a = c.args in
    rw (handed _ _ c.from_residual.ensures.1, txn_judged a.t a.s.now a.start (omega arith))
    (accepted_err _ _ _ (before _ _ _ (rw c.from.ensures at c.in_err-count_refusal.ensures)))

pub with_txn-new-requires : goal.with_txn-new-requires
with_txn-new-requires c = let z = counted (goal.at.with_txn-new-requires c).In_ok-count_refusal in
    record { start_in_bounds = (c.requires, txn_room _ _ _ z); start_bound = (rw byte (count_low _ _ _ z).0, simp byte (count_low _ _ _ z).1) }

pub key_refusal-requires : goal.key_refusal-requires
key_refusal-requires c =
    let a = c.args in
    let z = counted (goal.at.key_refusal-requires c).In_ok-count_refusal in
    let l = txn_room _ _ _ z in
    record {
      t_bound = rw c.from-2.ensures l;
      t_bound_2 = (
        rw (c.with_txn-new.ensures, c.from-2.ensures, read_count_lem a.t a.s.now a.start (omega arith) l) (count_low _ _ _ z).0,
        rw (c.with_txn-new.ensures, c.from-2.ensures, write_count_lem a.t a.s.now a.start (omega arith) l) (count_low _ _ _ z).1,
      );
    }

pub returns-in_err-key_refusal : goal.returns-in_err-key_refusal
returns-in_err-key_refusal c =
    let a = c.args in
    rw (handed _ _ c.from_residual-in_err-key_refusal.ensures.1, txn_judged a.t a.s.now a.start (omega arith), counted (goal.at.returns-in_err-key_refusal c).In_ok-count_refusal)
    (accepted_err _ _ _ (rw (c.with_txn-new.ensures, c.from-2.ensures) at c.in_err-key_refusal.ensures))

pub returns : goal.returns
returns c =
    let a = c.args in
    rw (c.with_txn-new.ensures, txn_judged a.t a.s.now a.start (omega arith), counted (goal.at.returns c).In_ok-count_refusal, ← (rw (c.with_txn-new.ensures, c.from-2.ensures) at c.in_ok-key_refusal.ensures))
