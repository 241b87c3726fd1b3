-- The stores are those of `with_txn`; the counts, at most eight, give each row its room.
use Rattle.std.proofs.Common.{◌≤◌, arith}
use Rattle.records.proofs.Laws.{byte}
use Rattle.files.specs.Rows.{with_txn}
use Rattle.files.proofs.with_txn.Goals as goal
use Rattle.files.proofs.with_txn.Goals.{After-from-m}

-- the counts, which are at most eight
few_reads : (c : After-from-m) → c.from-n.result ≤ 8
few_reads c = rw (c.from-n.ensures, ← byte) c.requires.start_bound.0

few_writes : (c : After-from-m) → c.from-m.result ≤ 8
few_writes c = rw (c.from-m.ensures, c.from-n.ensures) (simp byte at c.requires.start_bound.1)

pub put_row-requires : goal.put_row-requires
put_row-requires c = let f = few_reads (goal.at.put_row-requires c).After-from-m in
    (omega (arith, c.requires.start_in_bounds.1), omega (arith, c.requires.start_in_bounds.0))

pub put_row-requires-2 : goal.put_row-requires-2
put_row-requires-2 c = let f = few_writes (goal.at.put_row-requires-2 c).After-from-m in
    let m = rw c.from-n.ensures at c.from-m.ensures in
    (omega (arith, c.requires.start_in_bounds.1), omega (arith, c.requires.start_in_bounds.0))

pub put_row-requires-3 : goal.put_row-requires-3
put_row-requires-3 c = let f = few_writes (goal.at.put_row-requires-3 c).After-from-m in
    let m = rw c.from-n.ensures at c.from-m.ensures in
    (omega (arith, c.requires.start_in_bounds.1), omega (arith, c.requires.start_in_bounds.0))

pub returns : goal.returns
unfolding with_txn
returns c = rw (c.put_row-3.ensures, c.put_row-2.ensures, c.put_row.ensures, c.from-m.ensures, c.from-n.ensures, c.from-x.ensures) (simp byte)
