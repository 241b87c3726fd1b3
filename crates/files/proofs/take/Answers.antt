-- A record judged good is as long as its tag says.
use Rattle.std.proofs.Common.{arith}
use Rattle.files.proofs.Fine.{keys_length, group_length, txn_length, txn_left}
use Rattle.files.proofs.take.Goals as goal

pub with_keys-requires : goal.with_keys-requires
with_keys-requires c = (c.requires.lies, keys_length _ _ _ (rw c.in-1.is at c.requires.fitting))

pub take_group-requires : goal.take_group-requires
take_group-requires c =
    let l = group_length _ _ _ (rw c.in-2.is at c.requires.fitting) in
    omega (arith, c.requires.lies)

pub take_txn-requires : goal.take_txn-requires
take_txn-requires c =
    let e = txn_left _ _ _ _ c.requires.allowed.0 c.requires.allowed.1 (omega arith) (omega arith) in
    let l = txn_length _ _ _ (rw e at c.requires.fitting) in
    omega (arith, c.requires.lies)
