-- `machine::take_in` meets its contract. With no refusal each arm knows its step, and the effect says the rest.
use Rattle.std.proofs.Common.{◌≡◌, ◌+◌, ◌*◌, ◌<◌, refl, sym, arith, lt-ltb}
use Rattle.std.proofs.lemmas.Result.{err_from_is_err_and}
use Rattle.refusals.proofs.Passed.{read_has, submit_has, deliver_has, carry_has}
use Rattle.refusals.specs.Refusals.{refusal_in}
use Rattle.tables.specs.Lists.{read_key}
use Rattle.machine.specs.Refusals.{refusal}
use Rattle.machine.specs.Lent.{state_of}
use Rattle.machine.proofs.Lent.{refuses, settles, delivers, read_taken, submit_taken, carry_taken}
use Rattle.machine.proofs.Stores.{close_may, close_taken}
use Rattle.machine.proofs.take_in.Goals as goal
use Rattle.machine.proofs.take_in.Goals.{In_ok-refusal}

-- there is no refusal
ok : (c : In_ok-refusal) → refusal (state_of c.args.plan.now c.args.w.now) c.args.x ≡ 0
ok c = sym (c.in_ok-refusal.ensures c.requires.0)

pub returns-in_err-refusal : goal.returns-in_err-refusal
returns-in_err-refusal c = λ _.
    let p = err_from_is_err_and c.from_residual.result c.from_residual.ensures.1 in
    rw (p.1, p.2) (refuses _ _ _ (c.in_err-refusal.ensures c.requires.0))

pub read_found-requires-clause-t_bound : goal.read_found-requires-clause-t_bound
unfolding refusal_in
read_found-requires-clause-t_bound c = let k = read_has _ _ _ _ _ c.requires.0.fits (rw c.in-Read.is at (ok (goal.at.read_found-requires-clause-t_bound c).In_ok-refusal)) in (k.row, (k.read, k.site))

pub submit-requires-clause-t_bound : goal.submit-requires-clause-t_bound
unfolding refusal_in
submit-requires-clause-t_bound c = submit_has _ _ _ _ c.requires.0.fits (rw c.in-Submit.is at (ok (goal.at.submit-requires-clause-t_bound c).In_ok-refusal))

pub deliver-requires : goal.deliver-requires
unfolding refusal_in
deliver-requires c = let p = c.requires.0 in
    let k = deliver_has _ _ _ _ _ p.fits (rw c.in-Deliver.is at (ok (goal.at.deliver-requires c).In_ok-refusal)) in
    (p, (omega (arith, k.0, p.fits.sites), k.1))

pub carry-requires : goal.carry-requires
unfolding refusal_in
carry-requires c = let p = c.requires.0 in
    let k = carry_has _ _ _ _ _ _ (rw c.in-Carry.is at (ok (goal.at.carry-requires c).In_ok-refusal)) in
    (omega (arith, k.txn, p.fits.txns), (omega (arith, k.giver, p.fits.sites), omega (arith, k.taker, p.fits.sites)))

pub close-requires : goal.close-requires
unfolding refusal_in
close-requires c = (c.requires.0, close_may _ _ c.requires _ _ (rw c.in-Close.is at (ok (goal.at.close-requires c).In_ok-refusal)))

pub returns-in-Read : goal.returns-in-Read
unfolding refusal_in
returns-in-Read c = λ _. let z = ok (goal.at.returns-in-Read c).In_ok-refusal in let p = c.requires.0 in let x = c.in-Read in
    let k = read_has _ _ _ _ _ p.fits (rw c.in-Read.is at z) in
    -- a key that t reads is in the store
    let low : x.s * 64 + read_key c.args.plan.now.tables x.t x.i < 1024 = omega (arith, k.site, p.laid.read_low _ _ k.txn k.count) in
    rw (c.in-Read.is, c.read_found.ensures.value, c.read_found.ensures.parts, lt-ltb _ _ low) (read_taken c.args.plan.now c.args.w.now _ _ _ (rw c.in-Read.is at z))

pub returns-in-Submit : goal.returns-in-Submit
unfolding refusal_in
returns-in-Submit c = λ _. let z = ok (goal.at.returns-in-Submit c).In_ok-refusal in
    let e = c.submit.ensures in
    rw (c.in-Submit.is, e.0, e.1) (submit_taken c.args.plan.now c.args.w.now _ (rw c.in-Submit.is at z))

pub returns-in-Deliver : goal.returns-in-Deliver
unfolding refusal_in
returns-in-Deliver c = λ _. let z = ok (goal.at.returns-in-Deliver c).In_ok-refusal in
    let e = c.deliver.ensures in
    rw (c.in-Deliver.is, e.0, e.1) (delivers _ _ _ _ _ (rw c.in-Deliver.is at z) refl refl refl)

pub returns-in-Carry : goal.returns-in-Carry
unfolding refusal_in
returns-in-Carry c = λ _. let z = ok (goal.at.returns-in-Carry c).In_ok-refusal in
    rw (c.in-Carry.is, c.carry.ensures.value, c.carry.ensures.parts) (carry_taken c.args.plan.now c.args.w.now _ _ _ (rw c.in-Carry.is at z))

pub returns-in-Close : goal.returns-in-Close
unfolding refusal_in
returns-in-Close c = λ _. let z = ok (goal.at.returns-in-Close c).In_ok-refusal in
    let e = c.close.ensures in
    rw (c.in-Close.is, e.0, e.1) (close_taken _ _ c.requires _ _ (rw c.in-Close.is at z))

pub returns-in-Settle : goal.returns-in-Settle
returns-in-Settle c = λ h. let e = c.take_settle.ensures h in rw c.in-Settle.is (settles _ _ _ e.0 e.1)
