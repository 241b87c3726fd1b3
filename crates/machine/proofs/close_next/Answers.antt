-- `machine::close_next` meets its contract. CLOSE is one turn, and `after_close` says what is known after it.
use Rattle.std.proofs.Common.{arith}
use Rattle.machine.proofs.Loop.{accepted, closes, turn_closes}
use Rattle.machine.proofs.Stores.{close_may, close_left}
use Rattle.machine.proofs.close_next.Goals as goal

pub close-requires : goal.close-requires
close-requires c = let (r, e) = c.requires in (r.0, close_may _ _ r _ _ (accepted _ r.1 e))

pub after_close-requires : goal.after_close-requires
after_close-requires c = let (r, e) = c.requires in omega (arith, (closes _ r.1 e).site, r.0.fits.sites)

pub returns : goal.returns
returns c = λ k.
    let (r, e) = c.requires in
    let left = close_left _ _ r _ _ (accepted _ r.1 e) in
    turn_closes _ r.1 _ _ _ _ _ _ e (rw c.close.ensures.1 left) (rw c.from.ensures at c.after_close.ensures.0) k
