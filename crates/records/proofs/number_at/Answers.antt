use Rattle.std.proofs.Common.{ℕ, ◌+◌, ◌*◌, ◌<◌, ◌^◌, refl, arith, get_or}
use Rattle.records.specs.Number.{number}
use Rattle.records.proofs.Laws.{number_up, byte_more, narrower}
use Rattle.records.proofs.number_at.Goals as goal

-- with the next byte, v is a number of one byte more, so it fits
more_fits : (i v b : ℕ) → i < 8 → v < 2 ^ (8 * i) → b < 256 → v * 256 + b < 2 ^ 64
more_fits i v b h p q = narrower (i + 1) 8 (v * 256 + b) (omega arith) (byte_more i v b p q)

pub loop-i-init : goal.loop-i-init
unfolding number
loop-i-init c = (refl, omega arith)

pub overflow_mul-v : goal.overflow_mul-v
overflow_mul-v c = omega (arith, more_fits c.loop-i.i c.loop-i.v 0 (omega arith) c.loop-i.invariant.1 (omega arith))

pub overflow_add-v : goal.overflow_add-v
overflow_add-v c = let b : get_or c.args.s.now (c.args.at + c.loop-i.i) 0 < 256 = (c.type_inv.s _).fits in
    omega (arith, more_fits c.loop-i.i c.loop-i.v _ (omega arith) c.loop-i.invariant.1 b)

pub loop-i-preserved : goal.loop-i-preserved
loop-i-preserved c = let b : get_or c.args.s.now (c.args.at + c.loop-i.i) 0 < 256 = (c.type_inv.s _).fits in
    (rw (number_up, ← c.loop-i.invariant.0, c.from.ensures), rw c.from.ensures (byte_more c.loop-i.i c.loop-i.v _ c.loop-i.invariant.1 b))
