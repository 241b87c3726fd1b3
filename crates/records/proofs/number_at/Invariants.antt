-- The loop's invariant: v is the number of the first i bytes, and as small as i bytes make it.
use Rattle.std.proofs.Common.{◌≡◌, ◌*◌, ◌<◌, ◌^◌}
use Rattle.records.specs.Number.{number}
use Rattle.records.proofs.number_at.Given as goal

abbrev pub invariant-loop-i : goal.invariant-loop-i
invariant-loop-i l = (l.v ≡ number l.s l.at l.i) × (l.v < 2 ^ (8 * l.i))
