-- `keys::with` meets its contract. A bit that is set stays, and one that is not is added; the width stays.
use Rattle.std.proofs.Common.{◌^◌}
use Rattle.std.proofs.Math.Pow.{pow-lt}
use Rattle.std.proofs.lemmas.Nat.{one_shl, or_lt}
use Rattle.keys.proofs.Laws.{or_one, or_one_member}
use Rattle.keys.proofs.with.Goals as goal

pub returns-clause-set : goal.returns-clause-set
returns-clause-set c = rw (one_shl c.args.k 64 c.requires) (or_one c.args.m c.args.k)

pub returns-clause-members : goal.returns-clause-members
returns-clause-members c = rw (one_shl c.args.k 64 c.requires) (or_one_member c.args.m c.args.k)

pub returns-clause-narrow : goal.returns-clause-narrow
returns-clause-narrow c h l = rw (one_shl c.args.k 64 c.requires) (or_lt 16 c.args.m (2 ^ c.args.k) h (pow-lt l))
