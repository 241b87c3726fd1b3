use Rattle.std.proofs.Common.{◌≡◌, arith}
use Rattle.tables.proofs.Filled.{fill_start, fill_all}
use Rattle.tables.proofs.Tables.first_store.Goals as goal

pub loop-j-init : goal.loop-j-init
loop-j-init c = fill_start c.args.self.now

pub returns : goal.returns
returns c = let z : c.loop-j.j ≡ 1024 = omega arith in fill_all _ _ (rw z at c.loop-j.invariant)
