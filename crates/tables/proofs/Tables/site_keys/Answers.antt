use Rattle.std.proofs.Common.{◌≡◌, ◌<◌, ◌-◌, arith, le-ltb, lt-ltb}
use Rattle.tables.specs.Sites.{keys_from}
use Rattle.tables.proofs.Laws.{keys_turn}
use Rattle.tables.proofs.Tables.site_keys.Goals as goal

pub returns-then-left-size : goal.returns-then-left-size
returns-then-left-size c =
    let l : c.loop-g.g < c.args.self.now.groups = omega arith in
    rw (← c.loop-g.invariant, keys_turn _ _ _ _ l, ← c.from-size.ensures, lt-ltb _ _ c.if-left-size.true)

pub loop-g-preserved : goal.loop-g-preserved
loop-g-preserved c =
    let l : c.loop-g.g < c.args.self.now.groups = omega arith in
    rw (← c.loop-g.invariant, keys_turn _ _ _ _ l, ← c.from-size.ensures, le-ltb _ _ c.if-left-size.false)

pub returns : goal.returns
unfolding keys_from
returns c = let z : c.args.self.now.groups - c.loop-g.g ≡ 0 = omega arith in rw (← c.loop-g.invariant, z)
