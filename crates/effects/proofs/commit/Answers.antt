use Rattle.std.proofs.Common.{rules, arith, ◌≡◌, sym, ◌∙◌, ◌+◌, ◌*◌, ◌<◌, true, get_or}
use Rattle.keys.proofs.Laws.{low}
use Rattle.tables.specs.Lists.{write_key}
use Rattle.tables.specs.Sites.{holds}
use Rattle.effects.proofs.Stores.{none_written, one_written, one_skipped}
use Rattle.effects.proofs.commit.Goals as goal
use Rattle.effects.proofs.commit.Goals.{After-has, then-has, else-has}

-- whether s holds the key
held : (c : After-has) → holds c.args.plan.now.tables c.args.s (write_key c.args.plan.now.tables c.args.t c.loop-i.i) ≡ c.has.result
held c = rw (← c.requires.planned.site_sets c.args.s (omega arith), ← c.write_key-k.ensures.0) (sym c.has.ensures)

-- a key that s holds is below 64, so its cell is in the stores
inside : (c : After-has) → c.has.result ≡ true → c.args.s * 64 + c.write_key-k.result < 1024
inside c h = let b = low 64 (get_or c.args.plan.now.site_sets c.args.s 0) c.write_key-k.result (search rules) (sym c.has.ensures ∙ h) in omega (arith, b)

pub loop-i-init : goal.loop-i-init
loop-i-init c = sym (none_written _ _ _ _)

pub bounds-w-at : goal.bounds-w-at
bounds-w-at c = inside (goal.at.bounds-w-at c).After-has c.if-has.true

pub bounds-w-at-then-has : goal.bounds-w-at-then-has
bounds-w-at-then-has c = inside (goal.at.bounds-w-at-then-has c).After-has c.if-has.true

pub bounds-w-at-then-has-2 : goal.bounds-w-at-then-has-2
bounds-w-at-then-has-2 c = inside (goal.at.bounds-w-at-then-has-2 c).After-has c.if-has.true

pub loop-i-preserved : goal.loop-i-preserved
loop-i-preserved c =
    let h = held (goal.at.loop-i-preserved c).After-has in
    elim c.if-has.branch [
      | then-has w ↦ rw (w.w-is, w.given.ensures, c.write_key-k.ensures.0, c.loop-i.invariant) (sym (one_written _ _ _ _ _ (h ∙ w.if-has.true)))
      | else-has w ↦ w.w-is ∙ c.loop-i.invariant ∙ sym (one_skipped _ _ _ _ _ (h ∙ w.if-has.false))
    ]
