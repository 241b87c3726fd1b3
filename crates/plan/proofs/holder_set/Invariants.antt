-- The set has the holders before s.
use Rattle.std.proofs.Common.{ℕ, ◌≡◌, ◌&&◌, ltb, get_or}
use Rattle.keys.specs.Keys.{member}
use Rattle.plan.proofs.holder_set.Given as goal

abbrev pub invariant-loop-s : goal.invariant-loop-s
invariant-loop-s l = (j : ℕ) → member l.m j ≡ (ltb j l.s && member (get_or l.site_sets j 0) l.k)
