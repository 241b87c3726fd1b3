-- At each `return` the tests that led there say which case of `pairs_fit` holds; past the end both counts are 0.
use Rattle.std.proofs.Common.{◌≡◌, ◌+◌, arith, get_or}
use lib.ListN.{get_or-eq_default}
use borrow.Author.Tests.{le-leb, lt-leb}
use Rattle.records.specs.Rule.{pairs_fit}
use Rattle.records.proofs.pairs_fit.Goals as goal

pub returns-then-len-lt2 : goal.returns-then-len-lt2
unfolding pairs_fit
returns-then-len-lt2 c = simp (lt-leb _ _ c.if-len-lt2.true)

pub returns-then-s-start : goal.returns-then-s-start
unfolding pairs_fit
returns-then-s-start c = let a = c.args in
    let e : get_or a.s.now a.start 0 ≡ 0 = get_or-eq_default a.s.now 0 c.if-s-start.true in
    let f : get_or a.s.now (a.start + 1 + get_or a.s.now a.start 0) 0 ≡ 0 = get_or-eq_default a.s.now 0 (omega arith) in
    rw (f, e) (simp (le-leb _ _ c.if-len-lt2.false))

pub returns-then-len-r : goal.returns-then-len-r
unfolding pairs_fit
returns-then-len-r c = simp (← c.from-r.ensures, le-leb _ _ c.if-len-lt2.false, lt-leb _ _ c.if-len-r.true)

pub returns : goal.returns
unfolding pairs_fit
returns c = simp (← c.from-r.ensures, le-leb _ _ c.if-len-lt2.false, le-leb _ _ c.if-len-r.false, c.byte_at.ensures, c.from-w.ensures)
