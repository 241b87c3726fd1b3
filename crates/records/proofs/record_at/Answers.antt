-- At each `return` the tests that led there say which case of `record_at` holds.
use Rattle.std.proofs.Common.{◌+◌, ◌<◌, ◌≤◌, length, arith}
use borrow.Author.Tests.{le-leb, lt-leb}
use Rattle.records.specs.Record.{record_at, length_at}
use Rattle.records.proofs.record_at.Goals as goal

pub returns-then-s-lt3 : goal.returns-then-s-lt3
unfolding record_at
returns-then-s-lt3 c = let a = c.args in
    let h : length a.s.now < a.at + 3 = grind arith in
    simp (lt-leb _ _ h)

pub returns-then-s-start : goal.returns-then-s-start
unfolding record_at
returns-then-s-start c = let a = c.args in
    let h : a.at + 3 ≤ length a.s.now = omega arith in
    let e : length a.s.now < a.at + 3 + length_at a.s.now a.at = omega (arith, c.read.ensures, c.from-len.ensures) in
    simp (le-leb _ _ h, lt-leb _ _ e)

pub returns : goal.returns
unfolding record_at
returns c = let a = c.args in
    let h : a.at + 3 ≤ length a.s.now = omega arith in
    let e : a.at + 3 + length_at a.s.now a.at ≤ length a.s.now = omega (arith, c.read.ensures, c.from-len.ensures) in
    simp (le-leb _ _ h, le-leb _ _ e, c.read.ensures, c.from-len.ensures)
