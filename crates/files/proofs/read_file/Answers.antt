use Rattle.std.proofs.Common.{◌+◌, ◌<◌, ◌≤◌, length, arith, lt-ltb, le-ltb}
use Rattle.files.specs.File.{limit, file_of}
use Rattle.files.proofs.read_file.Goals as goal

pub returns-then-setup-gt-LIMIT : goal.returns-then-setup-gt-LIMIT
unfolding file_of
returns-then-setup-gt-LIMIT c = let a = c.args in
    let h : limit < length a.setup.now + length a.schedule.now = grind arith in
    rw (lt-ltb _ _ h, c.no_tables.ensures)

pub returns : goal.returns
unfolding file_of
returns c = let a = c.args in
    let h : length a.setup.now + length a.schedule.now ≤ limit = omega arith in
    rw (le-ltb _ _ h, c.parts_outcome.ensures, c.read_setup-read.ensures)
