-- The loop's invariant: the walk from where the loop is comes to the cut.
use Rattle.std.proofs.Common.{suc, ◌-◌, ◌≡◌, length}
use Rattle.files.specs.Walk.{walk}
use Rattle.files.specs.Cut.{cut_of, cut_turn}
use Rattle.files.proofs.cut.Given as goal

abbrev pub invariant-loop-record : goal.invariant-loop-record
invariant-loop-record l = walk (cut_turn l.file) (length l.file) (suc (length l.file - l.at)) l.at ≡ cut_of l.file

abbrev pub decreases-loop-record : goal.decreases-loop-record
decreases-loop-record l = length l.file - l.at
