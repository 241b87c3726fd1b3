-- `text::put_text` meets its contract. The invariant: the bytes so far are written.
use Rattle.std.proofs.Common.{◌≡◌, ◌+◌, take}
use Rattle.text.specs.Wrote.{Wrote}
use Rattle.text.proofs.put_text.Given as goal

abbrev pub invariant-loop-b : goal.invariant-loop-b
invariant-loop-b l = (l.next ≡ l.at + l.b-index) × Wrote l.initial.out l.at l.out l.next (take l.b-index l.s)
