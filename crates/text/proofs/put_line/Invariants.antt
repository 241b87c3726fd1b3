-- `text::put_line` meets its contract. The invariant: from where the word ended, the fields so far are written.
use Rattle.std.proofs.Common.{◌∷◌, ◌+◌, ◌*◌, ◌≤◌, get_or}
use Rattle.text.specs.Text.{digits_of, each}
use Rattle.text.specs.Wrote.{Wrote}
use Rattle.text.proofs.put_line.Given as goal

abbrev pub invariant-loop-n : goal.invariant-loop-n
invariant-loop-n l =
    (l.next ≤ l.initial.next + 11 * l.n-index)
    × Wrote l.initial.out l.initial.next l.out l.next (each l.n-index (λ j. 32 ∷ digits_of (get_or l.ns j 0)))
