-- `lines::put_items` meets its contract. The invariant: the items of the first k keys are written.
use Rattle.std.proofs.Common.{cond, [], ◌+◌, ◌*◌, ◌≤◌}
use Rattle.keys.specs.Keys.{member}
use Rattle.text.specs.Text.{each}
use Rattle.text.specs.Wrote.{Writes}
use Rattle.lines.specs.Lines.{item_line}
use Rattle.lines.proofs.put_items.Given as goal

abbrev pub invariant-loop-k : goal.invariant-loop-k
invariant-loop-k l =
    (l.w.at ≤ l.fn.w.at + 49 * l.k) × Writes l.fn.w l.w (each l.k (λ j. cond (member l.m j) (item_line l.st.parts.versions l.st.parts.values l.s j) []))
