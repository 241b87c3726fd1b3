-- `lines::put_txns` meets its contract. The invariant: the lines of the first t transactions are written.
use Rattle.std.proofs.Common.{◌+◌, ◌*◌, ◌≤◌}
use Rattle.tables.specs.Sites.{site_count}
use Rattle.text.specs.Text.{each}
use Rattle.text.specs.Wrote.{Writes}
use Rattle.lines.specs.Lines.{txn_line}
use Rattle.lines.proofs.put_txns.Given as goal

abbrev pub invariant-loop-t : goal.invariant-loop-t
invariant-loop-t l =
    (l.w.at ≤ l.fn.w.at + 37 * l.t) × Writes l.fn.w l.w (each l.t (txn_line l.st.parts.places l.st.parts.closed (site_count l.st.tables)))
