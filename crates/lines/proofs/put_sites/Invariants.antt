-- `lines::put_sites` meets its contract. The invariant: the items of the first s sites are written.
use Rattle.std.proofs.Common.{◌+◌, ◌*◌, ◌≤◌}
use Rattle.tables.specs.Sites.{site_keys}
use Rattle.text.specs.Text.{each}
use Rattle.text.specs.Wrote.{Writes}
use Rattle.lines.specs.Lines.{item_lines}
use Rattle.lines.proofs.put_sites.Given as goal

abbrev pub invariant-loop-s : goal.invariant-loop-s
invariant-loop-s l =
    (l.w.at ≤ l.fn.w.at + 3136 * l.s) × Writes l.fn.w l.w (each l.s (λ z. item_lines l.st.parts.versions l.st.parts.values (site_keys l.st.tables z) l.st.tables.keys z))
