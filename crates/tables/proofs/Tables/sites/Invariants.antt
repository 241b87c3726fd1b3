-- `Tables::sites` meets its contract. The sum is that of the first g sizes, each at most 255.
use Rattle.std.proofs.Common.{◌≡◌, ◌≤◌, ◌*◌}
use Rattle.tables.specs.Sites.{sites_in}
use Rattle.tables.proofs.Tables.sites.Given as goal

abbrev pub invariant-loop-g : goal.invariant-loop-g
invariant-loop-g l = (l.sum ≡ sites_in l.self.group l.g) × (l.sum ≤ 255 * l.g)
