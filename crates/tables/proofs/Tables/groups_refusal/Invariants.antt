-- `Tables::groups_refusal` meets its contract. No group below g is refused, and n counts their sites; `stops` takes the first refusal out of the loop.
use Rattle.std.proofs.Common.{◌≡◌, ◌≤◌, ◌*◌}
use Rattle.bounded.specs.Bounded.{first_of}
use Rattle.tables.specs.Judge.{group_refusal}
use Rattle.tables.specs.Sites.{sites_in}
use Rattle.tables.proofs.Tables.groups_refusal.Given as goal

abbrev pub invariant-loop-g : goal.invariant-loop-g
invariant-loop-g l = (first_of l.g (group_refusal l.self) ≡ 0) × (l.n ≡ sites_in l.self.group l.g) × (l.n ≤ 255 * l.g)
