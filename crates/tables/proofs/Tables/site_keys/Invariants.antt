-- `Tables::site_keys` meets its contract. The keys of the site that is `left` sites after the start of group g are those asked for; `keys_turn` is one turn.
use Rattle.std.proofs.Common.{◌≡◌, ◌-◌}
use Rattle.tables.specs.Sites.{keys_from}
use Rattle.tables.proofs.Tables.site_keys.Given as goal

abbrev pub invariant-loop-g : goal.invariant-loop-g
invariant-loop-g l = keys_from (l.self.groups - l.g) l.g l.self.group l.left ≡ keys_from l.self.groups 0 l.self.group l.s
