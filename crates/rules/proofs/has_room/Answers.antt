-- `rules::has_room` meets its contract. The chain asks each of the writes; a key that the site holds is below 64.
use Rattle.std.proofs.Common.{rules}
use Rattle.std.proofs.iter.Serving.{serving}
use Rattle.bounded.proofs.Ranges.{all_below_Rev}
use Rattle.keys.proofs.Laws.{low}
use Rattle.rules.specs.Votes.{room_in}
use Rattle.rules.proofs.has_room.Goals as goal

pub all-requires-clause-callable : goal.all-requires-clause-callable
all-requires-clause-callable c = grind (serving, low 64)

pub returns : goal.returns
unfolding room_in
returns c p = rw (← p.site_sets c.args.s c.requires.t_bound.1) (all_below_Rev _ _ _ _ _ _ _ c.all.ensures.ran (λ x b q h. (search rules, λ l. search rules)) c.rev.ensures.source c.writes.ensures)
