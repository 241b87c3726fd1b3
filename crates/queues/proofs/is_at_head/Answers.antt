-- `queues::is_at_head` meets its contract. Its search is that of `head_in`.
use Rattle.std.proofs.Common.{rules, ap, not}
use Rattle.bounded.proofs.Ranges.{any_below_Rev}
use Rattle.queues.specs.Queue.{head_in}
use Rattle.queues.proofs.is_at_head.Goals as goal

pub returns : goal.returns
unfolding head_in
returns c = ap not (any_below_Rev _ _ _ _ _ _ _ c.any.ensures.ran (λ x b q h. (search rules, λ l. search rules)) c.rev.ensures.source c.from.ensures)
