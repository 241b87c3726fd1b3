-- `queues::is_blocked` meets its contract. Its search is that of `blocked_in`.
use Rattle.std.proofs.Common.{rules}
use Rattle.bounded.proofs.Ranges.{any_below_Rev}
use Rattle.queues.specs.Queue.{blocked_in}
use Rattle.queues.proofs.is_blocked.Goals as goal

pub returns : goal.returns
unfolding blocked_in
returns c p l = any_below_Rev _ _ _ _ _ _ _ c.any.ensures.ran (λ x b q h. (search rules, λ m. search rules)) c.rev.ensures.source c.from.ensures
