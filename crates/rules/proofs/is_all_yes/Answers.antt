-- `rules::is_all_yes` meets its contract. The chain asks each of the n sites.
use Rattle.std.proofs.Common.{rules, refl}
use Rattle.bounded.proofs.Ranges.{all_below_Rev}
use Rattle.rules.specs.Votes.{all_yes_in}
use Rattle.rules.proofs.is_all_yes.Goals as goal

pub returns : goal.returns
unfolding all_yes_in
returns c carried s held =
    all_below_Rev _ _ _ _ _ _ _ c.all.ensures.ran (λ f b q h. rw (← held f) (search rules, λ l. search rules)) c.rev.ensures.source refl
