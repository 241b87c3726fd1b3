use Rattle.std.proofs.Common.{ℕ, ◌≡◌, ◌&&◌, ltb, rules, get_or}
use Rattle.keys.specs.Keys.{member}
use Rattle.plan.proofs.Made.{made}
use Rattle.plan.proofs.holder_sets.Goals as goal

pub returns : goal.returns
unfolding member
returns c k s l =
    made _ _ (λ k x. (s : ℕ) → member x s ≡ (ltb s c.args.n && member (get_or c.args.site_sets.now s 0) k)) (λ x y q h. search rules) _ 64 c.from_fn.ensures.items k 0 l s
