-- `search::pair_from` meets its contract. No pair before the one found has a vote to carry; of a local transaction none has.
use Rattle.std.proofs.Common.{◌≡◌, true, false, sym, ◌∙◌, rules}
use Rattle.std.proofs.lemmas.Iterator.{first_from_Range}
use Rattle.search.proofs.Pair.{open_pair, pair_search, pair_local}
use Rattle.search.proofs.pair_from.Goals as goal

pub returns-then-is_local-clause-value : goal.returns-then-is_local-clause-value
returns-then-is_local-clause-value c p k =
    sym (pair_local c.args.plan.now.tables c.args.w.now.cast c.args.w.now.carried c.args.t (sym (c.is_local.ensures p c.requires.t_bound) ∙ c.if-is_local.true))

pub returns-clause-value : goal.returns-clause-value
returns-clause-value c p k = let a = c.args in
    pair_search a.plan.now.tables a.w.now.cast a.w.now.carried a.t a.p c.find.result k
    (first_from_Range _ _ _ _ (λ q. open_pair a.plan.now.tables a.w.now.cast a.w.now.carried a.t q ≡ true) (λ q. open_pair a.plan.now.tables a.w.now.cast a.w.now.carried a.t q ≡ false) c.find.ensures.ran (λ x q h. search rules) (λ x q h. search rules))
