-- `lines::verdict_of` meets its contract. What is found is the verdict of the lowest site that has one.
use Rattle.std.proofs.Common.{ℕ, arith, rules, not, eqb, sym, ap, ◌∙◌}
use borrow.Author.Tests.{tests}
use Rattle.std.specs.Option.{unwrap_or}
use Rattle.std.proofs.lemmas.Iterator.{YieldsList-from_range, YieldsList-from_map}
use Rattle.std.proofs.lemmas.Iterator.Adapters.{option_map_id}
use Rattle.std.proofs.lemmas.Iterator.Search.{find_from_yields_List}
use Rattle.parts.specs.Cells.{cell}
use Rattle.search.specs.Search.{nowhere}
use Rattle.lines.specs.Lines.{verdict_in}
use Rattle.lines.proofs.Lowest.{lowest}
use Rattle.lines.proofs.verdict_of.Goals as goal

pub returns : goal.returns
unfolding verdict_in
returns c =
    let value : ℕ → ℕ = λ s. cell 0 c.args.closed.now c.args.t s in
    let found = find_from_yields_List (λ v. not (eqb v 0)) _ _ c.find.result c.find.ensures.ran
    (YieldsList-from_map _ value (YieldsList-from_range 0 _ _ c.map.ensures.source (omega arith)) c.map.ensures.closure (λ x r q k. search rules))
    (λ x b q h. search (rules, tests)) in
    c.unwrap_or.ensures ∙ ap (λ o. unwrap_or o 0) (sym (option_map_id c.find.result) ∙ found) ∙ lowest value c.args.n nowhere c.requires.0
