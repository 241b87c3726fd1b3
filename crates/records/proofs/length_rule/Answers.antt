-- The table has the rule of each tag below 32, which antt computes; past it there is no tag.
use Rattle.std.proofs.Common.{sym, arith}
use Rattle.std.proofs.lemmas.List.FromFn.{get_or-map-range_with_len}
use Rattle.records.specs.Rule.{rule_of}
use Rattle.records.specs.declared.Rule.TheVariants.{NoTag}
use Rattle.records.proofs.Laws.{rule_past}
use Rattle.records.proofs.length_rule.Goals as goal

pub returns-then-tag-lt32 : goal.returns-then-tag-lt32
unfolding rule_of
returns-then-tag-lt32 c = get_or-map-range_with_len rule_of 0 32 c.from.result c.args.tag NoTag (omega (arith, c.from.ensures)) (omega (arith, c.from.ensures))

pub returns-else-tag-lt32 : goal.returns-else-tag-lt32
returns-else-tag-lt32 c = sym (rule_past _ c.if-tag-lt32.false)
