-- A ninth group is refused whatever else it has; any other is judged in the tables with it.
use Rattle.std.proofs.Common.{ℕ, suc, ◌+◌, ◌≡◌, List, arith, sym, ◌∙◌, add-one}
use Rattle.tables.specs.Judge.{size_refusal, group_refusal}
use Rattle.tables.specs.Sites.{size_in, mask_in, site_count}
use Rattle.tables.specs.declared.Tables.{Tables}
use Rattle.tables.proofs.Laws.{ninth}
use Rattle.files.specs.Rows.{with_group}
use Rattle.files.proofs.Refusals.{handed, accepted_err}
use Rattle.files.proofs.take_group.Goals as goal

judged : (T : Tables) (s : List ℕ) (start : ℕ) (new : Tables) (g n : ℕ) → new ≡ with_group T s start → g ≡ T.groups → n ≡ site_count new
    → size_refusal T.keys T.groups (size_in new.group g) n (mask_in new.group g) ≡ group_refusal (with_group T s start) T.groups
unfolding with_group
judged T s start new g n a b d = let e : T.groups + 1 ≡ suc T.groups = rw add-one in rw (d, b, a, e)

pub returns-then-t-ge8 : goal.returns-then-t-ge8
returns-then-t-ge8 c = accepted_err _ _ _ (sym (ninth _ _ _ _ _ c.if-t-ge8.true))

pub sites-requires : goal.sites-requires
unfolding with_group
sites-requires c = rw c.with_group-new.ensures (omega arith)

pub returns-in_err-group_refusal : goal.returns-in_err-group_refusal
returns-in_err-group_refusal c =
    rw (handed _ _ c.from_residual.ensures.1) (accepted_err _ _ _ (c.in_err-group_refusal.ensures ∙ judged _ _ _ _ _ _ c.with_group-new.ensures c.from.ensures c.sites.ensures.0))

pub returns : goal.returns
returns c = rw (c.with_group-new.ensures, ← (c.in_ok-group_refusal.ensures ∙ judged _ _ _ _ _ _ c.with_group-new.ensures c.from.ensures c.sites.ensures.0))
