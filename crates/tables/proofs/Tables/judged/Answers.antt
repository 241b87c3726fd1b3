-- `Tables::judged` meets its contract. A refusal stands before the later ones, and groups that are not refused are at most eight.
use Rattle.std.proofs.Common.{ℕ, ◌≡◌, sym, ◌∙◌, eq-eqb, ne_eqb, cond, eqb}
use Rattle.tables.specs.Judge.{judge}
use Rattle.tables.proofs.Laws.{handed, before, after, groups_low}
use Rattle.tables.proofs.Tables.judged.Goals as goal
use Rattle.tables.proofs.Tables.judged.Goals.{After-groups_refusal}

-- a group there is
some : (c : After-groups_refusal) → ◌≡◌ {A = ℕ} 0 (cond (eqb c.args.self.now.groups 0) 3 0)
some c = rw (ne_eqb _ _ c.if-self-eq0.false)

pub returns-in_err-keys_refusal : goal.returns-in_err-keys_refusal
unfolding judge
returns-in_err-keys_refusal c = handed _ _ c.from_residual.ensures.1 ∙ before _ _ _ c.in_err-keys_refusal.ensures

pub returns-then-self-eq0 : goal.returns-then-self-eq0
unfolding judge
returns-then-self-eq0 c = after _ _ _ c.in_ok-keys_refusal.ensures (rw (eq-eqb _ _ c.if-self-eq0.true))

pub returns-in_err-groups_refusal : goal.returns-in_err-groups_refusal
unfolding judge
returns-in_err-groups_refusal c =
    handed _ _ c.from_residual-in_err-groups_refusal.ensures.1
    ∙ after _ _ _ c.in_ok-keys_refusal.ensures (after _ _ _ (some (goal.at.returns-in_err-groups_refusal c).After-groups_refusal) (before _ _ _ c.in_err-groups_refusal.ensures))

pub returns-in_err-txns_refusal : goal.returns-in_err-txns_refusal
unfolding judge
returns-in_err-txns_refusal c =
    handed _ _ c.from_residual-in_err-txns_refusal.ensures.1
    ∙ after _ _ _ c.in_ok-keys_refusal.ensures (after _ _ _ (some (goal.at.returns-in_err-txns_refusal c).After-groups_refusal) (after _ _ _ c.in_ok-groups_refusal.ensures (before _ _ _ c.in_err-txns_refusal.ensures)))

pub end_refusal-requires : goal.end_refusal-requires
end_refusal-requires c = groups_low c.args.self.now _ (sym c.in_ok-groups_refusal.ensures)

pub returns : goal.returns
unfolding judge
returns c = after _ _ _ c.in_ok-keys_refusal.ensures (after _ _ _ (some (goal.at.returns c).After-groups_refusal) (after _ _ _ c.in_ok-groups_refusal.ensures (after _ _ _ c.in_ok-txns_refusal.ensures c.end_refusal.ensures)))
