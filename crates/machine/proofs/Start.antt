-- What holds of counts that fit, and of tables that are judged good.
-- Assumes nothing.
use Rattle.std.proofs.Common.{ℕ, ◌≤◌, ◌≡◌, refl, Bool, true, false, cond, List, Result, Ok, Err, leb, eqb, leb-true, eqb-true, arith}
use Rattle.std.specs.Result.{is_ok}
use Rattle.numbers.specs.Numbers.{file_answer}
use Rattle.numbers.specs.declared.FileRefusal.{FileRefusal}
use Rattle.numbers.proofs.Laws.{file_refuses}
use Rattle.bounded.specs.Bounded.{first_of}
use Rattle.bounded.proofs.Truth.{and-true}
use Rattle.bounded.proofs.Laws.{else-none}
use Rattle.tables.specs.Sites.{sites_in}
use Rattle.tables.specs.Empty.{no_tables}
use Rattle.tables.specs.Judge.{judge, keys_refusal, group_refusal}
use Rattle.tables.specs.declared.Group.{Group}
use Rattle.tables.specs.declared.Tables.{Tables}
use Rattle.tables.proofs.Laws.{groups_low}
use Rattle.rules.specs.Fit.{counts_fit}

pub counts_txns : (keys groups : ℕ) (group : List Group) (txns : ℕ) → counts_fit keys groups group txns ≡ true → txns ≤ 128
unfolding counts_fit
counts_txns keys groups group txns h =
    leb-true _ _ (and-true (leb (sites_in group groups) 16) (leb txns 128) (and-true (leb groups 8) _ (and-true (leb keys 64) _ h).1).1).1

-- ---- tables that are judged good

pub judge_groups : (T : Tables) → judge T ≡ 0 → T.groups ≤ 8
unfolding judge
judge_groups T h =
    let (a, h1) = else-none (keys_refusal T.keys) _ h in
    let (b, h2) = else-none (cond (eqb T.groups 0) 3 0) _ h1 in
    let (d, h3) = else-none (first_of T.groups (group_refusal T)) _ h2 in
    groups_low T T.groups d

-- as the outcome says
pub judged_good : (r : Result (Unit {0}) FileRefusal) → eqb (file_answer r) 0 ≡ is_ok r
judged_good (Ok u) = refl
judged_good (Err r) = file_refuses r

-- the tables that a fresh state is made of
pub start_low : (T : Tables) → (cond (eqb (judge T) 0) T no_tables).groups ≤ 8
unfolding no_tables
start_low T = by (eqb (judge T) 0) refl
  where
    by : (b : Bool) → eqb (judge T) 0 ≡ b → (cond b T no_tables).groups ≤ 8
    by true e = judge_groups T (eqb-true (judge T) 0 e)
    by false e = omega arith
