-- `effects::read` meets its contract. Past the store nothing stands, and what was found there is written over.
use Rattle.std.proofs.Common.{ℕ, ◌+◌, ◌*◌, ◌≡◌, ◌≤◌, refl, arith, rules, length}
use Rattle.std.proofs.lemmas.List.{set-set}
use lib.ListN.{get_or-eq_default}
use Rattle.tables.specs.Lists.{read_key}
use Rattle.steps.specs.Kinds.{version}
use Rattle.effects.proofs.read.Goals as goal

pub returns-clause-parts : goal.returns-clause-parts
returns-clause-parts c = let a = c.args in let w = a.w.now in
    let j : ℕ = a.s * 64 + read_key a.plan.now.tables a.t a.i in
    let past : 1024 ≤ c.from.result * 64 + read_key a.plan.now.tables c.from-2.result c.from-3.result = omega (arith, c.read_key.ensures.0, c.if-from-read_key-lt1024.false) in
    let far : 1024 ≤ j = rw (c.from.ensures, c.from-2.ensures, c.from-3.ensures) at past in
    let versions : length w.versions ≡ 1024 = search rules in
    let values : length w.values ≡ 1024 = search rules in
    let version_0 = get_or-eq_default w.versions (version 0) {n = j} (omega (arith, versions, far)) in
    let value_0 = get_or-eq_default w.values 0 {n = j} (omega (arith, values, far)) in
    rw (c.read_found-answer.ensures.parts, c.from-4.ensures, c.from-5.ensures, version_0, value_0, set-set, set-set) refl
