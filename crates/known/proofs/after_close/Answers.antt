-- The queue of s has its new head, and with it whom s can close, unless that is any; so of all that stand in the order, and of its transactions.
use Rattle.std.proofs.Common.{ℕ, ◌≡◌, ◌≤◌, ◌<◌, inl, inr, refl, sym, ap, ◌∙◌, arith, rules, cond, List, ltb, ltb-true, length, get_or, unwrap_or}
use Rattle.bounded.proofs.Truth.{bool, clash}
use Rattle.order.specs.Order.{codes, queued_at}
use Rattle.order.proofs.Positions.{queued_low}
use Rattle.order.proofs.Transactions.{Alike, alike_self, transactions_alike, stands_alike, queued_alike}
use Rattle.parts.specs.Cells.{nobody}
use Rattle.search.specs.Known.{closable_code, top_at}
use Rattle.search.specs.declared.Closable.TheVariants.{Nobody, Anyone}
use Rattle.known.specs.After.{Closed}
use Rattle.known.proofs.Knows.{closed_any, closed_one}
use Rattle.known.proofs.after_close.Goals as goal
use Rattle.known.proofs.after_close.Goals.{in-Some, in-None}

pub returns-after-head_number : goal.returns-after-head_number
returns-after-head_number c =
    let a = c.args in let w = a.w.now in let stood = codes a.order.now in
    let long : length w.closed ≡ 2048 = omega arith in
    let wide : length w.delivered ≡ 2048 = omega arith in
    let from = c.head_from-p.ensures in
    let p = c.head_from-p.result in
    let q = top_at a.known.now a.s in
    let one : get_or a.known.now.closable a.s Nobody ≡ Anyone → ⊥ = λ z. clash c.if-ne.true (c.ne.ensures ∙ rw z refl) in
    -- who is at the head of a queue is a transaction
    let low : p < q → get_or stood p nobody < nobody = λ l. queued_low _ _ _ _ wide (from.result_value l) in
    let none : cond (ltb p q) (get_or stood p nobody) nobody ≤ nobody = elim (bool (ltb p q)) [
      | inl x ↦ rw x (omega (arith, low (ltb-true _ _ x)))
      | inr x ↦ rw x (omega arith)
    ] in
    let found : closable_code c.match-head_number.known ≡ unwrap_or c.head_number.result nobody =
    elim c.match-head_number.branch [ in-Some w ↦ search rules | in-None w ↦ search rules ] in
    let told : (order : List ℕ) → Alike stood order → Closed order a.known.now _ a.s w.delivered w.closed =
    λ order h T x versions t v fits written next new d f kept k.
    let same : (i : ℕ) → queued_at w.delivered w.closed stood a.s i ≡ queued_at w.delivered w.closed order a.s i = λ i. queued_alike stood order h w.delivered w.closed a.s i wide in
    let head : cond (ltb p q) (get_or stood p nobody) nobody ≡ cond (ltb p q) (get_or order p nobody) nobody = elim (bool (ltb p q)) [
      | inl y ↦ rw y (sym (stands_alike stood order h p (low (ltb-true _ _ y))))
      | inr y ↦ rw y refl
    ] in
    closed_one T fits x versions t a.s v next new (ap length f ∙ long) written kept order a.known.now k (omega arith) p (ap length d ∙ wide)
    (rw (d, f) (λ i b l. sym (same i) ∙ from.by_index i b l)) c.match-head_number.known one
    (rw (d, f) (λ l. sym (same p) ∙ from.result_value l)) (found ∙ c.head_number.ensures.value ∙ head) in
    (told _ (alike_self stood), told _ (transactions_alike a.order.now))

pub returns-else-ne : goal.returns-else-ne
returns-else-ne c =
    let a = c.args in let w = a.w.now in let stood = codes a.order.now in
    let long : length w.closed ≡ 2048 = omega arith in
    let wide : length w.delivered ≡ 2048 = omega arith in
    let any : get_or a.known.now.closable a.s Nobody ≡ Anyone = search rules in
    let told : (order : List ℕ) → Alike stood order → Closed order a.known.now _ a.s w.delivered w.closed =
    λ order h T x versions t v fits written next new d f kept k.
    let same : (i : ℕ) → queued_at w.delivered w.closed stood a.s i ≡ queued_at w.delivered w.closed order a.s i = λ i. queued_alike stood order h w.delivered w.closed a.s i wide in
    closed_any T fits x versions t a.s v next new (ap length f ∙ long) written kept order a.known.now k (omega arith) c.head_from-p.result (ap length d ∙ wide)
    (rw (d, f) (λ i b l. sym (same i) ∙ c.head_from-p.ensures.by_index i b l)) any in
    (told _ (alike_self stood), told _ (transactions_alike a.order.now))
