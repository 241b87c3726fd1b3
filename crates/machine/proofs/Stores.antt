-- Where CLOSE is accepted, a commit has room, and what it writes is what the machine's step stores; so CLOSE is that step.
-- Assumes nothing.
use Rattle.std.proofs.Common.{ℕ, ◌≡◌, ◌<◌, refl, ap, Bool, true, false, cond, eqb, Ok, arith}
use Rattle.tables.specs.Lists.{write_count, write_key, write_row}
use Rattle.plan.specs.declared.Plan.{Plan}
use Rattle.parts.specs.declared.Parts.{Parts}
use Rattle.parts.specs.Changed as changed
use Rattle.effects.specs.Stored.{written_in, Room}
use Rattle.effects.proofs.Stores.{written_once, has_room}
use Rattle.refusals.specs.Refusals.{refusal_in}
use Rattle.search.specs.Search.{seen}
use Rattle.search.proofs.Closes.{close_has}
use Rattle.steps.specs.declared.Answer.TheVariants as answer
use Rattle.steps.specs.declared.Step.TheVariants.{Close}
use Rattle.machine.specs.Parts.{with_closed}
use Rattle.machine.specs.Rules.{verdict}
use Rattle.machine.specs.Effects.{committed, close_done}
use Rattle.machine.specs.Refusals.{close_refusal}
use Rattle.machine.specs.Lent.{state_of, Ready, Takes}
use Rattle.machine.specs.Steps.{done}
use Rattle.machine.proofs.Laws.{usable_has, row_apart}
use Rattle.machine.proofs.Lent.{accepts}

module _ (p : Plan) (w : Parts) (r : Ready p w) (t s : ℕ) (z : close_refusal (state_of p w) t s ≡ 0) where
  -- t writes no key twice
  once : (i j : ℕ) → i < write_count p.tables t → j < write_count p.tables t → write_key p.tables t i ≡ write_key p.tables t j → i ≡ j
  once i j = row_apart (write_row p.tables t) (write_count p.tables t) i j ((usable_has (state_of p w) r.1).writes t (close_has p.tables (seen w) t s z).txn).once

  -- t is a transaction, s a site, and a commit has room
  pub close_may : (t < p.tables.txns) × ((s < 16) × (verdict (state_of p w) t s ≡ 1 → Room p.tables w t s))
  close_may = let k = close_has p.tables (seen w) t s z in (k.txn, (omega (arith, k.site, r.0.fits.sites), λ v. has_room p.tables w t s once (k.room v)))

  -- what CLOSE leaves
  pub close_left : state_of p (changed.with_closed (cond (eqb (verdict (state_of p w) t s) 1) (written_in p.tables w t s) w) t s (verdict (state_of p w) t s)) ≡ (close_done (state_of p w) t s).next
  unfolding close_done committed
  close_left = by (eqb (verdict (state_of p w) t s) 1)
    where
      by : (b : Bool) → state_of p (changed.with_closed (cond b (written_in p.tables w t s) w) t s (verdict (state_of p w) t s))
          ≡ with_closed (cond b (committed (state_of p w) t s) (state_of p w)) t s (verdict (state_of p w) t s)
      by true = ap (λ (x : Parts). state_of p (changed.with_closed x t s (verdict (state_of p w) t s))) (written_once p.tables w t s once)
      by false = refl

  -- so CLOSE is the machine's step
  pub close_taken : let v = verdict (state_of p w) t s in
      Takes (state_of p w) (Close t s) (Ok (answer.Closed v)) (state_of p (changed.with_closed (cond (eqb v 1) (written_in p.tables w t s) w) t s v))
  unfolding refusal_in done close_done
  close_taken = accepts (state_of p w) (Close t s) z _ _ refl close_left
