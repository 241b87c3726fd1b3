-- What is known at first tells of no site and no transaction.
use Rattle.std.proofs.Common.{ℕ, false, get_or, arith, inl, inr}
use Rattle.std.proofs.Math.ListN.{get_or-eq_default}
use Rattle.std.proofs.lemmas.List.{get_or-replicate}
use Rattle.bounded.proofs.Lists.{replicated}
use Rattle.bounded.proofs.Truth.{bool, clash}
use Rattle.order.specs.Order.{queued_at}
use Rattle.order.proofs.Positions.{queued_low}
use Rattle.parts.specs.Cells.{nobody}
use Rattle.known.proofs.Knows.{codes_any}
use Rattle.known.proofs.first_known.Goals as goal

pub returns : goal.returns
returns c T w order o long wide = record {
  ordered = o;
  closing = codes_any T w 16;
  stuck = λ s x z. clash x (replicated 16 s false);
  passed = λ t p h z. absurd (omega (arith, replicated {A = ℕ} 128 t 0));
  next = λ s i h m. absurd (omega (arith, replicated {A = ℕ} 16 s 0));
  low = λ s i h m. absurd (omega (arith, replicated {A = ℕ} 16 s 0));
  top = λ s i h m. elim (bool (queued_at w.delivered w.closed order s i)) [
    | inl e ↦ absurd (omega (arith, get_or-replicate {A = ℕ} 16 s 128 0 h, queued_low w.delivered w.closed s (get_or order i nobody) wide e, get_or-eq_default order nobody {n = i} (omega (arith, get_or-replicate {A = ℕ} 16 s 128 0 h))))
    | inr e ↦ e
  ];
  opened = λ i m. absurd (omega arith);
}
