-- What SETTLE remembers of an order, it remembers of any in which the same transactions stand, over the lists of a state.
-- Assumes nothing.
use Rattle.std.proofs.Common.{ℕ, ◌≤◌, ◌≡◌, sym, ◌∙◌, arith, List, length}
use Rattle.parts.specs.Cells.{nobody}
use Rattle.tables.specs.declared.Tables.{Tables}
use Rattle.order.proofs.Transactions.{Alike, alike_back, stands_alike, ordered_alike, queued_alike, waits_alike}
use Rattle.search.specs.Search.{Seen}
use Rattle.search.specs.Known.{Knows}
use Rattle.search.specs.declared.Known.{Known}

pub knows_alike : (a b : List ℕ) → Alike a b → (T : Tables) (w : Seen) (l : Known) → T.txns ≤ nobody → length w.places ≡ 128 → length w.delivered ≡ 2048
    → Knows T w a l → Knows T w b l
knows_alike a b h T w l fits long wide k = record {
  ordered = ordered_alike a b h w.places T.txns fits k.ordered;
  closing = k.closing;
  stuck = k.stuck;
  passed = k.passed;
  next = λ s i p q. sym (waits_alike a b h T w.places w.delivered s i long) ∙ k.next s i p q;
  low = λ s i p q. sym (queued_alike a b h w.delivered w.closed s i wide) ∙ k.low s i p q;
  top = λ s i p q. sym (queued_alike a b h w.delivered w.closed s i wide) ∙ k.top s i p q;
  opened = λ i p q. let e = stands_alike b a (alike_back a b h) i q in rw e at (k.opened i p (omega (arith, e)));
}
