-- What an accepted CLOSE says.
-- Assumes nothing.
use Rattle.std.proofs.Common.{ℕ, ◌<◌, ◌≡◌, true, false, ◌&&◌, not, arith, eqb, leb, ltb, eq-eqb, leb-false, ltb-false}
use borrow.Author.Tests.{eqb-false, not-false}
use Rattle.queues.specs.Queue.{head_in}
use Rattle.parts.specs.Cells.{cell}
use Rattle.bounded.proofs.Truth.{passed}
use Rattle.tables.specs.Sites.{site_count}
use Rattle.tables.specs.Concern.{concerns}
use Rattle.tables.specs.declared.Tables.{Tables}
use Rattle.rules.specs.Asked.{verdict_at, room_of}
use Rattle.refusals.specs.Refusals.{verdict_refusal_in, close_refusal_in}
use Rattle.search.specs.Search.{Seen, closing}

-- accepted: t is open in the queue of s with a known verdict; a commit is at the head and has room
pub record Closes (T : Tables) (w : Seen) (t s : ℕ) : Type 0 where
  pub txn : t < T.txns
  pub site : s < site_count T
  pub concerned : concerns T t s ≡ true
  pub unclosed : cell 0 w.closed t s ≡ 0
  pub delivered : cell false w.delivered t s ≡ true
  pub known : verdict_at T w.cast w.carried t s ≡ 0 → ⊥
  pub head : verdict_at T w.cast w.carried t s ≡ 1 → head_in w.places w.delivered w.closed T.txns t s ≡ true
  pub room : verdict_at T w.cast w.carried t s ≡ 1 → room_of T w.versions t s ≡ true

pub close_has : (T : Tables) (w : Seen) (t s : ℕ) → closing T w t s ≡ 0 → Closes T w t s
unfolding close_refusal_in verdict_refusal_in
close_has T w t s h =
    let v = verdict_at T w.cast w.carried t s in
    let (a, h1) = passed 20 (omega arith) (leb T.txns t) _ h in
    let (b, h2) = passed 21 (omega arith) (leb (site_count T) s) _ h1 in
    let (r, h3) = passed 23 (omega arith) (not (concerns T t s)) _ h2 in
    let (o, h4) = passed 24 (omega arith) (ltb 0 (cell 0 w.closed t s)) _ h3 in
    let (d, h5) = passed 29 (omega arith) (not (cell false w.delivered t s)) _ h4 in
    let (k, h6) = passed 30 (omega arith) (eqb v 0) _ h5 in
    let (x, h7) = passed 31 (omega arith) (eqb v 1 && not (head_in w.places w.delivered w.closed T.txns t s)) _ h6 in
    let y = (passed 32 (omega arith) (eqb v 1 && not (room_of T w.versions t s)) _ h7).0 in
    record {
      txn = leb-false _ _ a;
      site = leb-false _ _ b;
      concerned = not-false _ r;
      unclosed = omega (arith, ltb-false 0 (cell 0 w.closed t s) o);
      delivered = not-false _ d;
      known = eqb-false _ _ k;
      head = λ q. not-false _ (rw (eq-eqb v 1 q) at x);
      room = λ q. not-false _ (rw (eq-eqb v 1 q) at y);
    }
