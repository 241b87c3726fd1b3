-- The entries of s and of t are stored, and with them whom the sites can close: any everywhere, or t beside those of s.
use Rattle.std.proofs.Common.{◌≡◌, false, sym, ◌∙◌, arith}
use Rattle.tables.specs.Sites.{site_count}
use Rattle.known.specs.After.{shared}
use Rattle.known.proofs.Knows.{codes_any, codes_joined, knows_delivered}
use Rattle.known.proofs.after_deliver.Goals as goal

pub returns-then-is_shared : goal.returns-then-is_shared
returns-then-is_shared c w order v p next here txn same k =
    knows_delivered _ p.fits w c.args.t c.args.s v next order c.args.known.now k _ c.args.p _ _ _ _ here txn (omega arith)
    (omega arith, omega arith) (omega arith, omega arith) (omega arith, omega arith) (codes_any _ _ 16)

pub returns-else-is_shared : goal.returns-else-is_shared
returns-else-is_shared c w order v p next here txn same k =
    let T = c.args.plan.now.tables in
    let alone : shared w.carried (site_count T) c.args.t c.args.s ≡ false = rw (same, ← p.sites) (sym c.is_shared.ensures ∙ c.if-is_shared.false) in
    knows_delivered T p.fits w c.args.t c.args.s v next order c.args.known.now k _ c.args.p _ _ _ _ here txn (omega arith)
    (omega arith, omega arith) (omega arith, omega arith) (omega arith, omega arith)
    (codes_joined T p.fits w c.args.t c.args.s v next order c.args.known.now k c.joined.result (omega arith) alone c.joined.ensures)
