-- What an accepted READ, SUBMIT, DELIVER and CARRY says.
-- Assumes nothing.
use Rattle.std.proofs.Common.{ℕ, ◌≤◌, ◌<◌, ◌≡◌, Bool, true, false, ◌||◌, not, List, inl, inr, arith, eqb, leb, leb-false}
use Rattle.std.proofs.lemmas.Bool.{eqb-false, not-false}
use Rattle.bounded.proofs.Laws.{first-is}
use Rattle.bounded.proofs.Truth.{or-false, passed}
use Rattle.keys.specs.Keys.{member}
use Rattle.tables.specs.Lists.{read_count, read_key}
use Rattle.tables.specs.Sites.{site_count, holds}
use Rattle.tables.specs.Concern.{concerns, local}
use Rattle.tables.specs.Fits.{Fits}
use Rattle.tables.specs.declared.Tables.{Tables}
use Rattle.parts.specs.Cells.{place_in, cell, nobody}
use Rattle.queues.specs.Queue.{waits, next_in, next_of}
use Rattle.rules.specs.Votes.{holds_vote}
use Rattle.steps.specs.declared.Place.{Place}
use Rattle.refusals.specs.Refusals.{read_refusal_in, submit_refusal_in, deliver_refusal_in, vote_refusal_in, carry_refusal_in}

-- READ: t has an i-th read, and the site s holds its key
pub record Reads (T : Tables) (t i s : ℕ) : Type 0 where
  pub txn : t < T.txns
  pub row : t < 128
  pub count : i < read_count T t
  pub read : i < 8
  pub site : s < 16
  pub held : holds T s (read_key T t i) ≡ true

pub read_has : (T : Tables) (recorded : List Bool) (t i s : ℕ) → Fits T → read_refusal_in T recorded t i s ≡ 0 → Reads T t i s
unfolding read_refusal_in
read_has T recorded t i s f h =
    let (a, h1) = passed 20 (omega arith) (leb T.txns t) _ h in
    let (b, h2) = passed 22 (omega arith) (leb (read_count T t) i) _ h1 in
    let (d, h3) = passed 21 (omega arith) (leb (site_count T) s) _ h2 in
    let (e, h4) = passed 23 (omega arith) (not (holds T s (read_key T t i))) _ h3 in
    made (leb-false _ _ a) (leb-false _ _ b) (leb-false _ _ d) (not-false _ e)
  where
    made : t < T.txns → i < read_count T t → s < site_count T → holds T s (read_key T t i) ≡ true → Reads T t i s
    made a b d e = record {
      txn = a;
      row = omega (arith, f.txns);
      count = b;
      read = omega (arith, (f.short t a).0);
      site = omega (arith, f.sites);
      held = e;
    }

-- SUBMIT: t is a transaction
pub submit_has : (T : Tables) (places : List Place) (recorded : List Bool) (t : ℕ) → Fits T → submit_refusal_in T places recorded t ≡ 0 → t < 128
unfolding submit_refusal_in
submit_has T places recorded t f h = let l = leb-false T.txns t (passed 20 (omega arith) (leb T.txns t) _ h).0 in omega (arith, f.txns)

-- the next to deliver, where there is one, is a transaction
pub next_low : (T : Tables) (places : List Place) (delivered : List Bool) (s : ℕ) → T.txns ≤ 128
    → (next_of T places delivered s ≡ 128 → ⊥) → next_of T places delivered s < T.txns
unfolding next_in
next_low T places delivered s l d =
    elim (first-is T.txns (place_in places) (λ t. waits (place_in places t) (cell false delivered t s) (concerns T t s)) nobody l) [
      | inl f ↦ f.low
      | inr n ↦ absurd (d n.0)
    ]

-- DELIVER: s is a site, and what it delivers a transaction
pub deliver_has : (T : Tables) (places : List Place) (delivered : List Bool) (closed : List ℕ) (s : ℕ) → Fits T → deliver_refusal_in T places delivered closed s ≡ 0
    → (s < site_count T) × (next_of T places delivered s < T.txns)
unfolding deliver_refusal_in
deliver_has T places delivered closed s f h =
    let (a, h1) = passed 21 (omega arith) (leb (site_count T) s) _ h in
    (leb-false _ _ a, next_low T places delivered s f.txns (eqb-false _ _ (passed 26 (omega arith) (eqb (next_of T places delivered s) nobody) _ h1).0))

-- CARRY: t is a global transaction, from and to are two sites, to of R(t), from has cast its vote, and to has it not
pub record Carries (T : Tables) (cast carried : List ℕ) (t from to : ℕ) : Type 0 where
  pub txn : t < T.txns
  pub giver : from < site_count T
  pub taker : to < site_count T
  pub concerned : concerns T t to ≡ true
  pub global : local T t ≡ false
  pub differ : from ≡ to → ⊥
  pub voted : cell 0 cast t from ≡ 0 → ⊥
  pub lacks : member (cell 0 carried t to) from ≡ false

pub carry_has : (T : Tables) (cast carried : List ℕ) (t from to : ℕ) → carry_refusal_in T cast carried t from to ≡ 0 → Carries T cast carried t from to
unfolding carry_refusal_in vote_refusal_in
carry_has T cast carried t from to h =
    let n = site_count T in
    let (a, h1) = passed 20 (omega arith) (leb T.txns t) _ h in
    let (b, h2) = passed 21 (omega arith) (leb n from || leb n to) _ h1 in
    let (f, g) = or-false (leb n from) (leb n to) b in
    let (c, h3) = passed 23 (omega arith) (not (concerns T t to)) _ h2 in
    let (e, h4) = passed 28 (omega arith) (local T t || (eqb from to || eqb (cell 0 cast t from) 0)) _ h3 in
    let z = (passed 24 (omega arith) (holds_vote (cell 0 cast t to) (cell 0 carried t to) to from) _ h4).0 in
    let (o, e1) = or-false (local T t) _ e in
    let (d, v) = or-false (eqb from to) _ e1 in
    record {
      txn = leb-false _ _ a;
      giver = leb-false _ _ f;
      taker = leb-false _ _ g;
      concerned = not-false _ c;
      global = o;
      differ = eqb-false _ _ d;
      voted = eqb-false _ _ v;
      lacks = rw d at z;
    }
