-- SETTLE's loop: each turn takes steps that SETTLE takes, and what is known stays so.
-- Assumes nothing.
use Rattle.std.proofs.Common.{ℕ, zero, suc, ◌+◌, ◌-◌, ◌*◌, ◌≤◌, ◌<◌, ◌≡◌, refl, sym, ap, subst, ◌∙◌, Bool, true, false, cond, List, arith, eqb, set, Ok}
use Rattle.parts.specs.Cells.{version_in}
use Rattle.tables.specs.Lists.{write_count, write_key}
use Rattle.tables.specs.Sites.{site_count, holds}
use Rattle.steps.specs.Kinds.{version}
use Rattle.steps.specs.declared.Version.{Version}
use Rattle.steps.specs.declared.Answer.TheVariants as answer
use Rattle.search.specs.Known.{Knows}
use Rattle.search.specs.declared.Known.{Known}
use Rattle.known.specs.After.{Closed, Carried, closed_parts, delivered_parts, carried_parts}
use Rattle.refusals.proofs.Passed.{deliver_has, Carries, carry_has}
use Rattle.search.proofs.Closes.{Closes, close_has}
use Rattle.search.specs.Search.{Seen, Todo, Close, Deliver, Carry, Nothing}
use Rattle.machine.specs.Parts.{with_parts, with_closed, with_delivery}
use Rattle.parts.specs.Changed.{with_votes}
use Rattle.machine.specs.Rules.{next_at, vote_of, verdict}
use Rattle.machine.specs.Usable.{usable}
use Rattle.machine.specs.Effects.{giving, committed, close_done, deliver_done, carry_done}
use Rattle.machine.specs.Settle.{parts_of, todo, after, most, settle_for, settle_done}
use Rattle.machine.specs.Lent.{Turned}
use Rattle.machine.specs.declared.State.{State}
use Rattle.machine.specs.declared.Stepped.{Stepped}
use Rattle.machine.proofs.Laws.{usable_has, usable_fits}
use Rattle.machine.proofs.Settle.{Accepted, todo_accepted, after_usable, settle_stops, settle_goes, settle_ends}
use Rattle.effects.proofs.Stores.{stored_other}

-- ---- what the next step says of its sites and its transaction

module _ (st : State) (ok : usable st ≡ true) where
  -- it is accepted
  pub accepted : {x : Todo} → todo st ≡ x → Accepted st x
  accepted {x} e = subst (Accepted st) e (todo_accepted st ok)

  pub closes : {t s : ℕ} → todo st ≡ Close t s → Closes st.tables (parts_of st) t s
  closes {t} {s} e = close_has st.tables (parts_of st) t s (accepted e)

  pub delivers : {s : ℕ} → todo st ≡ Deliver s → (s < site_count st.tables) × (next_at st s < st.tables.txns)
  delivers {s} e = deliver_has st.tables st.parts.places st.parts.delivered st.parts.closed s (usable_fits st ok) (accepted e)

  pub carries : {t from to : ℕ} → todo st ≡ Carry t from to → Carries st.tables st.parts.cast st.parts.carried t from to
  carries {t} {from} {to} e = carry_has st.tables st.parts.cast st.parts.carried t from to (accepted e)

  -- the keys that are written
  pub keys_low : (u i : ℕ) → u < st.tables.txns → i < write_count st.tables u → write_key st.tables u i < 64
  keys_low u i l m = let h = usable_has st ok in omega (arith, (h.writes u l).low i m, h.keys)

-- ---- what a CLOSE leaves

record Leaves (st st' : State) (t s : ℕ) : Type 0 where
  positive : 0 < verdict st t s
  delivered : st.parts.delivered ≡ st'.parts.delivered
  closed : set st.parts.closed (t * 16 + s) (verdict st t s) ≡ st'.parts.closed
  elsewhere : (r x : ℕ) → (r ≡ s → ⊥) → x < 64 → version_in st'.parts.versions r x ≡ version_in st.parts.versions r x
  tables : st'.tables ≡ st.tables
  parts : closed_parts (parts_of st) st'.parts.versions t s (verdict st t s) ≡ parts_of st'

-- where CLOSE comes next, what it leaves is so
close_leaves : (st st' : State) (t s : ℕ) → usable st ≡ true → todo st ≡ Close t s → st' ≡ (close_done st t s).next → Leaves st st' t s
unfolding close_done committed
close_leaves st st' t s ok e q = rw q (by (eqb (verdict st t s) 1))
  where
    far : (r x : ℕ) → (r ≡ s → ⊥) → x < 64 → (i : ℕ) → i < write_count st.tables t → holds st.tables s (write_key st.tables t i) ≡ true → r * 64 + x ≡ s * 64 + write_key st.tables t i → ⊥
    far r x d l i m _ z = let b = keys_low st ok t i (closes st ok e).txn m in d (omega arith)

    known : 0 < verdict st t s
    known = let d = (closes st ok e).known in omega (arith, d)

    by : (b : Bool) → Leaves st (with_closed (cond b (committed st t s) st) t s (verdict st t s)) t s
    by true = record {
      positive = known;
      delivered = refl;
      closed = refl;
      elsewhere = λ r x d l. ap (λ (v : Version). v.0) (stored_other st.tables t s (version 0) (λ i v. version (v.0 + 1)) st.parts.versions (write_count st.tables t) (r * 64 + x) (far r x d l));
      tables = refl;
      parts = refl;
    }
    by false = record { positive = known; delivered = refl; closed = refl; elsewhere = λ r x d l. refl; tables = refl; parts = refl }

-- ---- one turn

-- with these votes carried
abbrev handed : State → List ℕ → State
handed st c = with_parts st (with_votes st.parts c)

-- there is something to do
abbrev Busy : Todo → Type 0
Busy (Close t s) = Unit {0}
Busy (Deliver s) = Unit {0}
Busy (Carry t from to) = Unit {0}
Busy Nothing = ⊥

-- so it is not Nothing
busy : (x : Todo) → Busy x → x ≡ Nothing → ⊥
busy x b e = subst Busy e b

-- votes carried one after the other are as many turns
carried_goes : (st : State) (k f n : ℕ) (c : List ℕ) → Carried st.tables (parts_of st) k c → k ≤ f → settle_for f n st ≡ settle_for (f - k) (n + k) (handed st c)
unfolding Carried carry_done
carried_goes st zero f n c h l = let a : f - 0 ≡ f = omega arith in let b : n + 0 ≡ n = omega arith in rw (h, a, b)
carried_goes st (suc k) f n c h l =
    let g = h.2 in
    let a : f - suc k ≡ f - k - 1 = omega arith in
    let b : n + suc k ≡ n + k + 1 = omega arith in
    carried_goes st k f n h.0 h.1 (omega arith)
    ∙ settle_goes (f - k) (n + k) (handed st h.0) (Carry g.t g.from g.to) (omega arith) g.next (busy (Carry g.t g.from g.to) tt)
    ∙ rw (a, b, g.leaves)

module _ (st : State) (ok : usable st ≡ true) (order : List ℕ) (l' : Known) where
  -- one step
  turn_one : (st' : State) (x : Todo) → todo st ≡ x → Busy x → st' ≡ after st x → Knows st'.tables (parts_of st') order l' → Turned st 1 st' order l'
  turn_one st' x e b q k = record {
    ok = rw q (after_usable st x ok);
    knows = k;
    stops = λ z. absurd (omega arith);
    same = λ f n l. rw q (settle_goes f n st x l e (busy x b));
  }

  -- CLOSE of t at s
  pub turn_closes : (st' : State) (t s : ℕ) (l : Known) → todo st ≡ Close t s → st' ≡ (close_done st t s).next → Closed order l l' s st'.parts.delivered st'.parts.closed
      → Knows st.tables (parts_of st) order l → Turned st 1 st' order l'
  turn_closes st' t s l e q h k =
      let z = close_leaves st st' t s ok e q in
      turn_one st' (Close t s) e tt q (rw z.tables (subst (λ (w : Seen). Knows st.tables w order l') z.parts
      (h st.tables (parts_of st) st'.parts.versions t (verdict st t s) (usable_fits st ok) (keys_low st ok) e z.positive z.delivered z.closed z.elsewhere k)))

  -- DELIVER of t at s
  pub turn_delivers : (st' : State) (t s v : ℕ) → todo st ≡ Deliver s → t ≡ next_at st s → v ≡ vote_of st t s → st' ≡ with_delivery st t s v
      → Knows st.tables (delivered_parts (parts_of st) t s v) order l' → Turned st 1 st' order l'
  unfolding deliver_done
  turn_delivers st' t s v e a b q k = turn_one st' (Deliver s) e tt (rw (q, b, a)) (rw q k)

  -- k CARRYs, that take the votes carried to c
  pub turn_carries : (c : List ℕ) (k : ℕ) → 0 < k → Carried st.tables (parts_of st) k c → Knows st.tables (carried_parts (parts_of st) c) order l' → Turned st k (handed st c) order l'
  unfolding usable
  turn_carries c k m h w = record { ok = ok; knows = w; stops = λ z. absurd (omega arith); same = λ f n l. carried_goes st k f n c h l }

  -- nothing
  pub turn_none : todo st ≡ Nothing → Knows st.tables (parts_of st) order l' → Turned st 0 st order l'
  turn_none e k = record {
    ok = ok;
    knows = k;
    stops = λ _. e;
    same = λ f n l. let a : f - 0 ≡ f = omega arith in let b : n + 0 ≡ n = omega arith in rw (a, b);
  }

-- ---- the loop

-- after n steps, from start on
pub record Going (start st : State) (n : ℕ) (order : List ℕ) (known : Known) : Type 0 where
  pub ok : usable st ≡ true
  pub knows : Knows st.tables (parts_of st) order known
  pub same : settle_for (most - n) n st ≡ settle_done start

-- SETTLE ends in st with n steps
abbrev pub Ended : State → State → ℕ → Type 0
Ended start st n = (Ok (answer.Settled n) ≡ (settle_done start).answer) × (st ≡ (settle_done start).next)

-- from the one equation
ended : (start st : State) (n : ℕ) → settle_done start ≡ giving (answer.Settled n) st → Ended start st n
ended start st n e = (sym (ap (λ (r : Stepped). r.answer) e), sym (ap (λ (r : Stepped). r.next) e))

-- with none where there is nothing to do
pub ended_idle : (st : State) → todo st ≡ Nothing → Ended st st 0
unfolding settle_done
ended_idle st e = ended st st 0 (settle_stops most 0 st (omega arith) e)

-- at the start nothing is taken yet
pub going_first : (st : State) (order : List ℕ) (known : Known) → usable st ≡ true → Knows st.tables (parts_of st) order known → Going st st 0 order known
unfolding settle_done
going_first st order known ok k = record { ok = ok; knows = k; same = refl }

module _ (start st : State) (n : ℕ) (order : List ℕ) (known : Known) (g : Going start st n order known) where
  -- a turn of k steps
  pub going_turns : (st' : State) (k : ℕ) (l : Known) → k ≤ most - n → Turned st k st' order l → Going start st' (n + k) order l
  going_turns st' k l b t =
      let m : most - (n + k) ≡ most - n - k = omega arith in
      record { ok = t.ok; knows = t.knows; same = rw m (sym (t.same (most - n) n b)) ∙ g.same }

  -- of none: SETTLE stops
  pub going_stops : (st' : State) (k : ℕ) (l : Known) → n < most → k ≡ 0 → Turned st k st' order l → Ended start st' n
  going_stops st' k l b z t =
      let a : most - n - k ≡ most - n = omega arith in
      let c : n + k ≡ n = omega arith in
      ended start st' n (sym g.same ∙ t.same (most - n) n (omega arith) ∙ rw (a, c) (settle_stops (most - n) n st' (omega arith) (t.stops z)))

  -- and ends with its fuel
  pub going_ends : most ≤ n → Ended start st n
  going_ends l = ended start st n (sym g.same ∙ settle_ends (most - n) n st (omega arith))
