-- READ: an accepted one is a step of the theory.
-- Assumes nothing.
use Prim.Native.Nat.{ℕ, ◌+◌, ◌*◌, ◌<◌}
use mathlib.Core.Path.{◌≡◌, sym, ap, subst, fun_ext, ◌∙◌}
use mathlib.Core.Bool.{true, false, ◌&&◌, not}
use mathlib.Core.Logic.{inl, inr}
use mathlib.Core.List.{List}
use native.Mathlib.Omega.{arith}
use lib.Dec.{eqb, leb}
use lib.ListN.{length, set}
use borrow.Author.Tests.{eqb-true, eq-eqb, ne_eqb, leb-false, not-false}
use Rattle.queues.specs.Queue.{submitted_in}
use Rattle.bounded.proofs.Truth.{and-true, bool, same, passed, iff_eq}
use Rattle.tables.specs.Lists.{in_row, read_count, read_key, read_row}
use Rattle.tables.specs.Sites.{site_count, holds}
use Rattle.tables.specs.declared.Tables.{Tables}
use Rattle.steps.specs.Kinds.{version}
use Rattle.refusals.specs.Refusals.{read_refusal_in}
use Rattle.machine.specs.Parts.{version_at, value_at, recorded_of}
use Rattle.machine.specs.Refusals.{read_refusal}
use Rattle.machine.specs.Effects.{read_done}
use Rattle.machine.specs.declared.State.{State}
use Rattle.onecopy.specs.View.{View}
use Rattle.onecopy.proofs.Base.{at2}
use Rattle.onecopy.proofs.Read.{row, read_v, Reads}
use Rattle.onecopy.proofs.Counter.{counter}
use Rattle.onecopy.proofs.World.{Steps, read}
use Rattle.demands.specs.View.{table_of}
use Rattle.demands.proofs.Tables.{Taken, slot_is, slot_none, slot_at}
use Rattle.demands.proofs.Cells.{cell, cell_in, cell_set}
use Rattle.demands.proofs.View.{place, view_of, plan_of, world_of}
use Rattle.demands.proofs.Sized.{Arrays}

pub record Readable (st : State) (t i s : ℕ) : Type 0 where
  pub txn : t < st.tables.txns
  pub among : i < read_count st.tables t
  pub holder : holds st.tables s (read_key st.tables t i) ≡ true
  pub fresh : recorded_of st t i ≡ false

readable : (st : State) (t i s : ℕ) → read_refusal st t i s ≡ 0 → Readable st t i s
unfolding read_refusal_in
readable st t i s h =
    let T = st.tables in
    let (a, h1) = passed 20 (omega arith) (leb T.txns t) _ h in
    let (b, h2) = passed 22 (omega arith) (leb (read_count T t) i) _ h1 in
    let h3 = (passed 21 (omega arith) (leb (site_count T) s) _ h2).1 in
    let (c, h4) = passed 23 (omega arith) (not (holds T s (read_key T t i))) _ h3 in
    let d = (passed 24 (omega arith) (recorded_of st t i) 0 h4).0 in
    record { txn = leb-false _ _ a; among = leb-false _ _ b; holder = not-false _ c; fresh = d }

module _ (st : State) (g : Taken st.tables) (z : Arrays st) (t i s : ℕ) (h : Readable st t i s) where
  abbrev T : Tables
  T = st.tables

  abbrev k : ℕ
  k = read_key T t i

  short : i < 8
  short = omega (arith, (g.reads t h.txn).few, h.among)

  at_i : place T t k ≡ i
  at_i = slot_at (read_row T t) (read_count T t) i (g.reads t h.txn).few (g.reads t h.txn).once h.among

  -- the slot of a key is i exactly for the key that stands there
  slots : (b : ℕ) → eqb (place T t b) i ≡ eqb b k
  slots b = iff_eq (eqb (place T t b) i) (eqb b k) to (λ e. rw (eqb-true b k e) (eq-eqb (place T t k) i at_i))
    where
      to : eqb (place T t b) i ≡ true → eqb b k ≡ true
      to e = elim (bool (in_row (read_row T t) (read_count T t) b)) [
        | inl y ↦
            let (l, q) = slot_is (read_row T t) (read_count T t) b (g.reads t h.txn).few y in
            eq-eqb b k (sym q ∙ ap (read_key T t) (eqb-true (place T t b) i e))
        | inr y ↦ absurd (omega (arith, slot_none (read_row T t) (read_count T t) b (g.reads t h.txn).few y, eqb-true (place T t b) i e, short))
      ]

  -- a cell of the reads set, by key
  set-row : {A : Type 0} (d : A) (l : List A) (x : A) → length l ≡ 1024 → (a b : ℕ)
      → cell 8 d (set l (t * 8 + i) x) a (place T a b) ≡ row (λ a b. cell 8 d l a (place T a b)) t (λ j. eqb j k) (λ _. x) a b
  unfolding at2 row
  set-row d l x e a b =
      cell_set 8 d l t i x short (omega (arith, g.txns, h.txn, short)) a (place T a b)
      ∙ elim (same a t) [
        | inl q ↦ rw (q, slots b)
        | inr q ↦ rw (ne_eqb a t q)
      ]

  guard : Reads (table_of T) (view_of T st) t (λ j. eqb j k) s
  guard = record {
    fresh = λ j e. rw (eqb-true j k e, at_i, cell_in 8 false st.parts.recorded t i short) h.fresh;
    holder = λ j e. rw (eqb-true j k e) h.holder;
  }

  seen : (a b : ℕ) → (view_of T (read_done st t i s).next).seen a b ≡ (read_v (view_of T st) t (λ j. eqb j k) s).seen a b
  unfolding read_done read_v row
  seen a b = rw (set-row (version 0) st.parts.readversions (version (version_at st s k)) z.readversions a b, set-row 0 st.parts.readvalues (value_at st s k) z.readvalues a b)
      (elim (bool (eqb a t && eqb b k)) [
        | inl e ↦ rw (e, eqb-true b k (and-true (eqb a t) (eqb b k) e).1, h.holder)
        | inr e ↦ rw e
      ])

  pub view_read : view_of T (read_done st t i s).next ≡ read_v (view_of T st) t (λ j. eqb j k) s
  unfolding read_done read_v
  view_read = λ j. record {
    order = (view_of T st).order;
    seen = fun_ext (λ a. fun_ext (λ b. seen a b)) j;
    recorded = fun_ext (λ a. fun_ext (λ b. set-row false st.parts.recorded true z.recorded a b)) j;
    delivered = (view_of T st).delivered;
    closed = (view_of T st).closed;
    cast = (view_of T st).cast;
    held = (view_of T st).held;
    store = (view_of T st).store;
  }

pub read_step : (st : State) (t i s : ℕ) → Taken st.tables → Arrays st → read_refusal st t i s ≡ 0
    → Steps (plan_of st.tables) (world_of st.tables st) (world_of st.tables (read_done st t i s).next)
unfolding world_of read_done counter
read_step st t i s g z e =
    let T = st.tables in
    let h = readable st t i s e in
    subst (λ (v : View). Steps (plan_of T) (world_of T st) (record { view = v; ord = submitted_in st.parts.places T.txns }))
    (sym (view_read st g z t i s h)) (read t (read_key T t i) s (guard st g z t i s h))
