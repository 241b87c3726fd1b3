-- A fresh state is a fresh world of the theory.
-- Assumes nothing.
use Prim.Native.Nat.{ℕ, ◌+◌, ◌*◌, ◌/◌, ◌%◌, ◌<◌}
use mathlib.Core.Path.{◌≡◌, refl, sym, ap, subst, fun_ext, ◌∙◌}
use mathlib.Core.Bool.{Bool, true, false, cond}
use mathlib.Core.Logic.{inl, inr}
use native.Mathlib.Omega.{arith}
use native.Mathlib.Nat.{zero-add}
use lib.Dec.{eqb, ltb}
use lib.ListN.{get_or, replicate, get_or-replicate}
use Rattle.queues.specs.Queue.{submitted_in}
use Rattle.bounded.specs.Bounded.{list_from}
use Rattle.bounded.proofs.Truth.{bool}
use Rattle.bounded.proofs.Lists.{list_at}
use Rattle.keys.specs.Keys.{member}
use Rattle.keys.proofs.Laws.{high}
use Rattle.tables.specs.Sites.{holds}
use Rattle.tables.specs.declared.Tables.{Tables}
use Rattle.tables.specs.First.{first_at}
use Rattle.steps.specs.Kinds.{version, place}
use Rattle.steps.specs.declared.Place.{Place}
use Rattle.machine.specs.Parts.{place_of}
use Rattle.machine.specs.Fresh.{start_of}
use Rattle.onecopy.proofs.Base.{sum-zero}
use Rattle.onecopy.proofs.Serial.{fresh_v}
use Rattle.onecopy.proofs.Counter.{counter}
use Rattle.onecopy.proofs.World.{World, Reached, fresh}
use Rattle.demands.proofs.Tables.{Taken, holds_site}
use Rattle.demands.proofs.Cells.{cell_same, all_same}
use Rattle.demands.proofs.View.{place as slot_of, view_of, plan_of, world_of}

module _ (T : Tables) (g : Taken T) where
  -- each replica at version 1 with the first value
  store : (s k : ℕ) → (view_of T (start_of T)).store s k ≡ (1, get_or T.first k 0)
  unfolding start_of
  store s k = elim (bool (holds T s k)) [
    | inr h ↦ rw h
    | inl h ↦ rw h (λ j. ((first_version h j).0, first_value h j))
  ]
    where
      low : holds T s k ≡ true → s * 64 + k < 1024
      low h = omega (arith, holds_site T s k h, g.sites, g.low s k h, g.keys)

      first_version : holds T s k ≡ true → get_or (replicate 1024 (version 1)) (s * 64 + k) (version 0) ≡ version 1
      first_version h = get_or-replicate 1024 (s * 64 + k) (version 1) (version 0) (low h)

      first_value : holds T s k ≡ true → get_or (list_from 0 1024 (first_at T)) (s * 64 + k) 0 ≡ get_or T.first k 0
      first_value h =
          let b : k < 64 = omega (arith, g.low s k h, g.keys) in
          let d : (s * 64 + k) / 64 ≡ s = omega arith in
          let m : (s * 64 + k) % 64 ≡ k = omega arith in
          list_at 0 1024 (first_at T) (s * 64 + k) 0 (low h) ∙ rw (zero-add, d, m, h)

  held : (t f a : ℕ) → (view_of T (start_of T)).held t f a ≡ false
  unfolding start_of
  held t f a = rw (cell_same {A = ℕ} 16 2048 0 t a) (none (eqb f a))
    where
      none : (b : Bool) → cond b (ltb 0 0) (member 0 f) ≡ false
      none true = refl
      none false = high 0 0 f (omega arith) (omega arith)

  pub unplaced : (t : ℕ) → place_of (start_of T) t ≡ 0
  unplaced t = unfold start_of in ap (λ (x : Place). x.0) (all_same 128 (place 0) t)

  nobody_yet : submitted_in (start_of T).parts.places T.txns ≡ 0
  unfolding submitted_in
  nobody_yet = sum-zero T.txns (λ t. cond (ltb 0 (place_of (start_of T) t)) 1 0) (λ t l. rw (unplaced t))

  pub fresh_reached : Reached (plan_of T) (world_of T (start_of T))
  unfolding world_of counter start_of fresh_v
  fresh_reached = subst (λ (x : World (plan_of T)). Reached (plan_of T) x) (sym (λ j. record {
    view = record {
      order = record { place = fun_ext unplaced j; at = (view_of T (start_of T)).order.at };
      seen = (view_of T (start_of T)).seen;
      recorded = fun_ext (λ t. fun_ext (λ k. cell_same 8 1024 false t (slot_of T t k))) j;
      delivered = fun_ext (λ s. fun_ext (λ t. cell_same 16 2048 false t s)) j;
      closed = fun_ext (λ s. fun_ext (λ t. cell_same {A = ℕ} 16 2048 0 t s)) j;
      cast = fun_ext (λ s. fun_ext (λ t. cell_same {A = ℕ} 16 2048 0 t s)) j;
      held = fun_ext (λ t. fun_ext (λ f. fun_ext (λ a. held t f a))) j;
      store = fun_ext (λ s. fun_ext (λ k. store s k)) j;
    };
    ord = nobody_yet j;
  })) (fresh (view_of T (start_of T)).order.at (view_of T (start_of T)).seen)
