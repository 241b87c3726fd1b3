-- A version is at most 129: each place adds at most 1, and there are 128.
-- Assumes nothing.
use Prim.Native.Nat.{ℕ, zero, suc, ◌≤◌, ◌<◌}
use mathlib.Core.Path.{◌≡◌, refl, ap, ◌∙◌}
use mathlib.Core.Bool.{Bool, true, false, ◌&&◌}
use mathlib.Core.Logic.{inl, inr}
use native.Mathlib.Omega.{arith}
use lib.Dec.{eqb}
use borrow.Author.Tests.{eqb-true}
use Rattle.bounded.proofs.Truth.{and-true, same}
use Rattle.tables.specs.Sites.{holds}
use Rattle.tables.specs.declared.Tables.{Tables}
use Rattle.machine.specs.Parts.{place_of, version_at, value_at}
use Rattle.machine.specs.Usable.{usable}
use Rattle.machine.specs.declared.State.{State}
use Rattle.machine.proofs.Laws.{usable_has}
use Rattle.onecopy.specs.Copy.{Table, Order, bump, one_copy, run, chosen}
use Rattle.onecopy.specs.View.{View, there}
use Rattle.onecopy.proofs.Run.{hit, copy_up}
use Rattle.onecopy.proofs.Inv.{Inv, closed_placed}
use Rattle.demands.specs.View.{table_of}
use Rattle.demands.proofs.View.{fit, inv_of, placed_of, view_of, Sound}

module _ (T : Table) (o : Order) (c : ℕ → Bool) (k : ℕ) (placed : (u : ℕ) → c u ≡ true → 0 < o.place u) where
  -- the version just before place p + 1
  version_low : (p : ℕ) → (one_copy T o c (suc p) k).0 ≤ suc p
  unfolding run chosen
  version_low zero = rw (copy_up T o c 0 k) (by (hit T o c 0 k) refl)
    where
      by : (b : Bool) → hit T o c 0 k ≡ b → (bump b (one_copy T o c 0 k) (T.gives (o.at 0) k)).0 ≤ 1
      by false e = omega arith
      by true e = absurd (
          let (a, d) = and-true (eqb (o.place (o.at 0)) 0) (T.writes (o.at 0) k && c (o.at 0)) e in
          omega (arith, eqb-true (o.place (o.at 0)) 0 a, placed (o.at 0) (and-true (T.writes (o.at 0) k) (c (o.at 0)) d).1))
  version_low (suc p) = rw (copy_up T o c (suc p) k) (by (hit T o c (suc p) k) (version_low p))
    where
      by : (b : Bool) → (one_copy T o c (suc p) k).0 ≤ suc p → (bump b (one_copy T o c (suc p) k) (T.gives (o.at (suc p)) k)).0 ≤ suc (suc p)
      by true h = omega arith
      by false h = omega arith

  pub version_bound : (p n : ℕ) → p ≤ suc n → (one_copy T o c p k).0 ≤ suc n
  unfolding run chosen
  version_bound zero n l = omega arith
  version_bound (suc p) n l = omega (arith, version_low p)

-- where s holds k
pub version_most : (st : State) (s k : ℕ) → usable st ≡ true → Sound st → holds st.tables s k ≡ true → version_at st s k ≤ 129
version_most st s k h w q =
    let z = i.site s in
    let d : one_copy (table_of T) v.order (there v.closed s) z.top k ≡ (version_at st s k, value_at st s k) = z.content k q ∙ rw q in
    let e : (one_copy (table_of T) v.order (there v.closed s) z.top k).0 ≡ version_at st s k = ap (λ x. x.0) d in
    omega (arith, version_bound (table_of T) v.order (there v.closed s) k (λ u c. closed_placed (table_of T) (fit T) v i s u (omega (arith, eqb-true (v.closed s u) 1 c))) z.top 128 (few z.top z.anchor))
  where
    T : Tables
    T = st.tables

    v : View
    v = view_of st.tables st

    i : Inv (table_of st.tables) (view_of st.tables st)
    i = inv_of st.tables st w

    few : (p : ℕ) → (0 < p → (u : ℕ) × ((view_of st.tables st).delivered s u ≡ true) × (p ≤ suc (place_of st u))) → p ≤ 129
    few p f = elim (same p 0) [
      | inl e ↦ omega arith
      | inr d ↦ let (u, x, l) = f (omega arith) in omega (arith, (usable_has st h).place u (placed_of st.tables st w u ((inv_of st.tables st w).delivered_placed s u x)))
    ]
