-- The one-copy run, one place at a time: its laws.
-- Assumes nothing.
use mathlib.Core.Path.{◌≡◌, refl, ap, ◌∙◌}
use mathlib.Core.Bool.{Bool, true, false, ◌&&◌, cond}
use mathlib.Core.List.{List, [], ◌∷◌, ◌++◌}
use Prim.Native.Nat.{ℕ, suc}
use lib.Dec.{eqb}
use Rattle.onecopy.specs.Copy.{Table, Order, Store, start, bump, apply, run, chosen, one_copy}

-- running one list and then a second equals running the two joined
pub run_joined : (T : Table) (a b : List ℕ) (c : Store) → run T (a ++ b) c ≡ run T b (run T a c)
unfolding run
run_joined T [] b c = refl
run_joined T (t ∷ a) b c = run_joined T a b (apply T t c)

-- the transaction at place p is of the set c and writes k
abbrev pub hit : Table → Order → (ℕ → Bool) → ℕ → ℕ → Bool
hit T o c p k = eqb (o.place (o.at p)) p && (T.writes (o.at p) k && c (o.at p))

-- one place further, a key changes where the transaction there is of the set and writes it
pub copy_up : (T : Table) (o : Order) (c : ℕ → Bool) (p k : ℕ)
    → one_copy T o c (suc p) k ≡ bump (hit T o c p k) (one_copy T o c p k) (T.gives (o.at p) k)
unfolding chosen
copy_up T o c p k =
    ap (λ (f : Store). f k) (run_joined T (chosen o c p) (cond (eqb (o.place (o.at p)) p && c (o.at p)) (o.at p ∷ []) []) (start T))
    ∙ one (eqb (o.place (o.at p)) p) (c (o.at p)) (T.writes (o.at p) k) refl (run T (chosen o c p) (start T))
  where
    one : (a b w : Bool) → T.writes (o.at p) k ≡ w → (s : Store)
        → run T (cond (a && b) (o.at p ∷ []) []) s k ≡ bump (a && (w && b)) (s k) (T.gives (o.at p) k)
    one true true true h s = unfold run in rw h
    one true true false h s = unfold run in rw h
    one true false true h s = unfold run in refl
    one true false false h s = unfold run in refl
    one false b w h s = unfold run in refl
