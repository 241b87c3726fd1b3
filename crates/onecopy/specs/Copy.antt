-- The one-copy run: the transactions of a set run alone, in order of their places, on a single copy.
use Rattle.std.specs.Prelude.{Bool, true, false, ◌&&◌, cond, List, [], ◌∷◌, ◌++◌, ℕ, zero, suc, eqb}

-- what does not change: who holds which key, which sites a transaction concerns, what it reads, writes and gives; first values
pub record Table : Type 0 where
  pub sites : ℕ
  pub holds : ℕ → ℕ → Bool
  pub concerns : ℕ → ℕ → Bool
  pub reads : ℕ → ℕ → Bool
  pub writes : ℕ → ℕ → Bool
  pub gives : ℕ → ℕ → ℕ
  pub first : ℕ → ℕ

-- a transaction's place, 0 if it has none, and the transaction at a place
pub record Order : Type 0 where
  pub place : ℕ → ℕ
  pub at : ℕ → ℕ

-- of each key its version and value; at first version 1 with the first value
abbrev pub Store : Type 0
Store = ℕ → ℕ × ℕ

abbrev pub start : Table → Store
start T k = (1, T.first k)

-- a write adds 1 to the version and stores the value
abbrev pub bump : Bool → ℕ × ℕ → ℕ → ℕ × ℕ
bump true c x = (suc c.0, x)
bump false c x = c

abbrev pub apply : Table → ℕ → Store → Store
apply T t c k = bump (T.writes t k) (c k) (T.gives t k)

unfoldable pub run : Table → List ℕ → Store → Store
run T [] c = c
run T (t ∷ ts) c = run T ts (apply T t c)

-- those of the set c with a place below p, in the order of their places
unfoldable pub chosen : Order → (ℕ → Bool) → ℕ → List ℕ
chosen o c zero = []
chosen o c (suc p) = chosen o c p ++ cond (eqb (o.place (o.at p)) p && c (o.at p)) (o.at p ∷ []) []

-- the single copy just before place p
abbrev pub one_copy : Table → Order → (ℕ → Bool) → ℕ → Store
one_copy T o c p = run T (chosen o c p) (start T)
