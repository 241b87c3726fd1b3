-- A store that is being filled with the first values.
-- Assumes nothing.
use Rattle.std.proofs.Common.{ℕ, ◌≤◌, ◌<◌, ◌≡◌, refl, sym, ◌∙◌, List, length, get_or, ext_get_or, zero-add, replicate, not-suc-le-zero}
use Rattle.bounded.specs.Bounded.{list_from}
use Rattle.bounded.proofs.Lists.{list_length, list_at, replicated}
use Rattle.tables.specs.First.{first_at}
use Rattle.tables.specs.declared.Tables.{Tables}

-- of 1,024 values the first j are the first values of T, the others 0
pub record Filled (T : Tables) (values : List ℕ) (j : ℕ) : Type 0 where
  pub long : length values ≡ 1024
  pub each : (i : ℕ) → i < j → get_or values i 0 ≡ first_at T i
  pub rest : (i : ℕ) → j ≤ i → get_or values i 0 ≡ 0

pub fill_start : (T : Tables) → Filled T (replicate 1024 0) 0
fill_start T = record { long = refl; each = λ i l. absurd (not-suc-le-zero l); rest = λ i l. replicated 1024 i 0 }

pub fill_all : (T : Tables) (values : List ℕ) → Filled T values 1024 → values ≡ list_from 0 1024 (first_at T)
fill_all T values f =
    ext_get_or 0 values (list_from 0 1024 (first_at T)) (f.long ∙ sym (list_length 0 1024 (first_at T)))
    (λ i k. let m : i < 1024 = rw f.long at k in rw (list_at 0 1024 (first_at T) i 0 m, zero-add) (f.each i m))
