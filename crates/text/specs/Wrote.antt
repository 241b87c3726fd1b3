-- What it is to have written bytes into a buffer from a place on.
use Rattle.std.specs.Prelude.{ℕ, ◌+◌, List, ◌≡◌, length}
use Rattle.std.proofs.lemmas.List.Edits.{sets}
use Rattle.text.specs.declared.Writer.{Writer}

-- the buffer with xs from index at on; what would stand past its end is dropped
unfoldable pub put : List ℕ → ℕ → List ℕ → List ℕ
put l at xs = sets l at xs

-- xs was written into old from index at on, which gave new; next is the index after it
pub record Wrote (old : List ℕ) (at : ℕ) (new : List ℕ) (next : ℕ) (xs : List ℕ) : Type 0 where
  pub place : next ≡ at + length xs
  pub bytes : new ≡ put old at xs

-- the writer v is w after xs was written: of the same buffer
pub record Writes (w v : Writer) (xs : List ℕ) : Type 0 where
  pub lent : v.out.ghost_name ≡ w.out.ghost_name
  pub wrote : Wrote w.out.now w.at v.out.now v.at xs
