-- The next to deliver after one more is looked at, and how many are submitted at most.
-- Assumes nothing.
use Rattle.std.proofs.Common.{ℕ, ◌≤◌, Bool, false, ◌&&◌, ◌||◌, cond, List, eqb, ltb, ◌≡◌, sym, ◌+◌}
use Rattle.bounded.specs.Bounded.{first_below}
use Rattle.bounded.proofs.Truth.{and-false}
use Rattle.bounded.proofs.Laws.{count_most, first_up}
use Rattle.parts.specs.Cells.{place_in}
use Rattle.steps.specs.declared.Place.{Place}
use Rattle.queues.specs.Queue.{submitted_in}

-- t is found where it passes and comes sooner, else what was found
pub found_up : (t : ℕ) (rank : ℕ → ℕ) (p : ℕ → Bool) (d f : ℕ) (b : Bool) → f ≡ first_below t rank p d → (p t && (eqb f d || ltb (rank t) (rank f))) ≡ b → cond b t f ≡ first_below (t + 1) rank p d
found_up t rank p d f b e h = sym (rw (first_up, ← e, h))

-- both pass only where each does
pub and_left : (a b : Bool) → a ≡ false → (a && b) ≡ false
and_left a b h = rw h

pub and_right : (a b : Bool) → b ≡ false → (a && b) ≡ false
and_right a b h = rw h (and-false a)

-- at most n of n transactions have a place
pub submitted_most : (places : List Place) (n : ℕ) → submitted_in places n ≤ n
unfolding submitted_in
submitted_most places n = count_most n (λ t. ltb 0 (place_in places t))
