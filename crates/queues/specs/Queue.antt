-- The queue of a site, what waits to enter it, and its head.
use Rattle.std.specs.Prelude.{ℕ, Bool, false, ◌&&◌, ◌||◌, not, List, eqb, ltb}
use Rattle.bounded.specs.Bounded.{any_below, count_below, first_below}
use Rattle.tables.specs.Lists.{conflict_in}
use Rattle.tables.specs.Concern.{touches}
use Rattle.tables.specs.Sites.{site_keys}
use Rattle.tables.specs.declared.Txn.{Txn}
use Rattle.tables.specs.declared.Tables.{Tables}
use Rattle.parts.specs.Cells.{place_in, cell, nobody}
use Rattle.steps.specs.declared.Place.{Place}

-- the queue of s is what it has delivered and not closed
abbrev pub queued_in : List Bool → List ℕ → ℕ → ℕ → Bool
queued_in delivered closed s t = cell false delivered t s && eqb (cell 0 closed t s) 0

-- of two, u at place q and t at place p, u comes first: by place; of equal places the lower transaction number
abbrev pub precedes : ℕ → ℕ → ℕ → ℕ → Bool
precedes u q t p = ltb q p || (eqb q p && ltb u t)

-- of n transactions, none in the queue of s comes before t
unfoldable pub head_in : List Place → List Bool → List ℕ → ℕ → ℕ → ℕ → Bool
head_in places delivered closed n t s =
    not (any_below n (λ u. queued_in delivered closed s u && precedes u (place_in places u) t (place_in places t)))

-- of n transactions, t conflicts with one in the queue of s
unfoldable pub blocked_in : List Bool → List ℕ → List Txn → ℕ → ℕ → ℕ → Bool
blocked_in delivered closed txn n t s =
    any_below n (λ u. queued_in delivered closed s u && conflict_in txn t u)

-- submitted, not yet delivered, and R has the site
abbrev pub waits : ℕ → Bool → Bool → Bool
waits p delivered concerned = ltb 0 p && (not delivered && concerned)

-- of n transactions, the lowest place that waits at s, whose keys are the set m
unfoldable pub next_in : List Place → List Bool → List Txn → ℕ → ℕ → ℕ → ℕ
next_in places delivered txn n m s =
    first_below n (place_in places) (λ t. waits (place_in places t) (cell false delivered t s) (touches txn t m)) nobody

-- of n transactions, how many have a place
unfoldable pub submitted_in : List Place → ℕ → ℕ
submitted_in places n = count_below n (λ t. ltb 0 (place_in places t))

-- of the tables T: the next to deliver at s, and whether t conflicts with one in the queue there
abbrev pub next_of : Tables → List Place → List Bool → ℕ → ℕ
next_of T places delivered s = next_in places delivered T.txn T.txns (site_keys T s) s

abbrev pub blocked_of : Tables → List Bool → List ℕ → ℕ → ℕ → Bool
blocked_of T delivered closed t s = blocked_in delivered closed T.txn T.txns t s
