-- The number that refuses a step, 0 where it is accepted: the tests in the listed order, asked of the tables and of the lists that they look at.
use Rattle.std.specs.Prelude.{ℕ, Bool, false, ◌&&◌, ◌||◌, not, cond, List, eqb, leb, ltb}
use Rattle.queues.specs.Queue.{head_in, next_of, blocked_of}
use Rattle.parts.specs.Cells.{place_in, cell, nobody, recorded_in}
use Rattle.bounded.specs.Bounded.{all_below}
use Rattle.tables.specs.Lists.{read_count, read_key}
use Rattle.tables.specs.Sites.{site_count, holds}
use Rattle.tables.specs.Concern.{concerns, local}
use Rattle.tables.specs.declared.Tables.{Tables}
use Rattle.rules.specs.Votes.{holds_vote}
use Rattle.rules.specs.Asked.{verdict_at, room_of}
use Rattle.steps.specs.declared.Place.{Place}
use Rattle.steps.specs.declared.Version.{Version}
use Rattle.steps.specs.declared.Step.{Step}
use Rattle.steps.specs.declared.Step.TheVariants.{Read, Submit, Deliver, Carry, Close, Settle}

-- READ: no such transaction, read, site; the site lacks the key; recorded before
unfoldable pub read_refusal_in : Tables → List Bool → ℕ → ℕ → ℕ → ℕ
read_refusal_in T recorded t i s =
    cond (leb T.txns t) 20
    (cond (leb (read_count T t) i) 22
    (cond (leb (site_count T) s) 21
    (cond (not (holds T s (read_key T t i))) 23
    (cond (recorded_in recorded t i) 24
    0))))

-- SUBMIT: submitted before; a read is still missing
unfoldable pub submit_refusal_in : Tables → List Place → List Bool → ℕ → ℕ
submit_refusal_in T places recorded t =
    cond (leb T.txns t) 20
    (cond (ltb 0 (place_in places t)) 24
    (cond (not (all_below (read_count T t) (recorded_in recorded t))) 25
    0))

-- DELIVER: nothing to deliver; the next one conflicts with one in the queue
unfoldable pub deliver_refusal_in : Tables → List Place → List Bool → List ℕ → ℕ → ℕ
deliver_refusal_in T places delivered closed s =
    cond (leb (site_count T) s) 21
    (cond (eqb (next_of T places delivered s) nobody) 26
    (cond (blocked_of T delivered closed (next_of T places delivered s) s) 27
    0))

-- CARRY: t is local, from equals to, or from has cast no vote on t; carried before
unfoldable pub vote_refusal_in : Tables → List ℕ → List ℕ → ℕ → ℕ → ℕ → ℕ
vote_refusal_in T cast carried t from to =
    cond (local T t || (eqb from to || eqb (cell 0 cast t from) 0)) 28
    (cond (holds_vote (cell 0 cast t to) (cell 0 carried t to) to from) 24
    0)

unfoldable pub carry_refusal_in : Tables → List ℕ → List ℕ → ℕ → ℕ → ℕ → ℕ
carry_refusal_in T cast carried t from to =
    cond (leb T.txns t) 20
    (cond (leb (site_count T) from || leb (site_count T) to) 21
    (cond (not (concerns T t to)) 23
    (vote_refusal_in T cast carried t from to)))

-- CLOSE: verdict not known; a commit that is not at the head; a version at its end
unfoldable pub verdict_refusal_in : Tables → List Version → List Place → List Bool → List ℕ → List ℕ → List ℕ → ℕ → ℕ → ℕ
verdict_refusal_in T versions places delivered closed cast carried t s =
    cond (eqb (verdict_at T cast carried t s) 0) 30
    (cond (eqb (verdict_at T cast carried t s) 1 && not (head_in places delivered closed T.txns t s)) 31
    (cond (eqb (verdict_at T cast carried t s) 1 && not (room_of T versions t s)) 32
    0))

-- closed before; not delivered here
unfoldable pub close_refusal_in : Tables → List Version → List Place → List Bool → List ℕ → List ℕ → List ℕ → ℕ → ℕ → ℕ
close_refusal_in T versions places delivered closed cast carried t s =
    cond (leb T.txns t) 20
    (cond (leb (site_count T) s) 21
    (cond (not (concerns T t s)) 23
    (cond (ltb 0 (cell 0 closed t s)) 24
    (cond (not (cell false delivered t s)) 29
    (verdict_refusal_in T versions places delivered closed cast carried t s)))))

-- of any step
unfoldable pub refusal_in : Tables → List Version → List Place → List Bool → List Bool → List ℕ → List ℕ → List ℕ → Step → ℕ
refusal_in T versions places recorded delivered closed cast carried (Read t i s) = read_refusal_in T recorded t i s
refusal_in T versions places recorded delivered closed cast carried (Submit t) = submit_refusal_in T places recorded t
refusal_in T versions places recorded delivered closed cast carried (Deliver s) = deliver_refusal_in T places delivered closed s
refusal_in T versions places recorded delivered closed cast carried (Carry t from to) = carry_refusal_in T cast carried t from to
refusal_in T versions places recorded delivered closed cast carried (Close t s) = close_refusal_in T versions places delivered closed cast carried t s
refusal_in T versions places recorded delivered closed cast carried Settle = 0
