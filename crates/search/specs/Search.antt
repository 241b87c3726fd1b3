-- The first step accepted among CLOSE, DELIVER and CARRY: what SETTLE takes next.
use Rattle.std.specs.Prelude.{ℕ, Bool, cond, List, eqb, ltb}
use Rattle.bounded.specs.Bounded.{first_below, least_below}
use Rattle.tables.specs.Sites.{site_count}
use Rattle.tables.specs.declared.Tables.{Tables}
use Rattle.parts.specs.Cells.{place_in, nobody}
use Rattle.refusals.specs.Refusals.{deliver_refusal_in, carry_refusal_in, close_refusal_in}
use Rattle.steps.specs.declared.Place.{Place}
use Rattle.steps.specs.declared.Version.{Version}
use Rattle.parts.specs.declared.Parts.{Parts}

-- the parts of a state that these steps look at
pub record Seen : Type 0 where
  pub versions : List Version
  pub places : List Place
  pub delivered : List Bool
  pub closed : List ℕ
  pub cast : List ℕ
  pub carried : List ℕ

abbrev pub parts : List Version → List Place → List Bool → List ℕ → List ℕ → List ℕ → Seen
parts versions places delivered closed cast carried = record {
  versions = versions;
  places = places;
  delivered = delivered;
  closed = closed;
  cast = cast;
  carried = carried;
}

abbrev pub seen : Parts → Seen
seen w = parts w.versions w.places w.delivered w.closed w.cast w.carried

abbrev pub closing : Tables → Seen → ℕ → ℕ → ℕ
closing T w t s = close_refusal_in T w.versions w.places w.delivered w.closed w.cast w.carried t s

-- no site: what a search answers where there is none
abbrev pub nowhere : ℕ
nowhere = 16

-- CLOSE: the lowest site, then queue order
unfoldable pub closes_first_in : Tables → Seen → ℕ → ℕ
closes_first_in T w s = first_below T.txns (place_in w.places) (λ t. eqb (closing T w t s) 0) nobody

unfoldable pub first_closing_in : Tables → Seen → ℕ
first_closing_in T w = least_below (site_count T) (λ s. ltb (closes_first_in T w s) nobody) nowhere

-- DELIVER: the lowest site
unfoldable pub first_delivering_in : Tables → List Place → List Bool → List ℕ → ℕ
first_delivering_in T places delivered closed = least_below (site_count T) (λ s. eqb (deliver_refusal_in T places delivered closed s) 0) nowhere

-- CARRY: the lowest place, then from, then to
unfoldable pub first_to_in : Tables → List ℕ → List ℕ → ℕ → ℕ → ℕ
first_to_in T cast carried t from = least_below (site_count T) (λ to. eqb (carry_refusal_in T cast carried t from to) 0) nowhere

unfoldable pub first_from_in : Tables → List ℕ → List ℕ → ℕ → ℕ
first_from_in T cast carried t = least_below (site_count T) (λ from. ltb (first_to_in T cast carried t from) nowhere) nowhere

unfoldable pub first_carried_in : Tables → List Place → List ℕ → List ℕ → ℕ
first_carried_in T places cast carried = first_below T.txns (place_in places) (λ t. ltb (first_from_in T cast carried t) nowhere) nobody

-- a step that SETTLE may take
pub data Todo : Type 0 where
  Close : ℕ → ℕ → Todo
  Deliver : ℕ → Todo
  Carry : ℕ → ℕ → ℕ → Todo
  Nothing : Todo

-- the first step accepted
unfoldable pub todo_in : Tables → Seen → Todo
todo_in T w =
    let s = first_closing_in T w in
    let d = first_delivering_in T w.places w.delivered w.closed in
    let t = first_carried_in T w.places w.cast w.carried in
    let f = first_from_in T w.cast w.carried t in
    let carries = cond (ltb t nobody) (Carry t f (first_to_in T w.cast w.carried t f)) Nothing in
    let delivers = cond (ltb d nowhere) (Deliver d) carries in
    cond (ltb s nowhere) (Close (closes_first_in T w s) s) delivers
