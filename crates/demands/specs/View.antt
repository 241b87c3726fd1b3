-- A state in the terms of the one-copy run: its tables, the order of places, what is committed, and the single copy.
use Rattle.std.specs.Prelude.{ℕ, Bool, ◌&&◌, List, eqb, ltb, get_or}
use Rattle.parts.specs.Cells.{place_in, nobody}
use Rattle.bounded.specs.Bounded.{any_below, least_below}
use Rattle.tables.specs.Lists.{row_at, in_row, read_count, write_count, write_value, read_row, write_row}
use Rattle.tables.specs.Sites.{site_count, holds}
use Rattle.tables.specs.Concern.{concerns}
use Rattle.tables.specs.declared.Tables.{Tables}
use Rattle.steps.specs.declared.Place.{Place}
use Rattle.machine.specs.Parts.{place_of, closed_at}
use Rattle.machine.specs.declared.State.{State}
use Rattle.onecopy.specs.Copy.{Table, Order, one_copy}

-- where k stands among the first n of a list; 8 where it does not
unfoldable pub slot : List ℕ → ℕ → ℕ → ℕ
slot row n k = least_below n (λ i. eqb (row_at row i) k) 8

-- who holds which key, which sites a transaction concerns, what it reads, writes and gives; first values
abbrev pub table_of : Tables → Table
table_of T = record {
  sites = site_count T;
  holds = holds T;
  concerns = λ s t. concerns T t s;
  reads = λ t k. ltb t T.txns && in_row (read_row T t) (read_count T t) k;
  writes = λ t k. ltb t T.txns && in_row (write_row T t) (write_count T t) k;
  gives = λ t k. write_value T t (slot (write_row T t) (write_count T t) k);
  first = λ k. get_or T.first k 0;
}

-- of n transactions, the one submitted at place p; nobody where there is none
unfoldable pub whose_in : List Place → ℕ → ℕ → ℕ
whose_in places n p = least_below n (λ t. ltb 0 (place_in places t) && eqb (place_in places t) p) nobody

abbrev pub order_of : State → Order
order_of st = record { place = place_of st; at = whose_in st.parts.places st.tables.txns }

-- committed at some site
abbrev pub committed_of : State → ℕ → Bool
committed_of st t = any_below (site_count st.tables) (λ s. eqb (closed_at st t s) 1)

-- version and value of k just before place p, where the committed transactions run alone in the order of their places
abbrev pub copy_of : State → ℕ → ℕ → ℕ × ℕ
copy_of st p k = one_copy (table_of st.tables) (order_of st) (committed_of st) p k
