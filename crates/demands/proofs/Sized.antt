-- What every reached state has as arrays: the tables it began with, the lengths that are declared, and that it is usable.
-- Assumes nothing.
use Prim.Native.Nat.{ℕ, zero, suc, ◌+◌, ◌*◌}
use mathlib.Core.Path.{◌≡◌, refl, ap, ◌∙◌}
use mathlib.Core.Bool.{Bool, true, false, cond}
use mathlib.Core.List.{List, [], ◌∷◌}
use lib.Dec.{eqb}
use lib.ListN.{length, get_or, set, length-set, length-replicate}
use Rattle.bounded.proofs.Lists.{list_length}
use Rattle.tables.specs.Lists.{write_key}
use Rattle.tables.specs.Sites.{holds}
use Rattle.tables.specs.Judge.{judge}
use Rattle.tables.specs.declared.Tables.{Tables}
use Rattle.tables.specs.First.{first_at}
use Rattle.steps.specs.Kinds.{version, place}
use Rattle.machine.specs.Parts.{with_closed}
use Rattle.machine.specs.Rules.{verdict}
use Rattle.machine.specs.Usable.{usable}
use Rattle.machine.specs.Effects.{read_done, submit_done, deliver_done, carry_done, committed, close_done}
use Rattle.effects.proofs.Stores.{stored_length}
use Rattle.machine.specs.Settle.{after}
use Rattle.machine.specs.Fresh.{start_of}
use Rattle.machine.specs.declared.State.{State}
use Rattle.search.specs.Search.{Todo}
use Rattle.search.specs.Search.{Close, Deliver, Carry, Nothing}
use Rattle.machine.proofs.Kept.{fresh_usable}
use Rattle.machine.proofs.Settle.{after_usable}

pub record Arrays (st : State) : Type 0 where
  pub versions : length st.parts.versions ≡ 1024
  pub values : length st.parts.values ≡ 1024
  pub recorded : length st.parts.recorded ≡ 1024
  pub readversions : length st.parts.readversions ≡ 1024
  pub readvalues : length st.parts.readvalues ≡ 1024
  pub places : length st.parts.places ≡ 128
  pub delivered : length st.parts.delivered ≡ 2048
  pub closed : length st.parts.closed ≡ 2048
  pub cast : length st.parts.cast ≡ 2048
  pub carried : length st.parts.carried ≡ 2048

pub record Whole (T : Tables) (st : State) : Type 0 where
  pub tables : st.tables ≡ T
  pub usable : usable st ≡ true
  pub arrays : Arrays st

-- ---- each step keeps the lengths

abbrev lengths : State → List ℕ
lengths st =
    length st.parts.versions ∷ length st.parts.values ∷ length st.parts.recorded ∷ length st.parts.readversions ∷ length st.parts.readvalues
    ∷ length st.parts.places ∷ length st.parts.delivered ∷ length st.parts.closed ∷ length st.parts.cast ∷ length st.parts.carried ∷ []

same_lengths : (st next : State) → Arrays st → lengths next ≡ lengths st → Arrays next
same_lengths st next z e = record {
  versions = ap (λ (l : List ℕ). get_or l 0 0) e ∙ z.versions;
  values = ap (λ (l : List ℕ). get_or l 1 0) e ∙ z.values;
  recorded = ap (λ (l : List ℕ). get_or l 2 0) e ∙ z.recorded;
  readversions = ap (λ (l : List ℕ). get_or l 3 0) e ∙ z.readversions;
  readvalues = ap (λ (l : List ℕ). get_or l 4 0) e ∙ z.readvalues;
  places = ap (λ (l : List ℕ). get_or l 5 0) e ∙ z.places;
  delivered = ap (λ (l : List ℕ). get_or l 6 0) e ∙ z.delivered;
  closed = ap (λ (l : List ℕ). get_or l 7 0) e ∙ z.closed;
  cast = ap (λ (l : List ℕ). get_or l 8 0) e ∙ z.cast;
  carried = ap (λ (l : List ℕ). get_or l 9 0) e ∙ z.carried;
}

pub read_arrays : (st : State) (t i s : ℕ) → Arrays st → Arrays (read_done st t i s).next
unfolding read_done
read_arrays st t i s z = same_lengths st (read_done st t i s).next z (simp length-set)

pub submit_arrays : (st : State) (t : ℕ) → Arrays st → Arrays (submit_done st t).next
unfolding submit_done
submit_arrays st t z = same_lengths st (submit_done st t).next z (simp length-set)

pub after_arrays : (st : State) (x : Todo) → Arrays st → Arrays (after st x)
unfolding deliver_done carry_done close_done
after_arrays st (Close t s) z = same_lengths st (close_done st t s).next z (by (eqb (verdict st t s) 1))
  where
    by : (b : Bool) → lengths (with_closed (cond b (committed st t s) st) t s (verdict st t s)) ≡ lengths st
    by true = unfold committed in simp (length-set, stored_length)
    by false = simp length-set
after_arrays st (Deliver s) z = same_lengths st (deliver_done st s).next z (simp length-set)
after_arrays st (Carry t from to) z = same_lengths st (carry_done st t from to).next z (simp length-set)
after_arrays st Nothing z = z

pub after_tables : (st : State) (x : Todo) → (after st x).tables ≡ st.tables
unfolding deliver_done carry_done close_done committed
after_tables st (Close t s) = by (eqb (verdict st t s) 1)
  where
    by : (b : Bool) → (with_closed (cond b (committed st t s) st) t s (verdict st t s)).tables ≡ st.tables
    by true = unfold committed in refl
    by false = refl
after_tables st (Deliver s) = refl
after_tables st (Carry t from to) = refl
after_tables st Nothing = refl

-- ---- and a fresh state has them

pub fresh_arrays : (T : Tables) → Arrays (start_of T)
unfolding start_of
fresh_arrays T = record {
  versions = length-replicate 1024 (version 1);
  values = list_length 0 1024 (first_at T);
  recorded = length-replicate 1024 false;
  readversions = length-replicate 1024 (version 0);
  readvalues = length-replicate {A = ℕ} 1024 0;
  places = length-replicate 128 (place 0);
  delivered = length-replicate 2048 false;
  closed = length-replicate {A = ℕ} 2048 0;
  cast = length-replicate {A = ℕ} 2048 0;
  carried = length-replicate {A = ℕ} 2048 0;
}

pub fresh_whole : (T : Tables) → judge T ≡ 0 → Whole T (start_of T)
fresh_whole T h = record { tables = unfold start_of in refl; usable = fresh_usable T h; arrays = fresh_arrays T }

pub after_whole : (T : Tables) (st : State) (x : Todo) → Whole T st → Whole T (after st x)
after_whole T st x w = record { tables = after_tables st x ∙ w.tables; usable = after_usable st x w.usable; arrays = after_arrays st x w.arrays }
