-- Each turn that goes on leaves less of the part that is read, so what each turn keeps, a setup ends with; its groups stay at most eight.
-- Assumes nothing.
use Rattle.std.proofs.Common.{Option, Some, None, Result, Ok, Err, ℕ, suc, ◌-◌, ◌<◌, ◌≤◌, Bool, true, false, cond, List, ◌≡◌, refl, ap, arith, eqb, length}
use Rattle.std.specs.Result.{result_and}
use Rattle.tables.specs.Empty.{no_tables}
use Rattle.tables.specs.declared.Tables.{Tables}
use Rattle.records.specs.Judge.{judge_at}
use Rattle.records.specs.declared.Record.{Record}
use Rattle.records.proofs.Laws.{Lies}
use Rattle.records.proofs.Good.{judge_is}
use Rattle.files.specs.Walk.{Turn, go, stop}
use Rattle.files.specs.Schedule.{in_schedule, schedule_by, schedule_turn}
use Rattle.files.specs.Rows.{with_keys, with_group, with_txn}
use Rattle.files.specs.Setup.{Turned, reading, setup_read, turn_of, Reached, onward, setup_turn, read_from, read_setup}
use Rattle.files.specs.declared.Refused.{Refused}
use Rattle.files.specs.declared.Reading.{Reading}
use Rattle.files.proofs.Fine.{group_room}
use Rattle.files.proofs.Turns.{Cases, turn_is}
use Rattle.files.proofs.Walk.{Has, walk_has}

pub setup_falls : (s : List ℕ) (x y : Reached) → setup_turn s x ≡ go y → length s - y.at < length s - x.at
unfolding setup_turn
setup_falls s x y = turn_is x.tables s x.at (λ (z : Turned). onward z.tables z.next ≡ go y → length s - y.at < length s - x.at) (record {
  refuses = λ why o h. cc;
  keys = λ r l k m. on l;
  group = λ r l k e. on l;
  txn = λ r l k e. on l;
  ready = λ k g e h. cc;
  follows = λ next l h. cc;
})
  where
    on : {r : Record} {T : Tables} → Lies s x.at r → ◌≡◌ {A = Turn Reached (Reading ℕ)} (go (record { at = r.next; tables = T })) (go y) → length s - y.at < length s - x.at
    on {r = r} {T = T} l h =
        let z : record { at = r.next; tables = T } ≡ y = cc in
        let w : r.next ≡ y.at = ap (λ (r : Reached). r.at) z in
        omega (arith, l)

-- a turn, by what it leads to
pub turned : (s : List ℕ) (x : Reached) (p : Result (Option ℕ) (Refused ℕ)) (T : Tables) → reading p T ≡ turn_of x.tables s x.at → setup_turn s x ≡ onward T p
unfolding setup_turn
turned s x p T h = rw (← h)

-- what each record keeps, a setup ends with
pub setup_has : (s : List ℕ) (I : Reached → Type 0) (P : Reading ℕ → Type 0) → ((r : Reached) → I r → Cases r.tables s r.at (λ (x : Turned). Has I P (onward x.tables x.next)))
    → I (record { at = 0; tables = no_tables }) → P (read_setup s)
unfolding read_from setup_turn
setup_has s I P keeps i = walk_has (setup_turn s) (setup_read (Ok tt) no_tables) (λ (r : Reached). length s - r.at) (setup_falls s)
    I P (λ r j. turn_is r.tables s r.at (λ (x : Turned). Has I P (onward x.tables x.next)) (keeps r j)) (suc (length s)) (record { at = 0; tables = no_tables }) (omega arith) i

-- the else of `while let Some(next)`: what goes on no further stops
pub other_stops : (T : Tables) (v : Result (Option ℕ) (Refused ℕ)) → ((to : ℕ) → v ≡ Ok (Some to) → ⊥) → onward T v ≡ stop (setup_read (result_and v (Ok tt)) T)
other_stops T (Ok (Some to)) h = absurd (h to refl)
other_stops T (Ok None) h = refl
other_stops T (Err e) h = refl

-- ---- at most eight groups

pub no_groups : no_tables.groups ≤ 8
unfolding no_tables
no_groups = omega arith

pub groups_stay : (T : Tables) (s : List ℕ) (at : ℕ) → T.groups ≤ 8 → (turn_of T s at).tables.groups ≤ 8
groups_stay T s at h = turn_is T s at (λ (x : Turned). x.tables.groups ≤ 8) (record {
  refuses = λ why o. h;
  keys = λ r l k m. unfold with_keys in h;
  group = λ r l k e. let f = group_room _ T.groups _ _ _ e in unfold with_group in omega arith;
  txn = λ r l k e. unfold with_txn in h;
  ready = λ k g e. h;
  follows = λ next l. h;
})

-- ---- schedules

pub schedule_falls : (s : List ℕ) (at to : ℕ) → schedule_turn s at ≡ go to → length s - to < length s - at
unfolding schedule_turn
schedule_falls s at to = by (eqb at (length s))
  where
    by : (b : Bool) → cond b (stop (Ok tt)) (schedule_by at (judge_at in_schedule s at)) ≡ go to → length s - to < length s - at
    by true h = cc
    by false h = judge_is in_schedule s at (λ j. schedule_by at j ≡ go to → length s - to < length s - at)
        (λ r i e. let z : r.next ≡ to = cc in omega (arith, i.lies)) (λ why o e. cc) h
