-- What a setup reads as: record by record, until one is END or is refused.
use Rattle.std.specs.Prelude.{ℕ, suc, Bool, ◌||◌, cond, List, eqb, leb, length, Option, Some, None, Result, Ok, Err}
use Rattle.numbers.specs.declared.FileRefusal.{FileRefusal}
use Rattle.numbers.specs.declared.FileRefusal.TheVariants.{Misplaced}
use Rattle.tables.specs.Empty.{no_tables}
use Rattle.tables.specs.Judge.{group_refusal, txn_refusal, end_refusal}
use Rattle.tables.specs.declared.Tables.{Tables}
use Rattle.records.specs.Judge.{judge_at}
use Rattle.records.specs.declared.Record.{Record}
use Rattle.files.specs.Walk.{Turn, go, stop, walk}
use Rattle.numbers.specs.Numbers.{file_refusal}
use Rattle.files.specs.Refusal.{misfit}
use Rattle.files.specs.Rows.{with_keys, with_group, with_txn}
use Rattle.files.specs.declared.Refused.{Refused}
use Rattle.files.specs.declared.Reading.{Reading}

-- which tag may come next: KEYS first, then a GROUP, then more GROUP, then TXN; END from the first GROUP on
unfoldable pub allowed : ℕ → ℕ → ℕ → ℕ → Bool
allowed keys groups txns tag =
    cond (eqb keys 0) (eqb tag 0x01)
    (cond (eqb groups 0) (eqb tag 0x02)
    (cond (eqb tag 0x02) (eqb txns 0)
    (eqb tag 0x03 || eqb tag 0x0F)))

abbrev pub in_setup : Tables → ℕ → Bool
in_setup T tag = allowed T.keys T.groups T.txns tag

-- how far one record leads, on to a position or to the end, with the tables after it
pub record Turned : Type 0 where
  pub next : Result (Option ℕ) (Refused ℕ)
  pub tables : Tables

abbrev pub reading : Result (Option ℕ) (Refused ℕ) → Tables → Turned
reading p T = record { next = p; tables = T }

-- the new tables with a record, or the refusal of number n
abbrev pub accepted : ℕ → Tables → Result Tables FileRefusal
accepted n new = cond (eqb n 0) (Ok new) (Err (file_refusal n))

-- the record at at is refused with n, the tables being as they were, or with 0 taken: on to next with the new tables
unfoldable pub taken : Tables → ℕ → ℕ → Tables → ℕ → Turned
taken T at n new next = cond (eqb n 0) (reading (Ok (Some next)) new) (reading (Err (misfit (file_refusal n) at)) T)

-- nothing may follow END in setup
unfoldable pub ended : Tables → List ℕ → ℕ → ℕ → Turned
ended T s at next =
    cond (eqb (end_refusal T) 0)
    (reading (cond (leb (length s) next) (Ok None) (Err (misfit Misplaced next))) T)
    (reading (Err (misfit (file_refusal (end_refusal T)) at)) T)

-- the tables with a record before END, and the number that refuses it as it stands there
abbrev pub with_record : Tables → List ℕ → Record → Tables
with_record T s r = cond (eqb r.tag 0x01) (with_keys T s r.start r.len) (cond (eqb r.tag 0x02) (with_group T s r.start) (with_txn T s r.start))

abbrev pub record_refusal : Tables → List ℕ → Record → ℕ
record_refusal T s r =
    cond (eqb r.tag 0x01) 0
    (cond (eqb r.tag 0x02) (group_refusal (with_group T s r.start) T.groups)
    (txn_refusal (with_txn T s r.start) T.txns))

abbrev pub turn_by : Tables → List ℕ → ℕ → Result Record FileRefusal → Turned
turn_by T s at (Err why) = reading (Err (misfit why at)) T
turn_by T s at (Ok r) = cond (eqb r.tag 0x0F) (ended T s at r.next) (taken T at (record_refusal T s r) (with_record T s r) r.next)

-- one record
unfoldable pub turn_of : Tables → List ℕ → ℕ → Turned
turn_of T s at = turn_by T s at (judge_at (in_setup T) s at)

-- where the reading is: a position and the tables so far
pub record Reached : Type 0 where
  pub at : ℕ
  pub tables : Tables

abbrev pub setup_read : Result (Unit {0}) (Refused ℕ) → Tables → Reading ℕ
setup_read o T = record { outcome = o; tables = T }

abbrev pub onward : Tables → Result (Option ℕ) (Refused ℕ) → Turn Reached (Reading ℕ)
onward T (Ok (Some next)) = go (record { at = next; tables = T })
onward T (Ok None) = stop (setup_read (Ok tt) T)
onward T (Err e) = stop (setup_read (Err e) T)

unfoldable pub setup_turn : List ℕ → Reached → Turn Reached (Reading ℕ)
setup_turn s r = let x = turn_of r.tables s r.at in onward x.tables x.next

-- the whole of a setup, with these tables to begin with
unfoldable pub read_from : Tables → List ℕ → Reading ℕ
read_from T s = walk (setup_turn s) (setup_read (Ok tt) no_tables) (suc (length s)) (record { at = 0; tables = T })

abbrev pub read_setup : List ℕ → Reading ℕ
read_setup s = read_from no_tables s
