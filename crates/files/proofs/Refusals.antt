-- A refusal and its number, and what a record comes to where it is refused or not.
-- Assumes nothing.
use Rattle.std.proofs.Common.{ℕ, ◌≡◌, List, [], ◌∷◌, inl, inr, Some, Result, Ok, Err, Bool, true, false, cond, eqb}
use types.Run.{OneOf}
use Rattle.numbers.specs.Numbers.{file_number, file_answer, file_refusal}
use Rattle.numbers.proofs.Laws.{file_called, file_refuses}
use Rattle.numbers.specs.declared.FileRefusal.{FileRefusal}
use Rattle.tables.specs.declared.Tables.{Tables}
use Rattle.std.specs.Result.{IsErrAnd}
use Rattle.files.specs.Refusal.{misfit, placed}
use Rattle.files.specs.declared.Refused.{Refused}
use Rattle.records.specs.Judge.{judge_at}
use Rattle.records.specs.declared.Record.{Record}
use Rattle.files.specs.Walk.{stop}
use Rattle.files.specs.Schedule.{schedule_by}
use Rattle.files.specs.Setup.{in_setup, reading, accepted, taken, ended, turn_of}
use Rattle.tables.specs.Judge.{end_refusal}

-- the numbers that refuse a record
abbrev pub record_numbers : List ℕ
record_numbers = 2 ∷ 3 ∷ 4 ∷ 5 ∷ 6 ∷ 7 ∷ []

pub numbered : (n : ℕ) → OneOf record_numbers n → file_number (file_refusal n) ≡ n
unfolding file_refusal
numbered n (inl e) = rw e
numbered n (inr (inl e)) = rw e
numbered n (inr (inr (inl e))) = rw e
numbered n (inr (inr (inr (inl e)))) = rw e
numbered n (inr (inr (inr (inr (inl e))))) = rw e
numbered n (inr (inr (inr (inr (inr e))))) = rw e

-- what a `?` hands on
pub handed : {X E : Type 0} (r : Result X E) (e : E) → IsErrAnd r (λ x. x ≡ e) → r ≡ Err e
handed (Ok x) e h = absurd h
handed (Err x) e h = rw h

-- what was found, where it was placed with no refusal
pub placed_ok : {X : Type 0} (r : Result X FileRefusal) (at : ℕ) (x : X) → Ok x ≡ placed r at → r ≡ Ok x
placed_ok (Ok y) at x h = cc
placed_ok (Err why) at x h = cc

-- a record that is not good
module _ (at : ℕ) (e : Refused ℕ) where
  pub schedule_err : (j : Result Record FileRefusal) → Err e ≡ placed j at → schedule_by at j ≡ stop (Err e)
  schedule_err (Ok r) p = cc
  schedule_err (Err why) p = cc

  pub judged_err : (T : Tables) (s : List ℕ) (j : Result Record FileRefusal) → j ≡ judge_at (in_setup T) s at → Err e ≡ placed j at → reading (Err e) T ≡ turn_of T s at
  unfolding turn_of
  judged_err T s (Ok r) h p = cc
  judged_err T s (Err why) h p = let q : e ≡ misfit why at = cc in rw (q, ← h)

-- one that is
pub accepted_err : (n : ℕ) (new : Tables) (why : FileRefusal) → file_number why ≡ n → Err why ≡ accepted n new
accepted_err n new why h = rw (← h, file_refuses why, file_called why)

module _ (T : Tables) (at n : ℕ) (new : Tables) (next : ℕ) (r : Result Tables FileRefusal) (j : r ≡ accepted n new) where
  pub taken_ok : (x : Tables) → Ok x ≡ placed r at → reading (Ok (Some next)) x ≡ taken T at n new next
  unfolding taken
  taken_ok x p = by (eqb n 0) (rw j at p)
    where
      by : (b : Bool) → Ok x ≡ placed (cond b (Ok new) (Err (file_refusal n))) at → reading (Ok (Some next)) x ≡ cond b (reading (Ok (Some next)) new) (reading (Err (misfit (file_refusal n) at)) T)
      by true q = cc
      by false q = cc

  pub taken_err : (e : Refused ℕ) → Err e ≡ placed r at → reading (Err e) T ≡ taken T at n new next
  unfolding taken
  taken_err e p = by (eqb n 0) (rw j at p)
    where
      by : (b : Bool) → Err e ≡ placed (cond b (Ok new) (Err (file_refusal n))) at → reading (Err e) T ≡ cond b (reading (Ok (Some next)) new) (reading (Err (misfit (file_refusal n) at)) T)
      by true q = cc
      by false q = cc

-- END
pub ended_err : (T : Tables) (s : List ℕ) (at next : ℕ) (e : Refused ℕ) (r : Result (Unit {0}) FileRefusal) → file_answer r ≡ end_refusal T → Err e ≡ placed r at → reading (Err e) T ≡ ended T s at next
unfolding ended
ended_err T s at next e (Ok _) h p = cc
ended_err T s at next e (Err why) h p = let q : e ≡ misfit why at = cc in rw (q, ← h, file_refuses why, file_called why)
