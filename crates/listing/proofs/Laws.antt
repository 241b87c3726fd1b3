-- A run of a schedule: where it stands after each step, and how it ends.
-- Assumes nothing.
use Rattle.std.proofs.Common.{ℕ, zero, suc, ◌+◌, ◌-◌, ◌*◌, ◌≤◌, Bool, true, false, List, [], ◌∷◌, ◌++◌, length, Result, Ok, Err, ◌≡◌, refl, ◌∙◌, append-nil, append_assoc, add-one, arith}
use Rattle.files.specs.Schedule.{step_by, steps_from, steps_of}
use Rattle.lines.specs.Lines.{step_line, step_lines}
use Rattle.bounded.proofs.Truth.{clash}
use Rattle.text.specs.Wrote.{Writes}
use Rattle.text.specs.declared.Writer.{Writer}
use Rattle.text.proofs.Laws.{writes_nothing, writes_then}
use Rattle.numbers.specs.declared.StepRefusal.{StepRefusal}
use Rattle.steps.specs.Answers.{numbers_of}
use Rattle.steps.specs.declared.Answer.{Answer}
use Rattle.steps.specs.declared.Step.{Step}
use Rattle.records.specs.Record.{record_at}
use Rattle.records.specs.declared.Record.{Record}
use Rattle.records.specs.declared.Broken.{Broken}
use Rattle.records.proofs.Laws.{Lies, whole_lies}
use Rattle.search.specs.Search.{Nothing}
use Rattle.machine.specs.Usable.{usable}
use Rattle.machine.specs.Settle.{todo}
use Rattle.machine.specs.Steps.{decided}
use Rattle.machine.specs.Lent.{Takes, idle_after}
use Rattle.machine.specs.declared.State.{State}
use Rattle.machine.proofs.Kept.{step_usable, step_places, decides}
use Rattle.machine.proofs.Idle.{idle-keeps}
use Rattle.listing.specs.Run.{end_of, answers_of}

-- ---- the steps of a schedule, record by record

steps_go : (k : ℕ) (s : List ℕ) (at : ℕ) (r : Record) → record_at s at ≡ Ok r → steps_from (suc k) s at ≡ step_by r.tag s r.start ∷ steps_from k s r.next
unfolding steps_from
steps_go k s at r e = rw (e, steps_from)

-- where no record stands
steps_end : (k : ℕ) (s : List ℕ) (at : ℕ) (r : Result Record Broken) → r ≡ record_at s at → ((q : Record) → r ≡ Ok q → ⊥) → steps_from k s at ≡ []
unfolding steps_from
steps_end zero s at r e h = refl
steps_end (suc k) s at (Ok q) e h = absurd (h q refl)
steps_end (suc k) s at (Err b) e h = rw (← e, steps_from)

-- ---- a run

-- it leaves a usable state usable
pub end_usable : (st : State) (l : List Step) → length st.parts.places ≡ 128 → usable st ≡ true → usable (end_of st l) ≡ true
unfolding end_of
end_usable st [] z h = h
end_usable st (x ∷ l) z h = rw (decides st x h) (end_usable (decided st x).next l (step_places st x ∙ z) (step_usable st x z h))

-- where a run of schedule s stands that began at state st₀ with the writer w₀
pub record Running (s : List ℕ) (st₀ : State) (w₀ : Writer) (st : State) (idle : Bool) (w : Writer) (i pos : ℕ) : Type 0 where
  pub runs : usable st ≡ true
  -- what is remembered of SETTLE
  pub rests : idle ≡ true → todo st ≡ Nothing
  pub placed : length st.parts.places ≡ 128
  pub within : pos ≤ length s
  pub few : 3 * i ≤ pos
  pub short : w.at ≤ w₀.at + 12 * pos
  -- the lines so far, and those of the steps left
  pub lines : List ℕ
  pub wrote : Writes w₀ w lines
  pub left : ℕ
  pub enough : length s - pos ≤ left
  pub all_lines : lines ++ step_lines i (answers_of st (steps_from left s pos)) ≡ step_lines 0 (answers_of st₀ (steps_of s))
  pub same_end : end_of st (steps_from left s pos) ≡ end_of st₀ (steps_of s)

module _ {s : List ℕ} {st₀ : State} {w₀ : Writer} where
  -- no step yet
  pub starts : usable st₀ ≡ true → length st₀.parts.places ≡ 128 → Running s st₀ w₀ st₀ false w₀ 0 0
  unfolding steps_of
  starts u z = record {
    runs = u;
    rests = λ h. clash h refl;
    placed = z;
    within = omega arith;
    few = omega arith;
    short = omega arith;
    lines = [];
    wrote = writes_nothing;
    left = length s;
    enough = omega arith;
    all_lines = refl;
    same_end = refl;
  }

  -- a step more: its line is written
  pub goes : {st st' : State} {idle idle' : Bool} {w v : Writer} {i pos : ℕ} {r : Record} {x : Step} {a : Result Answer StepRefusal} → Running s st₀ w₀ st idle w i pos
      → record_at s pos ≡ Ok r → x ≡ step_by r.tag s r.start → Takes st x a st' → idle' ≡ idle_after idle a
      → Writes w v (step_line i (numbers_of a)) → v.at ≤ w.at + 36 → Running s st₀ w₀ st' idle' v (i + 1) r.next
  unfolding step_lines answers_of end_of
  goes {st} {st'} {idle} {idle'} {w} {v} {i} {pos} {r} {x} {a} here e q d m wrote b = by here.left here.enough here.all_lines here.same_end
    where
      l : Lies s pos r
      l = whole_lies e

      go : (k : ℕ) → steps_from (suc k) s pos ≡ x ∷ steps_from k s r.next
      go k = rw q (steps_go k s pos r e)

      by : (k : ℕ) → length s - pos ≤ k → here.lines ++ step_lines i (answers_of st (steps_from k s pos)) ≡ step_lines 0 (answers_of st₀ (steps_of s))
          → end_of st (steps_from k s pos) ≡ end_of st₀ (steps_of s) → Running s st₀ w₀ st' idle' v (i + 1) r.next
      by zero h p f = absurd (omega (arith, l))
      by (suc k) h p f = record {
        runs = rw d.1 (step_usable st x here.placed here.runs);
        rests = λ h. rw d.1 (idle-keeps idle st x here.rests (rw (m, d.0) at h));
        placed = rw d.1 (step_places st x ∙ here.placed);
        within = l.within;
        few = omega (arith, l, here.few);
        short = omega (arith, l, here.short);
        lines = here.lines ++ step_line i (numbers_of a);
        wrote = writes_then here.wrote wrote;
        left = k;
        enough = omega (arith, l);
        all_lines = rw (add-one, append_assoc) (rw (go k, answers_of, decides st x here.runs, ← d.0, ← d.1, step_lines) at p);
        same_end = rw (go k, end_of, decides st x here.runs, ← d.1) at f;
      }

  -- no step more
  pub ends : {st : State} {idle : Bool} {w : Writer} {i pos : ℕ} → Running s st₀ w₀ st idle w i pos
      → (r : Result Record Broken) → r ≡ record_at s pos → ((q : Record) → r ≡ Ok q → ⊥)
      → (st ≡ end_of st₀ (steps_of s)) × (Writes w₀ w (step_lines 0 (answers_of st₀ (steps_of s))) × (w.at ≤ w₀.at + 12 * length s))
  unfolding step_lines answers_of end_of
  ends {st} {idle} {w} {i} {pos} here r e h =
      let none = steps_end here.left s pos r e h in
      (rw none at here.same_end, (rw (← (rw (none, append-nil) at here.all_lines)) here.wrote, omega (arith, here.short, here.within)))
