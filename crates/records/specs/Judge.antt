-- The first judgement of a record: header cut, tag, body cut, length.
use Rattle.std.specs.Prelude.{ℕ, Bool, cond, List, Result, Ok, Err}
use Rattle.numbers.specs.declared.FileRefusal.{FileRefusal}
use Rattle.numbers.specs.declared.FileRefusal.TheVariants.{Cut, Misplaced, Length}
use Rattle.records.specs.Record.{record_at}
use Rattle.records.specs.Rule.{fits}
use Rattle.records.specs.declared.Record.{Record}
use Rattle.records.specs.declared.Broken.{Broken}
use Rattle.records.specs.declared.Broken.TheVariants.{Header, Body}

-- p says which tags are allowed at this place
abbrev pub judge_by : (ℕ → Bool) → List ℕ → Result Record Broken → Result Record FileRefusal
judge_by p s (Ok r) = cond (p r.tag) (cond (fits s r.tag r.start r.len) (Ok r) (Err Length)) (Err Misplaced)
judge_by p s (Err (Body tag)) = cond (p tag) (Err Cut) (Err Misplaced)
judge_by p s (Err Header) = Err Cut

unfoldable pub judge_at : (ℕ → Bool) → List ℕ → ℕ → Result Record FileRefusal
judge_at p s at = judge_by p s (record_at s at)
