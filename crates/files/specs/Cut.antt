-- Where setup ends: just after the first END met by walking the lengths; without one, all is setup.
use Rattle.std.specs.Prelude.{ℕ, suc, cond, List, length, eqb, Result, Ok, Err}
use Rattle.records.specs.Record.{record_at}
use Rattle.records.specs.declared.Record.{Record}
use Rattle.records.specs.declared.Broken.{Broken}
use Rattle.files.specs.Walk.{Turn, go, stop, walk}

-- past an END: there; past another record: on; else the file's end n
abbrev pub cut_by : ℕ → Result Record Broken → Turn ℕ ℕ
cut_by n (Ok r) = cond (eqb r.tag 0x0F) (stop r.next) (go r.next)
cut_by n (Err e) = stop n

unfoldable pub cut_turn : List ℕ → ℕ → Turn ℕ ℕ
cut_turn s at = cut_by (length s) (record_at s at)

unfoldable pub cut_of : List ℕ → ℕ
cut_of s = walk (cut_turn s) (length s) (suc (length s)) 0
