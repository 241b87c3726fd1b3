-- Why a part of a file is refused, and for the record at which byte.
use Rattle.std.specs.Prelude.{ℕ, Result, Ok, Err}
use Rattle.numbers.specs.declared.FileRefusal.{FileRefusal}
use Rattle.files.specs.declared.Refused.{Refused}

abbrev pub misfit : FileRefusal → ℕ → Refused ℕ
misfit r i = record { why = r; at = i }

-- what was found or its refusal, for the record at a byte
abbrev pub placed : {X : Type 0} → Result X FileRefusal → ℕ → Result X (Refused ℕ)
placed (Ok x) i = Ok x
placed (Err r) i = Err (misfit r i)
