-- A turn of the cut: past END or on past another record, else to the end of the file; so the cut lies in the file.
-- Assumes nothing.
use Rattle.std.proofs.Common.{ℕ, suc, ◌-◌, ◌<◌, ◌≤◌, Bool, true, false, cond, List, ◌≡◌, refl, arith, eqb, length, Result, Ok, Err}
use Rattle.records.specs.Record.{record_at}
use Rattle.records.specs.declared.Record.{Record}
use Rattle.records.specs.declared.Broken.{Broken}
use Rattle.records.proofs.Laws.{Lies, whole_lies}
use Rattle.files.specs.Walk.{Turn, go, stop}
use Rattle.files.specs.Cut.{cut_by, cut_turn, cut_of}
use Rattle.files.proofs.Walk.{Has, walk_has}

cut_is : (s : List ℕ) (at : ℕ) (P : Turn ℕ ℕ → Type 0) → P (stop (length s)) → ((r : Record) → Lies s at r → P (stop r.next) × P (go r.next)) → P (cut_turn s at)
unfolding cut_turn
cut_is s at P end whole = by (record_at s at) refl
  where
    tagged : (b : Bool) (next : ℕ) → P (stop next) × P (go next) → P (cond b (stop next) (go next))
    tagged true next h = h.0
    tagged false next h = h.1

    by : (f : Result Record Broken) → record_at s at ≡ f → P (cut_by (length s) f)
    by (Ok r) e = tagged (eqb r.tag 0x0F) r.next (whole r (whole_lies e))
    by (Err b) e = end

-- each turn that goes on leaves less of the file
pub cut_falls : (s : List ℕ) (at next : ℕ) → cut_turn s at ≡ go next → length s - next < length s - at
cut_falls s at to = cut_is s at (λ t. t ≡ go to → length s - to < length s - at) (λ h. cc)
    (λ r l. ((λ h. cc), (λ h. let e : r.next ≡ to = cc in omega (arith, l))))

pub cut_within : (s : List ℕ) → cut_of s ≤ length s
unfolding cut_of
cut_within s = walk_has (cut_turn s) (length s) (λ at. length s - at) (cut_falls s) to_end to_end
    (λ at h. cut_is s at (Has to_end to_end) (omega arith) (λ r l. (l.within, l.within))) (suc (length s)) 0 (omega arith) (omega arith)
  where
    to_end : ℕ → Type 0
    to_end at = at ≤ length s

-- where no record stands
pub other_ends : (n : ℕ) (f : Result Record Broken) → ((r : Record) → f ≡ Ok r → ⊥) → cut_by n f ≡ stop n
other_ends n (Ok r) h = absurd (h r refl)
other_ends n (Err b) h = refl
