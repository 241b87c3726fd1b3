-- What a file's reading gives: its listing, or its refusal with the record's offset.
-- Assumes nothing.
use Rattle.std.proofs.Common.{ℕ, ◌≤◌, List, length, take, drop, length-take-le, Ok, Err, ◌≡◌, arith}
use Rattle.numbers.specs.Numbers.{file_number}
use Rattle.files.specs.Cut.{cut_of}
use Rattle.files.specs.File.{limit, file_of}
use Rattle.files.specs.declared.Reading.{Reading}
use Rattle.files.specs.declared.Refused.{Refused}
use Rattle.files.specs.declared.Where.{Where}
use Rattle.files.specs.declared.Where.TheVariants.{InSetup, InSchedule}
use Rattle.files.proofs.Cutting.{cut_within}
use Rattle.files.proofs.Numbers.{Held, Low, file_held}
use Rattle.listing.specs.Listing.{listed, refused, offset_of, lines_of, listing_of}

-- the cut of the file
pub cut_in : (file : List ℕ) {k : ℕ} → k ≡ cut_of file → k ≤ length file
cut_in file e = rw e (cut_within file)

-- of a file in its two parts
module _ (file : List ℕ) {k : ℕ} {a b : List ℕ} {r : Reading Where} (cut : k ≡ cut_of file) (front : a ≡ take k file) (back : b ≡ drop k file) (read : r ≡ file_of a b) where
  held : Held (length a) (length b) r.outcome
  held = rw read (file_held a b)

  pub fine_lists : {u : Unit {0}} → r.outcome ≡ Ok u → listing_of file ≡ listed (lines_of r.tables b)
  unfolding listing_of
  fine_lists e = rw (← cut, ← front, ← back, ← read, e)

  pub fine_short : {u : Unit {0}} → r.outcome ≡ Ok u → length b ≤ limit
  fine_short {u} e = let h : Held (length a) (length b) (Ok u) = rw e at held in omega arith

  pub refusal_lists : {q : Refused Where} → r.outcome ≡ Err q → listing_of file ≡ refused (file_number q.why) (offset_of (length a) q.at)
  unfolding listing_of
  refusal_lists e =
      let n : length a ≡ k = rw front (length-take-le k file (cut_in file cut)) in
      rw (n, ← cut, ← front, ← back, ← read, e)

  pub refusal_low : {q : Refused Where} → r.outcome ≡ Err q → offset_of (length a) q.at ≤ limit
  refusal_low {q} e = let h : Held (length a) (length b) (Err q) = rw e at held in by q.at h.low
    where
      by : (w : Where) → Low (length a) w → offset_of (length a) w ≤ limit
      by (InSetup at) h = h
      by (InSchedule at) h = h
