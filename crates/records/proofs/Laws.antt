-- Numbers of any width; rows; a tag past the table has no rule; where a record lies.
-- Assumes nothing.
use Rattle.std.proofs.Common.{◌≡◌, ℕ, ◌+◌, ◌*◌, ◌^◌, ◌<◌, ◌≤◌, Bool, true, false, cond, List, length, get_or, set, eqb, leb, refl, arith, add-zero, zero-add, add-one, Ok, Err}
use native.Mathlib.Nat.{mul-suc, mul-le-mul_left}
use lib.Pow.{pow-add, pow_mono}
use borrow.Author.Tests.{ne_eqb, leb-true}
use Rattle.records.specs.Number.{number, row_of}
use Rattle.records.specs.Rule.{rule_of}
use Rattle.records.specs.Record.{record_at, length_at}
use Rattle.records.specs.declared.Rule.TheVariants.{NoTag}
use Rattle.records.specs.declared.Record.{Record}
use Rattle.records.specs.declared.Broken.TheVariants.{Header, Body}

pub number_up : (s : List ℕ) (at i : ℕ) → number s at (i + 1) ≡ number s at i * 256 + get_or s (at + i) 0
unfolding number
number_up s at i = rw add-one

-- a byte more
pub byte_more : (n v b : ℕ) → v < 2 ^ (8 * n) → b < 256 → v * 256 + b < 2 ^ (8 * (n + 1))
byte_more n v b hv hb =
    let e : 2 ^ (8 * (n + 1)) ≡ 2 ^ (8 * n) * 256 = rw (add-one, mul-suc 8 n) (pow-add 2 (8 * n) 8) in
    omega arith

-- fewer bytes fit where more do
pub narrower : (n w v : ℕ) → n ≤ w → v < 2 ^ (8 * n) → v < 2 ^ (8 * w)
narrower n w v h hv = let p : 2 ^ (8 * n) ≤ 2 ^ (8 * w) = pow_mono (omega arith) in omega arith

-- a byte is a number of one byte
pub byte : (s : List ℕ) (at : ℕ) → number s at 1 ≡ get_or s at 0
unfolding number
byte s at = rw (add-zero, zero-add)

-- a number more in a row, of any width and step
pub row_up : {A : Type 0} (f : ℕ → A) (w step : ℕ) (s : List ℕ) (at base : ℕ) (l : List A) (i : ℕ)
    → row_of f w step s at base l (i + 1) ≡ set (row_of f w step s at base l i) (base + i) (f (number s (at + step * i) w))
unfolding row_of
row_up f w step s at base l i = rw add-one

-- the places of a row
pub step_in : (step i n : ℕ) → i < n → step * i + step ≤ step * n
step_in step i n h = rw (mul-suc step i) at (mul-le-mul_left step h)

pub rule_past : (tag : ℕ) → 32 ≤ tag → rule_of tag ≡ NoTag
unfolding rule_of
rule_past tag h =
    simp (
      other 1 (omega arith),
      other 2 (omega arith),
      other 3 (omega arith),
      other 0x0F (omega arith),
      other 0x10 (omega arith),
      other 0x11 (omega arith),
      other 0x12 (omega arith),
      other 0x13 (omega arith),
      other 0x14 (omega arith),
      other 0x15 (omega arith),
    )
  where
    other : (k : ℕ) → k < 32 → eqb tag k ≡ false
    other k l = ne_eqb tag k (λ e. omega arith)

-- where the parts of a whole record lie
pub record Lies (s : List ℕ) (at : ℕ) (r : Record) : Type 0 where
  pub starts : r.start ≡ at + 3
  pub ends : r.next ≡ r.start + r.len
  pub within : r.next ≤ length s

pub whole_lies : {s : List ℕ} {at : ℕ} {r : Record} → record_at s at ≡ Ok r → Lies s at r
unfolding record_at
whole_lies {s} {at} {r} = by (leb (at + 3) (length s)) (leb (at + 3 + length_at s at) (length s)) refl
  where
    by : (p q : Bool) → leb (at + 3 + length_at s at) (length s) ≡ q →
        cond p (cond q (Ok (record { tag = get_or s at 0; start = at + 3; len = length_at s at; next = at + 3 + length_at s at })) (Err (Body (get_or s at 0)))) (Err Header) ≡ Ok r →
        Lies s at r
    by true true e h =
        let z : record { tag = get_or s at 0; start = at + 3; len = length_at s at; next = at + 3 + length_at s at } ≡ r = cc in
        rw (← z) (record { starts = refl; ends = refl; within = leb-true (at + 3 + length_at s at) (length s) e })
    by true false e h = cc
    by false q e h = cc
