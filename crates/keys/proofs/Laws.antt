-- The laws of sets of bits, over any width.
-- Assumes nothing.
use Rattle.std.proofs.Common.{ℕ, zero, suc, ◌+◌, ◌*◌, ◌%◌, ◌^◌, ◌<◌, ◌≤◌, ◌≡◌, refl, sym, ap, ◌∙◌, arith, Bool, true, false, ◌&&◌, ◌||◌, not, cond, eqb, ltb, eq-eqb, ne_eqb, ltb-true, ltb-false, bit_and, bit_or, min, max, inl, inr, pow_pos, lt_of_lt_of_le, w64}
use Rattle.std.proofs.Math.Nat.{div-eq_of_lt, pow-le-pow_right}
use Rattle.std.proofs.lemmas.Nat.Bits.{and_pow, bit_at-lt, bit_at_above, bit_at_and, bit_at_or, bit_at-pow_same, bit_at-pow_other, bit_at_clear_same, bit_at_clear_other, same_from_bits_below}
use Rattle.std.specs.Int.{bit_at, bit_not}
use Rattle.std.specs.Int.Bits.{and_lt, or_add_and}
use Rattle.bounded.proofs.Truth.{bool, clash, same}
use Rattle.bounded.proofs.Laws.{any_get, any_none, all_put, all_get}
use Rattle.keys.specs.Keys.{member, within, adding, meeting, including}

-- a set of width w has no member at w or above
pub high : (w m k : ℕ) → m < 2 ^ w → w ≤ k → member m k ≡ false
unfolding member
high w m k h l = ap (λ x. eqb x 1) (bit_at_above m w k h l)

-- a member of a set of width w is below w
pub low : (w m k : ℕ) → m < 2 ^ w → member m k ≡ true → k < w
low w m k h e = elim (bool (ltb k w)) [ inl l ↦ ltb-true k w l | inr l ↦ clash e (high w m k h (ltb-false k w l)) ]

pub all_within : (w m n : ℕ) → m < 2 ^ w → w ≤ n → within m n ≡ true
unfolding within
all_within w m n h l = rw (div-eq_of_lt {n = m} {m = 2 ^ n} (lt_of_lt_of_le h (pow-le-pow_right (omega arith) l)))

pub none_member : (k : ℕ) → member 0 k ≡ false
none_member k = high 0 0 k (omega arith) (omega arith)

-- what holds of the bits 0 and 1 holds of any bit
bits : (P : ℕ → Type 0) → P 0 → P 1 → (x : ℕ) → x < 2 → P x
bits P p q zero h = p
bits P p q (suc zero) h = q
bits P p q (suc (suc x)) h = absurd (omega arith)

-- the lesser of two bits is set where both are, the greater where one is
and_bit : (x : ℕ) → x < 2 → (y : ℕ) → y < 2 → eqb (min x y) 1 ≡ (eqb x 1 && eqb y 1)
and_bit =
    bits (λ x. (y : ℕ) → y < 2 → eqb (min x y) 1 ≡ (eqb x 1 && eqb y 1))
    (bits (λ y. eqb (min 0 y) 1 ≡ (eqb 0 1 && eqb y 1)) refl refl)
    (bits (λ y. eqb (min 1 y) 1 ≡ (eqb 1 1 && eqb y 1)) refl refl)

or_bit : (x : ℕ) → x < 2 → (y : ℕ) → y < 2 → eqb (max x y) 1 ≡ (eqb x 1 || eqb y 1)
or_bit =
    bits (λ x. (y : ℕ) → y < 2 → eqb (max x y) 1 ≡ (eqb x 1 || eqb y 1))
    (bits (λ y. eqb (max 0 y) 1 ≡ (eqb 0 1 || eqb y 1)) refl refl)
    (bits (λ y. eqb (max 1 y) 1 ≡ (eqb 1 1 || eqb y 1)) refl refl)

-- two bits that are set alike are equal
same_bit : (x : ℕ) → x < 2 → (y : ℕ) → y < 2 → eqb x 1 ≡ eqb y 1 → x ≡ y
same_bit =
    bits (λ x. (y : ℕ) → y < 2 → eqb x 1 ≡ eqb y 1 → x ≡ y)
    (bits (λ y. eqb 0 1 ≡ eqb y 1 → 0 ≡ y) (λ e. refl) (λ e. clash {b = false} e refl))
    (bits (λ y. eqb 1 1 ≡ eqb y 1 → 1 ≡ y) (λ e. clash {b = true} refl e) (λ e. refl))

-- a member of the conjunction is one of both sets, of the disjunction one of either
pub and_member : (a b k : ℕ) → member (bit_and a b) k ≡ (member a k && member b k)
unfolding member
and_member a b k = ap (λ x. eqb x 1) (bit_at_and a b k) ∙ and_bit (bit_at a k) (bit_at-lt a k) (bit_at b k) (bit_at-lt b k)

pub or_member : (a b k : ℕ) → member (bit_or a b) k ≡ (member a k || member b k)
unfolding member
or_member a b k = ap (λ x. eqb x 1) (bit_at_or a b k) ∙ or_bit (bit_at a k) (bit_at-lt a k) (bit_at b k) (bit_at-lt b k)

-- the set of one
pub one_member : (k j : ℕ) → member (2 ^ k) j ≡ eqb k j
unfolding member
one_member k j = elim (same j k) [
  | inl e ↦ rw (e, eq-eqb k k refl) (ap (λ x. eqb x 1) (bit_at-pow_same k))
  | inr d ↦ rw (ne_eqb k j (λ q. d (sym q))) (ap (λ x. eqb x 1) (bit_at-pow_other k j d))
]

-- two sets of width w that have the same members are equal
pub extensional : (w a b : ℕ) → a < 2 ^ w → b < 2 ^ w → ((k : ℕ) → k < w → member a k ≡ member b k) → a ≡ b
unfolding member
extensional w a b h g e = same_from_bits_below w a b h g (λ k l. same_bit (bit_at a k) (bit_at-lt a k) (bit_at b k) (bit_at-lt b k) (e k l))

-- with k: as it was where k is a member, else one more
pub or_one : (m k : ℕ) → bit_or m (2 ^ k) ≡ cond (member m k) m (adding m k)
unfolding member adding
or_one m k =
    bits (λ x. bit_and m (2 ^ k) ≡ x * 2 ^ k → bit_or m (2 ^ k) ≡ cond (eqb x 1) m (m + 2 ^ k))
    (λ e. omega (arith, or_add_and m (2 ^ k)))
    (λ e. omega (arith, or_add_and m (2 ^ k)))
    (bit_at m k)
    (bit_at-lt m k)
    (and_pow m k)

-- its members: k, and those that it had
pub or_one_member : (m k j : ℕ) → member (bit_or m (2 ^ k)) j ≡ (eqb k j || member m j)
or_one_member m k j = or_member m (2 ^ k) j ∙ rw (one_member k j) (swap (member m j) (eqb k j))
  where
    swap : (a b : Bool) → (a || b) ≡ (b || a)
    swap true true = refl
    swap true false = refl
    swap false true = refl
    swap false false = refl

-- k added to a set that lacks it is a member then, and the others are as they were
added : (m k j : ℕ) → member m k ≡ false → member (adding m k) j ≡ (eqb k j || member m j)
added m k j e = ap (λ x. member x j) (sym (or_one m k ∙ ap (λ b. cond b m (adding m k)) e)) ∙ or_one_member m k j

pub adding_same : (m k : ℕ) → member m k ≡ false → member (adding m k) k ≡ true
adding_same m k e = added m k k e ∙ rw (eq-eqb k k refl)

pub adding_other : (m k j : ℕ) → (j ≡ k → ⊥) → member m k ≡ false → member (adding m k) j ≡ member m j
adding_other m k j d e = added m k j e ∙ rw (ne_eqb k j (λ q. d (sym q)))

-- a set of width 64 without k
pub clear_member : (m k j : ℕ) → m < 2 ^ 64 → k < 64 → member (bit_and m (bit_not w64 (1 * 2 ^ k % 2 ^ 64))) j ≡ cond (eqb j k) false (member m j)
clear_member m k j h l = elim (same j k) [
  | inl e ↦ rw (e, eq-eqb k k refl) (unfold member in ap (λ x. eqb x 1) (bit_at_clear_same w64 m k l))
  | inr d ↦ rw (ne_eqb j k d) (elim (bool (ltb j 64)) [
    | inl q ↦ unfold member in ap (λ x. eqb x 1) (bit_at_clear_other w64 m k l j (ltb-true j 64 q) d)
    | inr q ↦ rw (high 64 m j h (ltb-false j 64 q)) (and_member m _ j ∙ rw (high 64 m j h (ltb-false j 64 q)))
  ])
]

-- sets of width 64 meet where their conjunction is not 0; the first is in the second where it is their conjunction
pub meeting_and : (a b : ℕ) → a < 2 ^ 64 → b < 2 ^ 64 → not (eqb (bit_and a b) 0) ≡ meeting a b
unfolding meeting
meeting_and a b h g = elim (bool (meeting a b)) [
  | inl e ↦
      let (k, l, q) = any_get 64 _ e in
      let d : bit_and a b ≡ 0 → ⊥ = λ z. clash (rw z at (and_member a b k ∙ q)) (none_member k) in
      rw (e, ne_eqb (bit_and a b) 0 d)
  | inr e ↦
      let z = extensional 64 (bit_and a b) 0 (and_lt 64 a b h g) (pow_pos 64) (λ k l. and_member a b k ∙ any_none 64 _ e k l ∙ sym (none_member k)) in
      rw (e, eq-eqb (bit_and a b) 0 z)
]

-- what an implication says of the conjunction, and back
implied : (p q : Bool) → (not p || q) ≡ true → (p && q) ≡ p
implied true q h = h
implied false q h = refl

implies : (p q : Bool) → (p && q) ≡ p → (not p || q) ≡ true
implies true q h = h
implies false q h = refl

pub including_and : (a b : ℕ) → a < 2 ^ 64 → b < 2 ^ 64 → eqb (bit_and a b) a ≡ including a b
unfolding including
including_and a b h g = elim (bool (including a b)) [
  | inl e ↦ rw e (eq-eqb (bit_and a b) a (extensional 64 (bit_and a b) a (and_lt 64 a b h g) h (λ k l. and_member a b k ∙ implied (member a k) (member b k) (all_get 64 _ e k l))))
  | inr e ↦ rw e (ne_eqb (bit_and a b) a (λ q. clash (all_put 64 _ (λ k l. implies (member a k) (member b k) (rw q at (sym (and_member a b k))))) e))
]
