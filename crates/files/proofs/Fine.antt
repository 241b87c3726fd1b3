-- What a good record of a setup has: its length by its tag, the tag that is left, its room in the tables.
-- Assumes nothing.
use Rattle.std.proofs.Common.{ℕ, ◌+◌, ◌<◌, ◌≤◌, Bool, true, false, cond, ◌||◌, List, ◌≡◌, refl, arith, eqb, leb, get_or, leb-true, leb-false, eqb-true}
use Rattle.bounded.proofs.Truth.{and-true, or-false, passed}
use Rattle.tables.specs.Judge.{size_refusal, count_refusal}
use Rattle.records.specs.Rule.{rule_of, fits, values_fit, pairs_length, pairs_fit}
use Rattle.files.specs.Setup.{allowed}

-- lengths by tag
pub keys_length : (s : List ℕ) (start len : ℕ) → fits s 0x01 start len ≡ true → len ≤ 256
unfolding rule_of fits values_fit
keys_length s start len h = leb-true len 256 (and-true (leb len 256) _ (and-true (leb 4 len) _ h).1).0

pub group_length : (s : List ℕ) (start len : ℕ) → fits s 0x02 start len ≡ true → len ≡ 9
unfolding rule_of fits
group_length s start len h = eqb-true len 9 h

pub txn_length : (s : List ℕ) (start len : ℕ) → fits s 0x03 start len ≡ true → len ≡ pairs_length s start
unfolding rule_of fits pairs_fit
txn_length s start len h = eqb-true len _ (and-true (leb (2 + get_or s start 0) len) _ (and-true (leb 2 len) _ h).1).1

-- an allowed tag that is none of the others is TXN's
pub txn_left : (keys groups txns tag : ℕ) → allowed keys groups txns tag ≡ true → (tag ≡ 0x0F → ⊥) → (tag ≡ 0x01 → ⊥) → (tag ≡ 0x02 → ⊥) → tag ≡ 0x03
unfolding allowed
txn_left keys groups txns tag h e k g = by (eqb keys 0) (eqb groups 0) (eqb tag 0x02) refl h
  where
    last : (b : Bool) → eqb tag 0x03 ≡ b → (b || eqb tag 0x0F) ≡ true → tag ≡ 0x03
    last true q i = eqb-true tag 0x03 q
    last false q i = absurd (e (eqb-true tag 0x0F i))

    by : (p q r : Bool) → eqb tag 0x02 ≡ r → cond p (eqb tag 0x01) (cond q (eqb tag 0x02) (cond r (eqb txns 0) (eqb tag 0x03 || eqb tag 0x0F))) ≡ true → tag ≡ 0x03
    by true q r d i = absurd (k (eqb-true tag 0x01 i))
    by false true r d i = absurd (g (eqb-true tag 0x02 i))
    by false false true d i = absurd (g (eqb-true tag 0x02 d))
    by false false false d i = last (eqb tag 0x03) refl i

-- the tables have room for what is not refused
pub group_room : (keys g size n mask : ℕ) → size_refusal keys g size n mask ≡ 0 → g < 8
unfolding size_refusal
group_room keys g size n mask h = leb-false 8 g (or-false (leb 8 g) _ (passed 5 (omega arith) _ 0 h).0).0

pub txn_room : (t r w : ℕ) → count_refusal t r w ≡ 0 → t < 128
unfolding count_refusal
txn_room t r w h = leb-false 128 t (or-false (leb 128 t) _ (passed 5 (omega arith) _ 0 h).0).0
